use Rattle.std.proofs.Common.{refl}
use Rattle.planner.specs.Calls.{Grant, Done}
use Rattle.planner.specs.Steps.Accepts.{grant}
use Rattle.planner.proofs.Stepping.{answered_ok, left, idle_serves, accepted_serves}
use Rattle.planner.proofs.planner.Planner.grant.Goals as goal

pub returns-in_err-check_sizes : goal.returns-in_err-check_sizes
returns-in_err-check_sizes g c =
    rw (left c.from_residual.result c.in_err-check_sizes.field-0.0 c.from_residual.ensures.1)
    (idle_serves g.W.Workshop.meaning g.J.Measure.joins g.met.W.Workshop.lawful c.args.self.now (Grant c.args.amount) _ _ c.in_err-check_sizes.ensures)

pub returns : goal.returns
returns g c =
    accepted_serves g.W.Workshop.meaning g.J.Measure.joins g.met.W.Workshop.lawful c.args.self.now _ _ (Grant c.args.amount) Done Done
    refl refl (answered_ok _ _ _ c.in_ok-check_sizes.ensures).0 (grant c.args.amount c.grant.new.self c.grant.ensures.grants)
