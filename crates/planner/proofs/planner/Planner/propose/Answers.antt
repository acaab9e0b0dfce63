use Rattle.std.proofs.Common.{◌≡◌, refl, arith, rules}
use Rattle.planner.specs.Calls.{Propose}
use Rattle.planner.specs.Steps.{last_round}
use Rattle.planner.specs.Steps.Refuses.{rounds}
use Rattle.planner.proofs.Stepping.{answered_ok, left, idle_serves, refused_serves, propose_serves}
use Rattle.planner.proofs.planner.Planner.propose.Goals as goal

pub returns-in_err-tariff : goal.returns-in_err-tariff
returns-in_err-tariff g c =
    rw (left c.from_residual.result c.in_err-tariff.field-0.0 c.from_residual.ensures.1)
    (idle_serves g.W.Workshop.meaning g.J.Measure.joins g.met.W.Workshop.lawful c.args.self.now Propose _ _ c.in_err-tariff.ensures)

pub returns-then-self : goal.returns-then-self
returns-then-self g c =
    let worn : c.args.self.now.round ≡ last_round = omega arith in
    refused_serves g.W.Workshop.meaning g.J.Measure.joins g.met.W.Workshop.lawful c.args.self.now Propose _ _ refl
    (rounds (answered_ok _ _ _ c.in_ok-tariff.ensures).0 worn)

pub returns : goal.returns
returns g c =
    let fit = answered_ok _ _ _ c.in_ok-tariff.ensures in
    propose_serves g.W.Workshop.meaning g.J.Measure.joins g.met.W.Workshop.lawful c.args.self.now _ c.in_ok-tariff.tariff c.cheapest-found.result c.map.result
    refl fit.0 (λ e. omega arith) fit.1 c.cheapest-found.ensures.found _ (λ x y k. search rules) c.map.ensures.cases
