use Rattle.std.proofs.Common.{[], sym, subst}
use Rattle.jobs.specs.Sets.{width}
use Rattle.master.specs.Refused.{most_places}
use Rattle.master.specs.Tables.{held}
use Rattle.planner.specs.Laws.{Runs}
use Rattle.planner.specs.States.{State}
use Rattle.planner.proofs.RunLaw.{runs_made}
use Rattle.planner.proofs.Stepping.{made_fresh}
use Rattle.planner.proofs.planner.Planner.new.Goals as goal

pub returns : goal.returns
returns g c =
    let m = g.W.Workshop.meaning in
    let joins = g.J.Measure.joins in
    let made = made_fresh c.args.workshop c.args.measure c.args.jobs width most_places c.full.result (held c.new.result) c.full.ensures c.new.ensures in
    record {
      made = made;
      law = subst (λ (s : State g.row.W.Denot g.row.J.Denot). Runs m joins c.args.workshop c.args.measure c.args.jobs [] s) (sym made)
          (runs_made m joins g.met.W.Workshop.lawful c.args.workshop c.args.measure c.args.jobs);
    }
