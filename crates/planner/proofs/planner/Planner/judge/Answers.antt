use Rattle.std.proofs.Common.{refl}
use Rattle.judging.specs.Judging.{Ends}
use Rattle.judging.specs.Refused.{judge_refusal}
use Rattle.master.specs.Rows.{row_places}
use Rattle.master.specs.Tables.{held}
use Rattle.planner.specs.Calls.{Judge}
use Rattle.planner.specs.Steps.Accepts.{judgement}
use Rattle.planner.specs.Steps.Refuses.{judge}
use Rattle.planner.proofs.Stepping.{answered_ok, left, idle_serves, refused_serves, accepted_serves}
use Rattle.planner.proofs.planner.Planner.judge.Goals as goal

pub returns-in_err-check_sizes : goal.returns-in_err-check_sizes
returns-in_err-check_sizes g c =
    let x = c.args.proposal.priced in
    rw (left c.from_residual.result c.in_err-check_sizes.field-0.0 c.from_residual.ensures.1)
    (idle_serves g.W.Workshop.meaning g.J.Measure.joins g.met.W.Workshop.lawful c.args.self.now (Judge (row_places x.row) x.cost) _ _ c.in_err-check_sizes.ensures)

pub returns-then-not-is_pending : goal.returns-then-not-is_pending
returns-then-not-is_pending g c =
    let x = c.args.proposal.priced in
    refused_serves g.W.Workshop.meaning g.J.Measure.joins g.met.W.Workshop.lawful c.args.self.now (Judge (row_places x.row) x.cost) _ _ refl
    (judge (row_places x.row) x.cost (answered_ok _ _ _ c.in_ok-check_sizes.ensures).0 c.if-not-is_pending.ensures)

pub returns : goal.returns
returns g c =
    let m = g.W.Workshop.meaning in
    let old = c.args.self.now in
    let x = c.args.proposal.priced in
    let cuts = held c.judge_row.new.cuts in
    let count = m.count old.workshop in
    let ends = answered_ok (judge_refusal count) c.in_ok-outcome.outcome
    (λ o. Ends m old.workshop (held old.cuts) (row_places x.row) count o c.judge_row.new.workshop cuts) c.in_ok-outcome.ensures.ends in
    accepted_serves g.W.Workshop.meaning g.J.Measure.joins g.met.W.Workshop.lawful c.args.self.now _ _ (Judge (row_places x.row) x.cost) _ _
    refl c.concluded.ensures (answered_ok _ _ _ c.in_ok-check_sizes.ensures).0
    (judgement (row_places x.row) x.cost c.in_ok-outcome.outcome c.judge_row.new.workshop cuts c.if-not-is_pending.ensures ends.1)
