use Rattle.std.proofs.Common.{ℕ, [], take}
use Rattle.planner.specs.Carried.{CarriesOut}
use Rattle.planner.specs.Runs.{Run}
use Rattle.planner.specs.Views.{state}
use Rattle.planner.proofs.run.run.Given as goal

-- the calls so far are carried out, whatever the planner was made with
abbrev pub invariant-loop-call : goal.invariant-loop-call
invariant-loop-call g l =
    (w : g.row.W.Denot) (measure : g.row.J.Denot) (n : ℕ) → Run g.W.Workshop.meaning g.J.Measure.joins w measure n [] (state l.initial.planner)
    → CarriesOut g.W.Workshop.meaning g.J.Measure.joins w measure n (take l.call-index l.calls) (record { planner = l.planner; last = l.last })
