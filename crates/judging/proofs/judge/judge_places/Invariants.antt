use Rattle.master.specs.Rows.{row_places}
use Rattle.master.specs.Tables.{held}
use Rattle.judging.proofs.Putting.{Judged}
use Rattle.judging.proofs.judge.judge_places.Given as goal

abbrev pub invariant-loop-place : goal.invariant-loop-place
invariant-loop-place g l = Judged g.W.Workshop.meaning l.initial.workshop (held l.initial.cuts) (row_places l.row) l.place l.workshop (held l.cuts) l.cut
