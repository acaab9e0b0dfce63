use Rattle.std.proofs.Common.{take}
use Rattle.master.specs.Cuts.{Obeys}
use Rattle.master.specs.Rows.{row_places}
use Rattle.master.specs.Tables.{held}
use Rattle.master.proofs.table.CutTable.obeys.Given as goal

abbrev pub invariant-loop-cut : goal.invariant-loop-cut
invariant-loop-cut l = Obeys (row_places l.row) (take l.cut-index (held l.self))
