use Rattle.std.proofs.Common.{take}
use Rattle.std.specs.List.{AllByRecursion}
use Rattle.master.specs.Cuts.{Within}
use Rattle.master.specs.Tables.{held}
use Rattle.master.proofs.table.CutTable.covers.Given as goal

abbrev pub invariant-loop-cut : goal.invariant-loop-cut
invariant-loop-cut l = AllByRecursion (λ d. Within d l.new → ⊥) (take l.cut-index (held l.self))
