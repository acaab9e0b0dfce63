-- What is seen of a cut table: the cuts that it holds.
use Rattle.std.specs.Prelude.{List}
use Rattle.master.specs.declared.cut.Cut.{Cut}
use Rattle.master.specs.declared.table.CutTable.{CutTable}

abbrev pub held : CutTable → List Cut
held t = t.cuts.items
