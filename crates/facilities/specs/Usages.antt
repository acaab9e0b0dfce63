-- What is drawn in each hour of a day, as a table. Only the stand's trial speaks of it.
use Rattle.std.specs.Prelude.{ℕ, List, slice_index}
use Rattle.facilities.specs.declared.stand.usage.Usage.{Usage}

abbrev pub table : Usage → List ℕ
table u = u.drawn

-- what is drawn in hour h
abbrev pub at : List ℕ → ℕ → ℕ
at t h = slice_index t h
