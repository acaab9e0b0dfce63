-- The rows of the worked run: the jobs 0, 1 and 2 have one, and no other job has.
use Rattle.std.specs.Prelude.{◌≡◌, ℕ, ◌≤◌, List, Some, None, Option}
use Rattle.facilities.specs.declared.rows.Window.{Window}
use Rattle.facilities.specs.declared.stand.row.StandRow.{StandRow}
use Rattle.facilities.specs.Rows.{row, WindowOf}
use Rattle.facilities.specs.Stands.{RowOf}

-- the job has a row as described
abbrev pub RowIs : {R : Type 0} → List (Option R) → ℕ → (R → Type 0) → Type 0
RowIs {R} rows job P = (r : R) × (row rows job ≡ Some r) × P r

-- just these three rows
pub record Three {R : Type 0} (P Q S : R → Type 0) (rows : List (Option R)) : Type 0 where
  pub first : RowIs rows 0 P
  pub second : RowIs rows 1 Q
  pub third : RowIs rows 2 S
  pub others : (job : ℕ) → 3 ≤ job → row rows job ≡ None

abbrev pub BenchRows : List (Option Window) → Type 0
BenchRows = Three (WindowOf 0 3 5) (WindowOf 0 3 5) (WindowOf 10 1 12)

abbrev pub StandRows : List (Option StandRow) → Type 0
StandRows = Three (RowOf 0 3 5 2) (RowOf 0 3 5 2) (RowOf 10 1 12 1)
