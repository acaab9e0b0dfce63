-- What a stand can schedule, and what it is to enter a row there.
use Rattle.std.specs.Prelude.{◌≡◌, ℕ, ◌<◌, ◌≤◌, List, set, Some, None, Option}
use Rattle.jobs.specs.Sets.{Has}
use Rattle.facilities.specs.declared.stand.row.StandRow.{StandRow}
use Rattle.facilities.specs.declared.stand.Stand.{Stand}
use Rattle.facilities.specs.Rows.{row, row_list, hours, Fits, WindowOf}
use Rattle.facilities.specs.Draws.{load}

-- the job has a row, may start at hour s, and then ends in time
abbrev pub MayStart : Option StandRow → ℕ → Type 0
MayStart None s = ⊥
MayStart (Some r) s = Fits r.window s

-- start hours for the jobs of the set: each may start then, and at no hour do they draw more than the supply
pub record Schedule (rows : List (Option StandRow)) (supply set : ℕ) (start : ℕ → ℕ) : Type 0 where
  pub fits : (i : ℕ) → Has set i → MayStart (row rows i) (start i)
  pub supplied : (h : ℕ) → h < hours → load rows set start h ≤ supply

abbrev pub Schedulable : List (Option StandRow) → (supply set : ℕ) → Type 0
Schedulable rows supply set = (start : ℕ → ℕ) × Schedule rows supply set start

-- the sets that a stand can schedule
abbrev pub stand_family : Stand → ℕ → Type 0
stand_family s set = Schedulable (row_list s.rows) s.supply set

-- the numbers of a stand's row
pub record RowOf (release takes due draw : ℕ) (r : StandRow) : Type 0 where
  pub window_of : WindowOf release takes due r.window
  pub draw_is : r.draw ≡ draw

-- a row with these numbers has taken the place of the job's old one, and nothing else is new
pub record RowEntered (job release takes due draw : ℕ) (before after : Stand) : Type 0 where
  pub new : StandRow
  pub numbers : RowOf release takes due draw new
  pub rows : row_list after.rows ≡ set (row_list before.rows) job (Some new)
  pub supply : after.supply ≡ before.supply
