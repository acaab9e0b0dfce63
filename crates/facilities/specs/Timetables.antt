-- Start hours given to jobs one after the other. Only the stand's trial speaks of it.
use Rattle.std.specs.Prelude.{◌≡◌, ℕ, ◌<◌, ◌≤◌, List, Option}
use Rattle.jobs.specs.declared.set.JobSet.{JobSet}
use Rattle.facilities.specs.declared.rows.Rows.{Rows}
use Rattle.facilities.specs.declared.stand.row.StandRow.{StandRow}
use Rattle.facilities.specs.declared.stand.timetable.Demand.{Demand}
use Rattle.facilities.specs.Draws.{draws, Overdrawn}
use Rattle.facilities.specs.Levels.{Given, total}
use Rattle.facilities.specs.Rows.{row, hours}
use Rattle.facilities.specs.Stands.{MayStart}
use Rattle.facilities.specs.Usages.{at}

-- these jobs on a stand with this supply and these rows
abbrev pub demand_of : (supply : ℕ) → Rows StandRow → JobSet → Demand
demand_of supply rows set = record { supply = supply; rows = rows; set = set }

-- the first of the jobs js may start at the hours xs
abbrev pub Timed : List (Option StandRow) → (js xs : List ℕ) → Type 0
Timed rows js xs = Given (λ j x. MayStart (row rows j) x) js xs

-- what they together draw in hour h
abbrev pub used : List (Option StandRow) → (js xs : List ℕ) (h : ℕ) → ℕ
used rows js xs h = total (λ j x. draws (row rows j) x h) js xs

-- the hours xs are allowed
pub record Allowed (rows : List (Option StandRow)) (supply : ℕ) (js xs : List ℕ) : Type 0 where
  pub timed : Timed rows js xs
  pub supplied : (h : ℕ) → h < hours → used rows js xs h ≤ supply

-- `listed` are the jobs, their rows are fed, the hours taken so far are allowed, and the table says what is drawn then
pub record Sound (rows : List (Option StandRow)) (supply : ℕ) (js listed xs table : List ℕ) : Type 0 where
  pub all : listed ≡ js
  pub fed : Overdrawn supply rows → ⊥
  pub stands : Allowed rows supply js xs
  pub filled : (h : ℕ) → h < hours → at table h ≡ used rows js xs h
