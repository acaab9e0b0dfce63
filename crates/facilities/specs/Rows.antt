-- Rows, and when a job that has one may run.
use Rattle.std.specs.Prelude.{◌≡◌, ℕ, ◌+◌, ◌≤◌, Bool, ◌&&◌, List, Some, None, Ok, Err, Option, Result, nat_le, nat_lt, slice_index_or}
use Rattle.jobs.specs.declared.refusal.Refusal.{Refusal}
use Rattle.jobs.specs.declared.refusal.Refusal.TheVariants.{SupplyOutOfRange, NoSuchJob, BadRow}
use Rattle.jobs.specs.Refusals.{unless}
use Rattle.jobs.specs.Sets.{width}
use Rattle.facilities.specs.declared.rows.Rows.{Rows}
use Rattle.facilities.specs.declared.rows.Window.{Window}

-- the rows as a list, that of job i at place i
abbrev pub row_list : {R : Type 0} → Rows R → List (Option R)
row_list r = r.held

-- the row of job i, if it has one
abbrev pub row : {R : Type 0} → List (Option R) → ℕ → Option R
row rows i = slice_index_or rows i None

-- a day has the hours 0 to 239, and what is due by hour 240 ends with the last of them
abbrev pub hours : ℕ
hours = 240

-- the job may start at hour s, and then ends in time
abbrev pub Fits : Window → ℕ → Type 0
Fits w s = (w.release ≤ s) × (s + w.takes ≤ w.due)

-- the numbers of a row go together: the job takes time, can be done between its hours, and these lie in the day
abbrev pub in_day : ℕ → ℕ → ℕ → Bool
in_day release takes due = nat_lt 0 takes && (nat_le (release + takes) due && nat_le due hours)

-- the numbers of a window
pub record WindowOf (release takes due : ℕ) (w : Window) : Type 0 where
  pub release_is : w.release ≡ release
  pub takes_is : w.takes ≡ takes
  pub due_is : w.due ≡ due

-- why a bench refuses a row
abbrev pub bench_refusal : (job release takes due : ℕ) → Option Refusal
bench_refusal job release takes due = unless (nat_lt job width) NoSuchJob (unless (in_day release takes due) BadRow None)

-- the supplies of stands that take rows
abbrev pub in_range : (supply : ℕ) → Bool
in_range supply = nat_lt 0 supply && nat_le supply 255

-- what a row may draw from a supply
abbrev pub feeds : (supply draw : ℕ) → Bool
feeds supply draw = nat_lt 0 draw && nat_le draw supply

-- why a stand refuses a row
abbrev pub stand_refusal : (supply job release takes due draw : ℕ) → Option Refusal
stand_refusal supply job release takes due draw =
    unless (in_range supply) SupplyOutOfRange
    (unless (nat_lt job width) NoSuchJob
    (unless (in_day release takes due && feeds supply draw) BadRow None))

-- A refused call answers its refusal and leaves the facility as it was. Any other is answered with Ok, and does as described.
abbrev pub Entry : {F : Type 0} → Option Refusal → Result (Unit {0}) Refusal → (before after : F) → Type 0 → Type 0
Entry (Some e) r before after done = (r ≡ Err e) × (after ≡ before)
Entry None r before after done = (r ≡ Ok tt) × done
