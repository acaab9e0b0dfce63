-- What a bench can schedule, and what it is to enter a row there.
use Rattle.std.specs.Prelude.{◌≡◌, ℕ, ◌+◌, ◌≤◌, ◌⊎◌, List, set, Some, None, Option, ◌≢◌}
use Rattle.jobs.specs.Sets.{Has}
use Rattle.facilities.specs.declared.bench.Bench.{Bench}
use Rattle.facilities.specs.declared.rows.Window.{Window}
use Rattle.facilities.specs.Rows.{row_list, row, Fits, WindowOf}

-- the job has a row, may start at hour s, and then ends in time
abbrev pub MayStart : Option Window → ℕ → Type 0
MayStart None s = ⊥
MayStart (Some w) s = Fits w s

-- the hour at which the job ends that starts at hour s
abbrev pub end : Option Window → ℕ → ℕ
end None s = s
end (Some w) s = s + w.takes

-- start hours for the jobs of the set: each may start then, and of any two one ends no later than the other starts
pub record Schedule (rows : List (Option Window)) (set : ℕ) (start : ℕ → ℕ) : Type 0 where
  pub fits : (i : ℕ) → Has set i → MayStart (row rows i) (start i)
  pub apart : (i j : ℕ) → Has set i → Has set j → (i ≢ j) →
      (end (row rows i) (start i) ≤ start j) ⊎ (end (row rows j) (start j) ≤ start i)

abbrev pub Schedulable : List (Option Window) → ℕ → Type 0
Schedulable rows set = (start : ℕ → ℕ) × Schedule rows set start

-- the sets that a bench can schedule
abbrev pub bench_family : Bench → ℕ → Type 0
bench_family b set = Schedulable (row_list b.rows) set

-- a row with these numbers has taken the place of the job's old one, and nothing else is new
pub record RowEntered (job release takes due : ℕ) (before after : Bench) : Type 0 where
  pub new : Window
  pub numbers : WindowOf release takes due new
  pub rows : row_list after.rows ≡ set (row_list before.rows) job (Some new)
