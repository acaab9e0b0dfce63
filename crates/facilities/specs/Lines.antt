-- The line of jobs with which the search tries the bench. This is inner: no public call speaks of it.
use Rattle.std.specs.Prelude.{◌≡◌, ℕ, List, [], ◌∷◌, map, Some, None, Option}
use Rattle.jobs.specs.Sets.{bits, Has, without}
use Rattle.jobs.specs.declared.set.JobSet.{JobSet}
use Rattle.facilities.specs.declared.bench.line.Batch.{Batch}
use Rattle.facilities.specs.declared.bench.line.Moment.{Moment}
use Rattle.facilities.specs.declared.bench.line.Step.{Step}
use Rattle.facilities.specs.declared.rows.Rows.{Rows}
use Rattle.facilities.specs.declared.rows.Window.{Window}
use Rattle.facilities.specs.Benches.{MayStart}
use Rattle.facilities.specs.Orders.{earliest, end_from}
use Rattle.facilities.specs.Rows.{row}

-- these jobs on a bench with these rows
abbrev pub batch_of : Rows Window → JobSet → Batch
batch_of rows set = record { rows = rows; set = set }

-- with the jobs of the set still to run, job x can be the next from hour t on
pub record Next (rows : List (Option Window)) (set t x : ℕ) : Type 0 where
  pub waits : Has set x
  pub fits : MayStart (row rows x) (earliest (row rows x) t)

-- the jobs xs, all of the set, can run in this order from hour t on
abbrev pub Lined : List (Option Window) → (set t : ℕ) → List ℕ → Type 0
Lined rows set t [] = Unit {0}
Lined rows set t (x ∷ xs) = Next rows set t x × Lined rows (without set x) (end_from (row rows x) t) xs

-- one job later, or that it cannot be the next
pub record Later (rows : List (Option Window)) (m : Moment) (x : ℕ) (n : Moment) : Type 0 where
  pub can : Next rows (bits m.left) m.hour x
  pub rest : bits n.left ≡ without (bits m.left) x
  pub hour : n.hour ≡ end_from (row rows x) m.hour

abbrev pub After : List (Option Window) → Moment → ℕ → Option Moment → Type 0
After rows m x (Some n) = Later rows m x n
After rows m x None = Next rows (bits m.left) m.hour x → ⊥

-- the jobs of the steps, in order
abbrev pub chosen : List Step → List ℕ
chosen ss = map (λ s. s.job) ss

-- the steps lead from moment m to moment n, each by a job that can be the next
abbrev pub Leads : List (Option Window) → (m : Moment) → List Step → (n : Moment) → Type 0
Leads rows m [] n = n ≡ m
Leads rows m (s ∷ ss) n = (k : Moment) × (s.before ≡ m) × Later rows m s.job k × Leads rows k ss n

-- the day's first moment: no job of the set has run
abbrev pub morning : JobSet → Moment
morning set = record { left = set; hour = 0 }
