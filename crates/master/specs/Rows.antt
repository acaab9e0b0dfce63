-- Rows: the place of each job, from job 0 on.
use Rattle.std.specs.Prelude.{◌≡◌, ℕ, suc, ◌<◌, Bool, false, ◌⊎◌, List, [], ◌∷◌, length, take, Some}
use Rattle.std.specs.List.{AllByRecursion, slice_get}
use Rattle.jobs.specs.Sets.{Has}
use Rattle.jobs.specs.Words.{Same}
use Rattle.master.specs.declared.row.Row.{Row}

-- the places of a row's jobs
abbrev pub row_places : Row → List ℕ
row_places r = take r.jobs r.places

-- the row has the job, and gives it the place
abbrev pub Gives : List ℕ → ℕ → ℕ → Type 0
Gives row job place = slice_get row job ≡ Some place

-- the set has just the jobs that are given the place
abbrev pub Group : List ℕ → ℕ → ℕ → Type 0
Group row place set = (job : ℕ) → Same (Has set job) (Gives row job place)

-- each of n jobs has one of m places
pub record Assigns (n m : ℕ) (row : List ℕ) : Type 0 where
  pub jobs : length row ≡ n
  pub places : AllByRecursion (λ place. place < m) row

-- no job has a place that is barred to it
abbrev pub Permits : (ℕ → ℕ → Bool) → List ℕ → Type 0
Permits barred row = (job place : ℕ) → Gives row job place → barred job place ≡ false

-- the total so far, joined by the prices of the jobs from the given one on
abbrev pub joins_from : (ℕ → ℕ → ℕ) → (ℕ → ℕ → ℕ) → ℕ → ℕ → List ℕ → ℕ
joins_from joined price total job [] = total
joins_from joined price total job (place ∷ row) = joins_from joined price (joined total (price job place)) (suc job) row

-- what a row costs: 0, joined by its jobs' prices in job order
abbrev pub costs : (ℕ → ℕ → ℕ) → (ℕ → ℕ → ℕ) → List ℕ → ℕ
costs joined price row = joins_from joined price 0 0 row

-- smaller at the first difference
abbrev pub Before : List ℕ → List ℕ → Type 0
Before [] ys = ⊥
Before (x ∷ xs) [] = ⊥
Before (x ∷ xs) (y ∷ ys) = (x < y) ⊎ ((x ≡ y) × Before xs ys)
