-- What the master looks for: the best permitted assignment that obeys the cuts.
use Rattle.std.specs.Prelude.{◌≡◌, ℕ, ◌<◌, Bool, ◌⊎◌, List, Option, MatchOption}
use Rattle.master.specs.Cuts.{Obeys}
use Rattle.master.specs.Rows.{row_places, Assigns, Permits, costs, Before}
use Rattle.master.specs.declared.cut.Cut.{Cut}
use Rattle.master.specs.declared.priced.Priced.{Priced}

-- the rows to choose from
pub record Candidate (n m : ℕ) (barred : ℕ → ℕ → Bool) (cuts : List Cut) (row : List ℕ) : Type 0 where
  pub assigns : Assigns n m row
  pub permitted : Permits barred row
  pub obeys : Obeys row cuts

-- one row is preferred to another: it is cheaper, or as cheap and before it
abbrev pub Earlier : ℕ → List ℕ → ℕ → List ℕ → Type 0
Earlier cost row cost' row' = (cost < cost') ⊎ ((cost ≡ cost') × Before row row')

-- the candidate that is preferred to every other one
pub record Best (n m : ℕ) (joined price : ℕ → ℕ → ℕ) (barred : ℕ → ℕ → Bool) (cuts : List Cut) (row : List ℕ) (cost : ℕ) : Type 0 where
  pub candidate : Candidate n m barred cuts row
  pub priced : cost ≡ costs joined price row
  pub first : (other : List ℕ) → Candidate n m barred cuts other → (row ≡ other) ⊎ Earlier cost row (costs joined price other) other

abbrev pub NoCandidate : (n m : ℕ) (barred : ℕ → ℕ → Bool) (cuts : List Cut) → Type 0
NoCandidate n m barred cuts = (row : List ℕ) → Candidate n m barred cuts row → ⊥

-- the best row with its cost, or nothing where there is no candidate
abbrev pub Finds : (n m : ℕ) (joined price : ℕ → ℕ → ℕ) (barred : ℕ → ℕ → Bool) (cuts : List Cut) → Option Priced → Type 0
Finds n m joined price barred cuts found = MatchOption found (NoCandidate n m barred cuts) (λ x. Best n m joined price barred cuts (row_places x.row) x.cost)

-- no two rows are best, nor one at two costs
abbrev pub OneBest : (n m : ℕ) (joined price : ℕ → ℕ → ℕ) (barred : ℕ → ℕ → Bool) (cuts : List Cut) → Type 0
OneBest n m joined price barred cuts =
    (row other : List ℕ) (cost cost' : ℕ) → Best n m joined price barred cuts row cost → Best n m joined price barred cuts other cost' → (row ≡ other) × (cost ≡ cost')
