-- What a trial does with one choice, and which list of choices a search looks for.
use Rattle.std.specs.Prelude.{◌≡◌, ℕ, ◌<◌, Bool, true, false, ◌⊎◌, List, [], ◌∷◌, ◌++◌, length}
use Rattle.jobs.specs.Sets.{width}

-- a trial has a level for each job at most, and this many choices at each
abbrev pub most_levels : ℕ
most_levels = width

abbrev pub most_choices : ℕ
most_choices = 1024

-- the choice is taken exactly where the longer list is allowed
abbrev pub Took : (List ℕ → Type 0) → List ℕ → ℕ → Bool → List ℕ → Type 0
Took allowed before choice true after = allowed (before ++ choice ∷ []) × (after ≡ before ++ choice ∷ [])
Took allowed before choice false after = (allowed (before ++ choice ∷ []) → ⊥) × (after ≡ before)

-- the last choice is given back
abbrev pub Gave : List ℕ → List ℕ → Type 0
Gave before after = (choice : ℕ) × (before ≡ after ++ choice ∷ [])

-- each choice of the list is one of the n choices 0, 1, .. , n - 1
abbrev pub Within : ℕ → List ℕ → Type 0
Within n [] = Unit {0}
Within n (x ∷ xs) = (x < n) × Within n xs

-- an allowed list of full length
pub record Solves (allowed : List ℕ → Type 0) (levels choices : ℕ) (xs : List ℕ) : Type 0 where
  pub full : length xs ≡ levels
  pub within : Within choices xs
  pub stands : allowed xs

-- xs stands before ys: at the first place where they differ, xs has the smaller choice
abbrev pub Before : List ℕ → List ℕ → Type 0
Before [] ys = ⊥
Before (x ∷ xs) [] = ⊥
Before (x ∷ xs) (y ∷ ys) = (x < y) ⊎ ((x ≡ y) × Before xs ys)

-- the first solution: a solution, and none stands before it
pub record First (allowed : List ℕ → Type 0) (levels choices : ℕ) (xs : List ℕ) : Type 0 where
  pub solves : Solves allowed levels choices xs
  pub least : (ys : List ℕ) → Solves allowed levels choices ys → Before ys xs → ⊥
