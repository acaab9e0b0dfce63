-- Shrinking a set that is not in a family: each of its jobs is left out on trial.
-- Nothing here knows what the family is that of.
use Rattle.std.specs.Prelude.{◌≡◌, ℕ, List, [], ◌∷◌}
use Rattle.jobs.specs.Sets.{Has, Part, without, jobs_of}

-- One trial: the job stays where the set without it is in the family, and stays out where it is not.
pub data Tried (family : ℕ → Type 0) (set job left : ℕ) : Type 0 where
  stays : family (without set job) → left ≡ set → Tried family set job left
  goes : (family (without set job) → ⊥) → left ≡ without set job → Tried family set job left

-- what is left of the set once these jobs were tried, one after the other
abbrev pub Shrinks : (ℕ → Type 0) → List ℕ → ℕ → ℕ → Type 0
Shrinks family [] set t = t ≡ set
Shrinks family (j ∷ js) set t = (left : ℕ) × Tried family set j left × Shrinks family js left t

-- The set is not in the family, and t is left of it once all of its jobs were tried, from the lowest.
pub record Shrunk (family : ℕ → Type 0) (set t : ℕ) : Type 0 where
  pub fails : family set → ⊥
  pub shrinks : Shrinks family (jobs_of set) set t

-- a part of the set that is not in the family, and is with any one of its jobs left out
pub record Minimal (family : ℕ → Type 0) (set t : ℕ) : Type 0 where
  pub part : Part t set
  pub fails : family t → ⊥
  pub tight : (j : ℕ) → Has t j → family (without t j)

-- no two numbers have the property
abbrev pub AtMostOne : (ℕ → Type 0) → Type 0
AtMostOne P = (t u : ℕ) → P t → P u → t ≡ u
