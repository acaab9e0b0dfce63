-- What a search answers of a trial's problem.
use Rattle.std.specs.Prelude.{◌≡◌, ℕ, List, [], Some, None, Option}
use Rattle.arrayvec.specs.ArrayVec.{ArrayVec}
use Rattle.facilities.specs.declared.trial.Trial.{Ghosts}
use Rattle.facilities.specs.Trials.{Solves, First}

-- the first list that solves the problem
abbrev pub FirstOf : {S P : Type 0} → Ghosts S P → P → List ℕ → Type 0
FirstOf t p xs = First (t.allowed p) (t.levels p) (t.choices p) xs

-- no list solves the problem
abbrev pub Unsolved : {S P : Type 0} → Ghosts S P → P → Type 0
Unsolved t p = (xs : List ℕ) → Solves (t.allowed p) (t.levels p) (t.choices p) xs → ⊥

-- what is answered, and which choices the trial then holds
abbrev pub Answers : {S P : Type 0} → Ghosts S P → P → Option (ArrayVec ℕ) → List ℕ → Type 0
Answers t p (Some xs) held = FirstOf t p xs.items × (held ≡ xs.items)
Answers t p None held = Unsolved t p × (held ≡ [])

-- a problem has one first list at most
abbrev pub OneFirst : {S P : Type 0} → Ghosts S P → P → Type 0
OneFirst t p = (xs ys : List ℕ) → FirstOf t p xs → FirstOf t p ys → xs ≡ ys
