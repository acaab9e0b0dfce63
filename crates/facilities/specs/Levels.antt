-- Jobs that are given choices one after the other, as a trial does. Only trials speak of it.
use Rattle.std.specs.Prelude.{ℕ, ◌+◌, cond, List, [], ◌∷◌, ◌==◌}

-- the first of the jobs js have the choices xs, and each fits
abbrev pub Given : (fit : ℕ → ℕ → Type 0) → (js xs : List ℕ) → Type 0
Given fit js [] = Unit {0}
Given fit [] (x ∷ xs) = ⊥
Given fit (j ∷ js) (x ∷ xs) = fit j x × Given fit js xs

-- what these jobs have together, where `amount` says what a job with its choice has
abbrev pub total : (amount : ℕ → ℕ → ℕ) → (js xs : List ℕ) → ℕ
total amount js [] = 0
total amount [] (x ∷ xs) = 0
total amount (j ∷ js) (x ∷ xs) = amount j x + total amount js xs

-- the choice that job i was given, or 0 where it was given none
abbrev pub choice_of : (js xs : List ℕ) → ℕ → ℕ
choice_of js [] i = 0
choice_of [] (x ∷ xs) i = 0
choice_of (j ∷ js) (x ∷ xs) i = cond (i == j) x (choice_of js xs i)
