-- Choices given to jobs one after the other, over any rule of fit and any amount.
use Rattle.std.specs.Prelude.{◌≡◌, ℕ, ◌+◌, ◌<◌, ◌≤◌, List, [], ◌∷◌, ◌++◌, map, length, sum_by, ◌==◌, ◌≢◌, slice_index, refl}
use Rattle.std.proofs.Common.{ap, ◌∙◌, arith}
use Rattle.std.specs.List.{All}
use Rattle.std.proofs.lemmas.List.Elements.{All-nil, All-cons, All-head, All-tail}
use Rattle.std.proofs.lemmas.List.Sums.{sum_by-cons}
use Rattle.std.proofs.lemmas.Bool.{eq-eqb, ne_eqb, cond-true, cond-false}
use Rattle.facilities.specs.Trials.{Within}
use Rattle.facilities.specs.Levels.{Given, total, choice_of}

module _ (fit : ℕ → ℕ → Type 0) where
  pub given_front : (js xs ys : List ℕ) → Given fit js (xs ++ ys) → Given fit js xs
  given_front js [] ys g = tt
  given_front [] (x ∷ xs) ys g = g
  given_front (j ∷ js) (x ∷ xs) ys g = (g.0, given_front js xs ys g.1)

  -- one choice more
  pub given_push : (js xs : List ℕ) (x : ℕ) → length xs < length js → Given fit js xs → fit (slice_index js (length xs)) x → Given fit js (xs ++ x ∷ [])
  given_push [] [] x l g f = let z : ⊥ = omega arith in absurd z
  given_push (j ∷ js) [] x l g f = (f, tt)
  given_push [] (y ∷ xs) x l g f = g
  given_push (j ∷ js) (y ∷ xs) x l g f = (g.0, given_push js xs x (omega arith) g.1 f)

  pub given_last : (js xs : List ℕ) (x : ℕ) → Given fit js (xs ++ x ∷ []) → fit (slice_index js (length xs)) x
  given_last [] [] x g = absurd g
  given_last (j ∷ js) [] x g = g.0
  given_last [] (y ∷ xs) x g = absurd g
  given_last (j ∷ js) (y ∷ xs) x g = given_last js xs x g.1

  pub given_short : (js xs : List ℕ) → Given fit js xs → length xs ≤ length js
  given_short js [] g = omega arith
  given_short [] (x ∷ xs) g = absurd g
  given_short (j ∷ js) (x ∷ xs) g = omega (arith, given_short js xs g.1)

  pub given_within : (n : ℕ) → ((j x : ℕ) → fit j x → x < n) → (js xs : List ℕ) → Given fit js xs → Within n xs
  given_within n below js [] g = tt
  given_within n below [] (x ∷ xs) g = absurd g
  given_within n below (j ∷ js) (x ∷ xs) g = (below j x g.0, given_within n below js xs g.1)

  -- all jobs have the choices that a function gives them
  pub given_map : (start : ℕ → ℕ) (js : List ℕ) → All (λ j. fit j (start j)) js → Given fit js (map start js)
  given_map start [] a = tt
  given_map start (j ∷ js) a = (All-head (λ i. fit i (start i)) j js a, given_map start js (All-tail (λ i. fit i (start i)) j js a))

  pub map_given : (start : ℕ → ℕ) (js : List ℕ) → Given fit js (map start js) → All (λ j. fit j (start j)) js
  map_given start [] g = All-nil (λ i. fit i (start i))
  map_given start (j ∷ js) g = All-cons (λ i. fit i (start i)) j js g.0 (map_given start js g.1)

module _ (amount : ℕ → ℕ → ℕ) where
  pub total_front : (js xs ys : List ℕ) → total amount js xs ≤ total amount js (xs ++ ys)
  total_front js [] ys = omega arith
  total_front [] (x ∷ xs) ys = omega arith
  total_front (j ∷ js) (x ∷ xs) ys = omega (arith, total_front js xs ys)

  pub total_push : (js xs : List ℕ) (x : ℕ) → length xs < length js → total amount js (xs ++ x ∷ []) ≡ total amount js xs + amount (slice_index js (length xs)) x
  total_push [] [] x l = let z : ⊥ = omega arith in absurd z
  total_push (j ∷ js) [] x l = omega arith
  total_push [] (y ∷ xs) x l = let z : ⊥ = omega arith in absurd z
  total_push (j ∷ js) (y ∷ xs) x l = omega (arith, total_push js xs x (omega arith))

  pub total_map : (start : ℕ → ℕ) (js : List ℕ) → total amount js (map start js) ≡ sum_by (λ j. amount j (start j)) js
  total_map start [] = refl
  total_map start (j ∷ js) = omega (arith, total_map start js, sum_by-cons (λ i. amount i (start i)) j js)

-- no job stands twice in the list
abbrev pub Apart : List ℕ → Type 0
Apart [] = Unit {0}
Apart (j ∷ js) = All (λ i. i ≢ j) js × Apart js

-- a function that differs from another at j only gives the same to other jobs
choice_later : (js : List ℕ) (xs : List ℕ) (j x : ℕ) (is : List ℕ) → All (λ i. i ≢ j) is → map (choice_of (j ∷ js) (x ∷ xs)) is ≡ map (choice_of js xs) is
choice_later js xs j x [] a = refl
choice_later js xs j x (i ∷ is) a =
    ap (λ (k : ℕ). k ∷ map (choice_of (j ∷ js) (x ∷ xs)) is) (cond-false (i == j) x (choice_of js xs i) (ne_eqb i j (All-head (λ k. k ≢ j) i is a)))
    ∙ ap (λ (ks : List ℕ). choice_of js xs i ∷ ks) (choice_later js xs j x is (All-tail (λ k. k ≢ j) i is a))

-- the choices of a full list are those that its jobs were given
pub choices_back : (js xs : List ℕ) → Apart js → length xs ≡ length js → map (choice_of js xs) js ≡ xs
choices_back [] [] a l = refl
choices_back [] (x ∷ xs) a l = let z : ⊥ = omega arith in absurd z
choices_back (j ∷ js) [] a l = let z : ⊥ = omega arith in absurd z
choices_back (j ∷ js) (x ∷ xs) a l =
    ap (λ (k : ℕ). k ∷ map (choice_of (j ∷ js) (x ∷ xs)) js) (cond-true (j == j) x (choice_of js xs j) (eq-eqb j j refl))
    ∙ ap (λ (ks : List ℕ). x ∷ ks) (choice_later js xs j x js a.0 ∙ choices_back js xs a.1 (omega arith))
