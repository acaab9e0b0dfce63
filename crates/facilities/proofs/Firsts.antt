-- There is one first solution at most.
use Rattle.std.proofs.Common.{◌≡◌, ℕ, ◌⊎◌, List, [], ◌∷◌, length, sym, refl, ap, ◌∙◌, inl, inr, ⊎_elim, arith}
use Rattle.std.proofs.lemmas.Bool.{cases_order}
use Rattle.facilities.specs.Trials.{Before, First}

-- of two lists of one length, one stands before the other, or they are equal
pub total : (xs ys : List ℕ) → length xs ≡ length ys → (xs ≡ ys) ⊎ (Before xs ys ⊎ Before ys xs)
total [] [] e = inl refl
total [] (y ∷ ys) e = let z : ⊥ = omega arith in absurd z
total (x ∷ xs) [] e = let z : ⊥ = omega arith in absurd z
total (x ∷ xs) (y ∷ ys) e =
    ⊎_elim
    (λ h. ⊎_elim
    (λ t. inl (ap (λ z. z ∷ xs) h ∙ ap (λ zs. y ∷ zs) t))
    (λ t. inr (⊎_elim (λ b. inl (inr (h, b))) (λ b. inr (inr (sym h, b))) t))
    (total xs ys (omega arith)))
    (λ h. inr (⊎_elim (λ l. inl (inl l)) (λ l. inr (inl l)) h))
    (cases_order x y)

pub one_first : (allowed : List ℕ → Type 0) (levels choices : ℕ) (xs ys : List ℕ) → First allowed levels choices xs → First allowed levels choices ys → xs ≡ ys
one_first allowed levels choices xs ys f g =
    ⊎_elim (λ e. e) (λ b. absurd (⊎_elim (g.least xs f.solves) (f.least ys g.solves) b))
    (total xs ys (f.solves.full ∙ sym g.solves.full))
