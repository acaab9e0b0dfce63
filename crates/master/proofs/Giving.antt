-- What a row gives: one job more at its end, and the sets of the jobs at a place.
use Rattle.std.proofs.Common.{◌≡◌, ℕ, zero, suc, ◌+◌, ◌<◌, Bool, false, ◌≢◌, ◌⊎◌, List, [], ◌∷◌, ◌++◌, length, sym, refl, ap, ◌∙◌, subst, inl, inr, ⊎_elim, arith}
use Rattle.jobs.specs.Sets.{Has}
use Rattle.jobs.specs.Words.{Same}
use Rattle.master.specs.Rows.{Gives, Group, Permits, joins_from}

pub gives_below : (row : List ℕ) (j p : ℕ) → Gives row j p → j < length row
gives_below [] j p h = let z : ◌≡◌ {A = ℕ} 0 1 = cc in omega arith
gives_below (x ∷ row) zero p h = omega arith
gives_below (x ∷ row) (suc j) p h = omega (arith, gives_below row j p h)

-- one job more
pub gives_still : (row : List ℕ) (x j p : ℕ) → Gives row j p → Gives (row ++ x ∷ []) j p
gives_still [] x j p h = let z : ◌≡◌ {A = ℕ} 0 1 = cc in absurd (omega arith)
gives_still (y ∷ row) x zero p h = h
gives_still (y ∷ row) x (suc j) p h = gives_still row x j p h

pub gives_last : (row : List ℕ) (x : ℕ) → Gives (row ++ x ∷ []) (length row) x
gives_last [] x = refl
gives_last (y ∷ row) x = gives_last row x

pub gives_push : (row : List ℕ) (x j p : ℕ) → Gives (row ++ x ∷ []) j p → Gives row j p ⊎ ((j ≡ length row) × (p ≡ x))
gives_push [] x zero p h = inr (refl, cc)
gives_push [] x (suc j) p h = let z : ◌≡◌ {A = ℕ} 0 1 = cc in absurd (omega arith)
gives_push (y ∷ row) x zero p h = inl h
gives_push (y ∷ row) x (suc j) p h = ⊎_elim inl (λ (k : (j ≡ length row) × (p ≡ x)). inr (ap suc k.0, k.1)) (gives_push row x j p h)

-- no job, no group
pub group_none : (p s : ℕ) → ((j : ℕ) → Has s j → ⊥) → Group [] p s
group_none p s none j = (λ h. absurd (none j h), λ g. let z : ◌≡◌ {A = ℕ} 0 1 = cc in absurd (omega arith))

-- the next job is given this place
pub group_more : (row : List ℕ) (x p s t : ℕ) → x ≡ p → ((j : ℕ) → Same (Has t j) (Has s j ⊎ (j ≡ length row))) → Group row p s → Group (row ++ x ∷ []) p t
group_more row x p s t e more g j = (
  λ h. ⊎_elim (λ (k : Has s j). gives_still row x j p ((g j).0 k)) (λ (q : j ≡ length row). subst (λ (i : ℕ). Gives (row ++ x ∷ []) i p) (sym q) (subst (λ (y : ℕ). Gives (row ++ x ∷ []) (length row) y) e (gives_last row x))) ((more j).0 h),
  λ h. (more j).1 (⊎_elim (λ (k : Gives row j p). inl ((g j).1 k)) (λ (k : (j ≡ length row) × (p ≡ x)). inr k.0) (gives_push row x j p h)),
)

-- or another one
pub group_other : (row : List ℕ) (x p s : ℕ) → x ≢ p → Group row p s → Group (row ++ x ∷ []) p s
group_other row x p s ne g j = (
  λ h. gives_still row x j p ((g j).0 h),
  λ h. ⊎_elim (λ (k : Gives row j p). (g j).1 k) (λ (k : (j ≡ length row) × (p ≡ x)). absurd (ne (sym k.1))) (gives_push row x j p h),
)

-- the last job taken back from its place, or from another one
pub group_less : (row : List ℕ) (x s t : ℕ) → ((j : ℕ) → Same (Has t j) (Has s j × (j ≡ length row → ⊥))) → Group (row ++ x ∷ []) x s → Group row x t
group_less row x s t less g j = (
  λ h. let k = (less j).0 h in ⊎_elim (λ (a : Gives row j x). a) (λ (b : (j ≡ length row) × (x ≡ x)). absurd (k.1 b.0)) (gives_push row x j x ((g j).0 k.0)),
  λ a. (less j).1 ((g j).1 (gives_still row x j x a), λ e. omega (arith, gives_below row j x a)),
)

pub group_front : (row : List ℕ) (x p s : ℕ) → x ≢ p → Group (row ++ x ∷ []) p s → Group row p s
group_front row x p s ne g j = (
  λ h. ⊎_elim (λ (a : Gives row j p). a) (λ (b : (j ≡ length row) × (p ≡ x)). absurd (ne (sym b.1))) (gives_push row x j p ((g j).0 h)),
  λ a. (g j).1 (gives_still row x j p a),
)

-- no job has a place that is barred to it, with one job more and with one less
pub permits_push : (b : ℕ → ℕ → Bool) (row : List ℕ) (x k : ℕ) → k ≡ length row → Permits b row → b k x ≡ false → Permits b (row ++ x ∷ [])
permits_push b row x k e h free j p g = ⊎_elim
    (λ (a : Gives row j p). h j p a)
    (λ (q : (j ≡ length row) × (p ≡ x)). ap (λ (i : ℕ). b i p) (q.0 ∙ sym e) ∙ ap (λ (i : ℕ). b k i) q.1 ∙ free)
    (gives_push row x j p g)

pub permits_front : (b : ℕ → ℕ → Bool) (row : List ℕ) (x : ℕ) → Permits b (row ++ x ∷ []) → Permits b row
permits_front b row x h j p g = h j p (gives_still row x j p g)

pub joins_push : (f price : ℕ → ℕ → ℕ) (total job k : ℕ) (xs : List ℕ) (x : ℕ) → k ≡ job + length xs → joins_from f price total job (xs ++ x ∷ []) ≡ f (joins_from f price total job xs) (price k x)
joins_push f price total job k [] x e = let q : job ≡ k = omega arith in ap (λ (i : ℕ). f total (price i x)) q
joins_push f price total job k (y ∷ xs) x e = joins_push f price (f total (price job y)) (suc job) k xs x (omega arith)
