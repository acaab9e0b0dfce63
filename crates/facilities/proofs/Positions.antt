-- Where a depth-first search stands: the choices taken and the next one to try; what it has passed, and how much is left.
use Rattle.std.proofs.Common.{◌≡◌, ℕ, zero, suc, ◌+◌, ◌-◌, ◌*◌, ◌^◌, ◌<◌, ◌≤◌, ◌⊎◌, List, [], ◌∷◌, ◌++◌, length, refl, ap, ◌∙◌, inl, inr, ⊎_elim, suc-mul, mul_comm, add-mul, pow-suc, mul-add, arith}
use native.Mathlib.Nat.{one-le-pow}
use Rattle.std.proofs.lemmas.Bool.{cases_lt}
use Rattle.facilities.specs.Trials.{Within, Before}

-- ys stands before every list that begins with p and goes on with c or more
abbrev pub Passed : List ℕ → ℕ → List ℕ → Type 0
Passed [] c [] = ⊥
Passed [] c (y ∷ ys) = y < c
Passed (x ∷ p) c [] = ⊥
Passed (x ∷ p) c (y ∷ ys) = (y < x) ⊎ ((y ≡ x) × Passed p c ys)

pub passed_none : (ys : List ℕ) → Passed [] 0 ys → ⊥
passed_none [] h = h
passed_none (y ∷ ys) h = omega arith

pub passed_all : (n : ℕ) (ys : List ℕ) → 0 < length ys → Within n ys → Passed [] n ys
passed_all n [] l w = omega arith
passed_all n (y ∷ ys) l w = w.0

-- one level down
pub passed_down : (p : List ℕ) (c : ℕ) (ys : List ℕ) → Passed (p ++ c ∷ []) 0 ys → Passed p c ys
passed_down [] c [] h = h
passed_down [] c (y ∷ ys) h = ⊎_elim (λ l. l) (λ e. absurd (passed_none ys e.1)) h
passed_down (x ∷ p) c [] h = h
passed_down (x ∷ p) c (y ∷ ys) h = ⊎_elim (λ l. inl l) (λ e. inr (e.0, passed_down p c ys e.1)) h

-- one choice on: what is passed now was passed before, or begins with p and c
pub passed_next :
    (p : List ℕ) (c : ℕ) (ys : List ℕ) →
    Passed p (c + 1) ys → Passed p c ys ⊎ ((rest : List ℕ) × (ys ≡ p ++ c ∷ rest))
passed_next [] c [] h = absurd h
passed_next [] c (y ∷ ys) h =
    ⊎_elim (λ l. inl l) (λ l. let e : y ≡ c = omega arith in inr (ys, ap (λ z. z ∷ ys) e)) (cases_lt y c)
passed_next (x ∷ p) c [] h = absurd h
passed_next (x ∷ p) c (y ∷ ys) h =
    ⊎_elim (λ l. inl (inl l))
    (λ e. ⊎_elim (λ q. inl (inr (e.0, q))) (λ r. inr (r.0, ap (λ z. z ∷ ys) e.0 ∙ ap (λ zs. x ∷ zs) r.1)) (passed_next p c ys e.1))
    h

-- one level up
pub passed_front : (q : List ℕ) (x c : ℕ) (ys : List ℕ) → Passed q x ys → Passed (q ++ x ∷ []) c ys
passed_front [] x c [] h = h
passed_front [] x c (y ∷ ys) h = inl h
passed_front (z ∷ q) x c [] h = h
passed_front (z ∷ q) x c (y ∷ ys) h = ⊎_elim (λ l. inl l) (λ e. inr (e.0, passed_front q x c ys e.1)) h

pub passed_back : (q : List ℕ) (n : ℕ) (rest : List ℕ) → 0 < length rest → Within n (q ++ rest) → Passed q n (q ++ rest)
passed_back [] n rest l w = passed_all n rest l w
passed_back (z ∷ q) n rest l w = inr (refl, passed_back q n rest l w.1)

pub before_passed : (ys p : List ℕ) (c : ℕ) → Before ys p → Passed p c ys
before_passed [] p c h = absurd h
before_passed (y ∷ ys) [] c h = absurd h
before_passed (y ∷ ys) (x ∷ p) c h = ⊎_elim (λ l. inl l) (λ e. inr (e.0, before_passed ys p c e.1)) h

pub within_push : (n : ℕ) (p : List ℕ) (c : ℕ) → Within n p → c < n → Within n (p ++ c ∷ [])
within_push n [] c w h = (h, tt)
within_push n (x ∷ p) c w h = (w.0, within_push n p c w.1 h)

pub within_front : (n : ℕ) (p q : List ℕ) → Within n (p ++ q) → Within n p
within_front n [] q w = tt
within_front n (x ∷ p) q w = (w.0, within_front n p q w.1)

-- how much is left: a number that falls with each turn, of a search with n choices and r levels
abbrev pub left : ℕ → List ℕ → ℕ → ℕ → ℕ
left n [] r c = (n + 1 - c) * (n + 2) ^ r
left n (x ∷ p) zero c = 0
left n (x ∷ p) (suc r) c = (n - x) * (n + 2) ^ suc r + left n p r c

power : (n r : ℕ) → 0 < (n + 2) ^ r
power n r = one-le-pow r (n + 2) (omega arith)

one_less : (a b : ℕ) → 0 < b → a * b < suc a * b
one_less a b h = omega (arith, suc-mul a b)

one_down : (n a b : ℕ) → 0 < b → a * (b * (n + 2)) + (n + 1) * b < suc a * (b * (n + 2))
one_down n a b h = omega (arith, suc-mul a (b * (n + 2)), mul-add b n 2, add-mul n 1 b, mul_comm n b)

pub left_next : (n : ℕ) (p : List ℕ) (r c : ℕ) → length p ≤ r → c ≤ n → left n p r (c + 1) < left n p r c
left_next n [] r c l h =
    let e : n + 1 - (c + 1) ≡ n - c = omega arith in
    let f : n + 1 - c ≡ suc (n - c) = omega arith in
    rw (e, f) (one_less (n - c) ((n + 2) ^ r) (power n r))
left_next n (x ∷ p) zero c l h = omega arith
left_next n (x ∷ p) (suc r) c l h = omega (arith, left_next n p r c (omega arith) h)

pub left_down : (n : ℕ) (p : List ℕ) (r c : ℕ) → length p < r → c ≤ n → left n (p ++ c ∷ []) r 0 < left n p r c
left_down n [] zero c l h = omega arith
left_down n [] (suc r) c l h =
    let e : n + 1 - 0 ≡ n + 1 = omega arith in
    let f : n + 1 - c ≡ suc (n - c) = omega arith in
    rw (e, f, pow-suc (n + 2) r) (one_down n (n - c) ((n + 2) ^ r) (power n r))
left_down n (x ∷ p) zero c l h = omega arith
left_down n (x ∷ p) (suc r) c l h = omega (arith, left_down n p r c (omega arith) h)

pub left_up : (n : ℕ) (q : List ℕ) (r x : ℕ) → length q < r → x ≤ n → left n q r (x + 1) < left n (q ++ x ∷ []) r n
left_up n [] zero x l h = omega arith
left_up n [] (suc r) x l h =
    let e : n + 1 - (x + 1) ≡ n - x = omega arith in
    let f : n + 1 - n ≡ 1 = omega arith in
    rw (e, f) (omega (arith, power n r))
left_up n (z ∷ q) zero x l h = omega arith
left_up n (z ∷ q) (suc r) x l h = omega (arith, left_up n q r x (omega arith) h)

pub within_last : (n : ℕ) (q : List ℕ) (x : ℕ) → Within n (q ++ x ∷ []) → x < n
within_last n [] x w = w.0
within_last n (z ∷ q) x w = within_last n q x w.1
