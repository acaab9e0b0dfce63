-- The steps of the search keep what it has found the best so far, and there is less ahead after each.
use Rattle.std.proofs.Common.{◌≡◌, ℕ, zero, suc, ◌+◌, ◌-◌, ◌*◌, ◌^◌, ◌<◌, ◌≤◌, Bool, List, [], ◌∷◌, ◌++◌, length, Some, None, Option, sym, ap, ◌∙◌, subst, inl, inr, ⊎_elim, suc-mul, one-mul, arith}
use native.Mathlib.Nat.{pow-succ', one-le-pow}
use Rattle.std.specs.List.{AllByRecursion}
use Rattle.master.specs.Rows.{row_places, costs, Before}
use Rattle.master.specs.Master.{Candidate, Earlier, Finds, OneBest}
use Rattle.master.specs.Walks.{Passed, Starts, Sofar, ahead, Matched, Cheaper}
use Rattle.master.specs.declared.cut.Cut.{Cut}
use Rattle.master.specs.declared.priced.Priced.{Priced}
use Rattle.std.proofs.lemmas.Bool.{cases_lt}
use Rattle.master.proofs.Passing.{passed_more, passed_still, starts_passed, passed_before, passed_down, down_passed, passed_back, back_passed, starts_whole, whole_starts, before_asym}

module _ (n m : ℕ) (joined price : ℕ → ℕ → ℕ) (barred : ℕ → ℕ → Bool) (cuts : List Cut) where
  abbrev Cand : List ℕ → Type 0
  Cand r = Candidate n m barred cuts r

  -- what is passed stays the same for candidates
  pub sofar_same : (pre qre : List ℕ) (x y : ℕ) → ((r : List ℕ) → Cand r → Passed qre y r → Passed pre x r) → ((r : List ℕ) → Cand r → Passed pre x r → Passed qre y r)
      → (o : Option Priced) → Sofar n m joined price barred cuts pre x o → Sofar n m joined price barred cuts qre y o
  sofar_same pre qre x y f g None h = λ r c p. h r c (f r c p)
  sofar_same pre qre x y f g (Some b) h = record {
    candidate = h.candidate;
    priced = h.priced;
    passed = g (row_places b.row) h.candidate h.passed;
    first = λ r c p. h.first r c (f r c p);
  }

  pub sofar_down : (pre : List ℕ) (x : ℕ) (o : Option Priced) → Sofar n m joined price barred cuts pre x o → Sofar n m joined price barred cuts (pre ++ x ∷ []) 0 o
  sofar_down pre x o h = sofar_same pre (pre ++ x ∷ []) x 0 (λ r c p. passed_down pre x r p) (λ r c p. down_passed pre x r p) o h

  pub sofar_back : (pre : List ℕ) (y : ℕ) (o : Option Priced) → length pre + 1 < n → Sofar n m joined price barred cuts (pre ++ y ∷ []) m o → Sofar n m joined price barred cuts pre (suc y) o
  sofar_back pre y o l h =
      sofar_same (pre ++ y ∷ []) pre m (suc y)
      (λ r c p. passed_back pre y m r c.assigns.places (omega (arith, c.assigns.jobs)) p)
      (λ r c p. back_passed pre y m r p)
      o h

  -- a skip may pass over nothing that the best does not match
  pub sofar_skip : (pre : List ℕ) (x : ℕ) (o : Option Priced) → ((r : List ℕ) → Cand r → Starts pre x r → Matched (costs joined price r) o)
      → Sofar n m joined price barred cuts pre x o → Sofar n m joined price barred cuts pre (suc x) o
  sofar_skip pre x None k h = λ r c p. ⊎_elim (λ (a : Passed pre x r). h r c a) (λ (s : Starts pre x r). k r c s) (passed_more pre x r p)
  sofar_skip pre x (Some b) k h = record {
    candidate = h.candidate;
    priced = h.priced;
    passed = passed_still pre x (row_places b.row) h.passed;
    first = λ r c p. ⊎_elim (λ (a : Passed pre x r). h.first r c a) (λ (s : Starts pre x r). inr (later r c s)) (passed_more pre x r p);
  }
    where
      later : (r : List ℕ) → Cand r → Starts pre x r → Earlier b.cost (row_places b.row) (costs joined price r) r
      later r c s = ⊎_elim
          (λ (l : b.cost < costs joined price r). inl l)
          (λ (l : costs joined price r ≤ b.cost). inr (omega (arith, k r c s), passed_before pre x (row_places b.row) r h.passed s))
          (cases_lt b.cost (costs joined price r))

  -- a whole row that is cheaper is taken
  pub sofar_take : (pre : List ℕ) (x : ℕ) (o : Option Priced) (b : Priced) → length pre + 1 ≡ n → row_places b.row ≡ pre ++ x ∷ [] → Cand (row_places b.row) → b.cost ≡ costs joined price (row_places b.row)
      → Cheaper b.cost o → Sofar n m joined price barred cuts pre x o → Sofar n m joined price barred cuts pre (suc x) (Some b)
  sofar_take pre x o b l e c q less h = record {
    candidate = c;
    priced = q;
    passed = starts_passed pre x (row_places b.row) (subst (λ (r : List ℕ). Starts pre x r) (sym e) (whole_starts pre x));
    first = λ r d p. ⊎_elim (λ (a : Passed pre x r). inr (inl (before o less h r d a))) (λ (s : Starts pre x r). inl (only r d s)) (passed_more pre x r p);
  }
    where
      only : (r : List ℕ) → Cand r → Starts pre x r → row_places b.row ≡ r
      only r d s = e ∙ starts_whole pre x r s (omega (arith, d.assigns.jobs))

      before : (o' : Option Priced) → Cheaper b.cost o' → Sofar n m joined price barred cuts pre x o' → (r : List ℕ) → Cand r → Passed pre x r → b.cost < costs joined price r
      before None less' h' r d a = absurd (h' r d a)
      before (Some old) less' h' r d a = ⊎_elim
          (λ (e' : row_places old.row ≡ r). omega (arith, h'.priced, ap (λ (i : List ℕ). costs joined price i) e'))
          (⊎_elim (λ (lt : old.cost < costs joined price r). omega arith) (λ (eq : (old.cost ≡ costs joined price r) × Before (row_places old.row) r). omega (arith, eq.0)))
          (h'.first r d a)

  pub sofar_start : Sofar n m joined price barred cuts [] 0 None
  sofar_start = λ r c p. none r p
    where
      none : (r : List ℕ) → Passed [] 0 r → ⊥
      none [] p = p
      none (y ∷ r) p = omega arith

  all_passed : 0 < n → (r : List ℕ) → Cand r → Passed [] m r
  all_passed some r c = go r c.assigns.places (omega (arith, c.assigns.jobs))
    where
      go : (s : List ℕ) → AllByRecursion (λ x. x < m) s → 0 < length s → Passed [] m s
      go [] e l = absurd (omega arith)
      go (y ∷ s) e l = e.0

  pub sofar_end : 0 < n → (o : Option Priced) → Sofar n m joined price barred cuts [] m o → Finds n m joined price barred cuts o
  sofar_end some None h = λ r c. h r c (all_passed some r c)
  sofar_end some (Some b) h = record {
    candidate = h.candidate;
    priced = h.priced;
    first = λ r c. h.first r c (all_passed some r c);
  }

  -- two that are best are one
  pub one_best : OneBest n m joined price barred cuts
  one_best row other cost cost' a b = ⊎_elim
      (λ (e : row ≡ other). same e)
      (λ (f : Earlier cost row (costs joined price other) other). ⊎_elim
      (λ (e : other ≡ row). same (sym e))
      (λ (g : Earlier cost' other (costs joined price row) row). absurd (never f g))
      (b.first row a.candidate))
      (a.first other b.candidate)
    where
      same : row ≡ other → (row ≡ other) × (cost ≡ cost')
      same e = (e, a.priced ∙ ap (λ (r : List ℕ). costs joined price r) e ∙ sym b.priced)

      never : Earlier cost row (costs joined price other) other → Earlier cost' other (costs joined price row) row → ⊥
      never f g = ⊎_elim
          (λ (l : cost < costs joined price other). ⊎_elim (λ (k : cost' < costs joined price row). omega (arith, a.priced, b.priced)) (λ (k : (cost' ≡ costs joined price row) × Before other row). omega (arith, a.priced, b.priced, k.0)) g)
          (λ (l : (cost ≡ costs joined price other) × Before row other). ⊎_elim (λ (k : cost' < costs joined price row). omega (arith, a.priced, b.priced, l.0)) (λ (k : (cost' ≡ costs joined price row) × Before other row). before_asym row other l.1 k.1) g)
          f

-- less ahead
pub ahead_skip : (m k : ℕ) (pre : List ℕ) (x : ℕ) → x ≤ m → ahead m k pre (suc x) < ahead m k pre x
ahead_skip m k [] x l =
    let e : m + 1 - x ≡ suc (m + 1 - suc x) = omega arith in
    omega (arith, ap (λ (i : ℕ). i * (m + 2) ^ k) e, suc-mul (m + 1 - suc x) ((m + 2) ^ k), one-le-pow k (m + 2) (omega arith))
ahead_skip m k (p ∷ pre) x l = omega (arith, ahead_skip m (k - 1) pre x l)

pub ahead_down : (m k : ℕ) (pre : List ℕ) (x : ℕ) → x ≤ m → length pre < k → ahead m k (pre ++ x ∷ []) 0 < ahead m k pre x
ahead_down m zero [] x l h = absurd (omega arith)
ahead_down m (suc k) [] x l h =
    let q : ℕ = (m + 2) ^ k in
    let z : m + 1 - 0 ≡ m + 1 = omega arith in
    let d : suc k - 1 ≡ k = omega arith in
    let e : m + 1 - x ≡ suc (m - x) = omega arith in
    let two : m + 2 ≡ suc (m + 1) = omega arith in
    let wide : (m + 2) ^ suc k ≡ (m + 1) * q + q = pow-succ' (m + 2) k ∙ ap (λ (i : ℕ). i * q) two ∙ suc-mul (m + 1) q in
    let deeper : ahead m (suc k - 1) [] 0 ≡ (m + 1) * q = ap (λ (i : ℕ). i * (m + 2) ^ (suc k - 1)) z ∙ ap (λ (i : ℕ). (m + 1) * (m + 2) ^ i) d in
    let top : (m + 1 - x) * (m + 2) ^ suc k ≡ (m - x) * (m + 2) ^ suc k + (m + 2) ^ suc k = ap (λ (i : ℕ). i * (m + 2) ^ suc k) e ∙ suc-mul (m - x) ((m + 2) ^ suc k) in
    omega (arith, deeper, top, wide, one-le-pow k (m + 2) (omega arith))
ahead_down m k (p ∷ pre) x l h = omega (arith, ahead_down m (k - 1) pre x l (omega arith))

pub ahead_back : (m k : ℕ) (pre : List ℕ) (y : ℕ) → length pre < k → ahead m k pre (suc y) < ahead m k (pre ++ y ∷ []) m
ahead_back m k [] y h =
    let e : m + 1 - suc y ≡ m - y = omega arith in
    let one : m + 1 - m ≡ 1 = omega arith in
    omega (arith, ap (λ (i : ℕ). i * (m + 2) ^ k) e, ap (λ (i : ℕ). i * (m + 2) ^ (k - 1)) one ∙ one-mul ((m + 2) ^ (k - 1)), one-le-pow (k - 1) (m + 2) (omega arith))
ahead_back m k (p ∷ pre) y h = omega (arith, ahead_back m (k - 1) pre y (omega arith))
