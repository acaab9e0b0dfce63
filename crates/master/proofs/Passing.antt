-- Rows taken in order: `pre` has the places of the first jobs, `x` is the next place to try.
use Rattle.std.proofs.Common.{◌≡◌, ℕ, zero, suc, ◌+◌, ◌^◌, ◌<◌, ◌≤◌, ◌≢◌, ◌⊎◌, List, [], ◌∷◌, ◌++◌, length, sym, refl, ap, ◌∙◌, subst, inl, inr, ⊎_elim, arith}
use Rattle.std.specs.List.{AllByRecursion}
use Rattle.std.proofs.lemmas.Bool.{cases_eq}
use Rattle.master.specs.Rows.{Gives, joins_from, Before}
use Rattle.master.specs.Walks.{Passed, Starts}
use Rattle.master.proofs.Climbing.{Climbs}

-- one place further
pub passed_more : (pre : List ℕ) (x : ℕ) (r : List ℕ) → Passed pre (suc x) r → Passed pre x r ⊎ Starts pre x r
passed_more [] x [] h = absurd h
passed_more [] x (y ∷ r) h = ⊎_elim (λ (e : y ≡ x). inr e) (λ (ne : y ≢ x). inl (omega arith)) (cases_eq y x)
passed_more (p ∷ pre) x [] h = absurd h
passed_more (p ∷ pre) x (y ∷ r) h =
    ⊎_elim
    (λ (l : y < p). inl (inl l))
    (λ (k : (y ≡ p) × Passed pre (suc x) r). ⊎_elim (λ (a : Passed pre x r). inl (inr (k.0, a))) (λ (b : Starts pre x r). inr (k.0, b)) (passed_more pre x r k.1))
    h

pub passed_still : (pre : List ℕ) (x : ℕ) (r : List ℕ) → Passed pre x r → Passed pre (suc x) r
passed_still [] x [] h = absurd h
passed_still [] x (y ∷ r) h = omega arith
passed_still (p ∷ pre) x [] h = absurd h
passed_still (p ∷ pre) x (y ∷ r) h = ⊎_elim inl (λ (k : (y ≡ p) × Passed pre x r). inr (k.0, passed_still pre x r k.1)) h

pub starts_passed : (pre : List ℕ) (x : ℕ) (r : List ℕ) → Starts pre x r → Passed pre (suc x) r
starts_passed [] x [] h = absurd h
starts_passed [] x (y ∷ r) h = omega arith
starts_passed (p ∷ pre) x [] h = absurd h
starts_passed (p ∷ pre) x (y ∷ r) h = inr (h.0, starts_passed pre x r h.1)

-- what was passed comes before what is next
pub passed_before : (pre : List ℕ) (x : ℕ) (b r : List ℕ) → Passed pre x b → Starts pre x r → Before b r
passed_before [] x [] r h k = absurd h
passed_before [] x (y ∷ b) [] h k = absurd k
passed_before [] x (y ∷ b) (z ∷ r) h k = inl (omega arith)
passed_before (p ∷ pre) x [] r h k = absurd h
passed_before (p ∷ pre) x (y ∷ b) [] h k = absurd k
passed_before (p ∷ pre) x (y ∷ b) (z ∷ r) h k =
    ⊎_elim
    (λ (l : y < p). inl (omega (arith, k.0)))
    (λ (e : (y ≡ p) × Passed pre x b). inr (e.0 ∙ sym k.0, passed_before pre x b r e.1 k.1))
    h

-- one job deeper
pub passed_down : (pre : List ℕ) (x : ℕ) (r : List ℕ) → Passed (pre ++ x ∷ []) 0 r → Passed pre x r
passed_down [] x [] h = absurd h
passed_down [] x (y ∷ []) h = ⊎_elim (λ (l : y < x). l) (λ (k : (y ≡ x) × ⊥). absurd k.1) h
passed_down [] x (y ∷ z ∷ r) h = ⊎_elim (λ (l : y < x). l) (λ (k : (y ≡ x) × (z < 0)). absurd (omega (arith, k.1))) h
passed_down (p ∷ pre) x [] h = absurd h
passed_down (p ∷ pre) x (y ∷ r) h = ⊎_elim inl (λ (k : (y ≡ p) × Passed (pre ++ x ∷ []) 0 r). inr (k.0, passed_down pre x r k.1)) h

pub down_passed : (pre : List ℕ) (x : ℕ) (r : List ℕ) → Passed pre x r → Passed (pre ++ x ∷ []) 0 r
down_passed [] x [] h = absurd h
down_passed [] x (y ∷ r) h = inl h
down_passed (p ∷ pre) x [] h = absurd h
down_passed (p ∷ pre) x (y ∷ r) h = ⊎_elim inl (λ (k : (y ≡ p) × Passed pre x r). inr (k.0, down_passed pre x r k.1)) h

-- back from the last place of a job
pub passed_back : (pre : List ℕ) (y m : ℕ) (r : List ℕ) → AllByRecursion (λ x. x < m) r → length pre + 1 < length r → Passed pre (suc y) r → Passed (pre ++ y ∷ []) m r
passed_back [] y m [] e l h = absurd h
passed_back [] y m (z ∷ []) e l h = absurd (omega arith)
passed_back [] y m (z ∷ v ∷ r) e l h = ⊎_elim (λ (q : z ≡ y). inr (q, e.1.0)) (λ (ne : z ≢ y). inl (omega arith)) (cases_eq z y)
passed_back (p ∷ pre) y m [] e l h = absurd h
passed_back (p ∷ pre) y m (z ∷ r) e l h =
    ⊎_elim inl (λ (k : (z ≡ p) × Passed pre (suc y) r). inr (k.0, passed_back pre y m r e.1 (omega arith) k.1)) h

pub back_passed : (pre : List ℕ) (y m : ℕ) (r : List ℕ) → Passed (pre ++ y ∷ []) m r → Passed pre (suc y) r
back_passed [] y m [] h = absurd h
back_passed [] y m (z ∷ r) h = ⊎_elim (λ (l : z < y). omega arith) (λ (k : (z ≡ y) × Passed [] m r). omega (arith, k.0)) h
back_passed (p ∷ pre) y m [] h = absurd h
back_passed (p ∷ pre) y m (z ∷ r) h = ⊎_elim inl (λ (k : (z ≡ p) × Passed (pre ++ y ∷ []) m r). inr (k.0, back_passed pre y m r k.1)) h

-- a row that starts so and has no more jobs
pub starts_whole : (pre : List ℕ) (x : ℕ) (r : List ℕ) → Starts pre x r → length r ≡ length pre + 1 → pre ++ x ∷ [] ≡ r
starts_whole [] x [] h l = absurd h
starts_whole [] x (y ∷ []) h l = ap (λ (i : ℕ). i ∷ []) (sym h)
starts_whole [] x (y ∷ z ∷ r) h l = absurd (omega arith)
starts_whole (p ∷ pre) x [] h l = absurd h
starts_whole (p ∷ pre) x (y ∷ r) h l =
    ap (λ (i : ℕ). i ∷ (pre ++ x ∷ [])) (sym h.0) ∙ ap (λ (s : List ℕ). y ∷ s) (starts_whole pre x r h.1 (omega arith))

pub whole_starts : (pre : List ℕ) (x : ℕ) → Starts pre x (pre ++ x ∷ [])
whole_starts [] x = refl
whole_starts (p ∷ pre) x = (refl, whole_starts pre x)

-- what starts so gives all that its beginning gives
pub starts_gives : (pre : List ℕ) (x : ℕ) (r : List ℕ) → Starts pre x r → (j p : ℕ) → Gives (pre ++ x ∷ []) j p → Gives r j p
starts_gives [] x [] s j p g = absurd s
starts_gives [] x (y ∷ r) s zero p g = let e : y ≡ x = s in cc
starts_gives [] x (y ∷ r) s (suc j) p g = let z : ◌≡◌ {A = ℕ} 0 1 = cc in absurd (omega arith)
starts_gives (q ∷ pre) x [] s j p g = absurd s
starts_gives (q ∷ pre) x (y ∷ r) s zero p g = let e : y ≡ q = s.0 in cc
starts_gives (q ∷ pre) x (y ∷ r) s (suc j) p g = starts_gives pre x r s.1 j p g

-- of two rows each is before the other never
pub before_asym : (r s : List ℕ) → Before r s → Before s r → ⊥
before_asym [] s h k = h
before_asym (x ∷ r) [] h k = h
before_asym (x ∷ r) (y ∷ s) h k = ⊎_elim
    (λ (l : x < y). ⊎_elim (λ (m : y < x). omega arith) (λ (e : (y ≡ x) × Before s r). omega (arith, e.0)) k)
    (λ (e : (x ≡ y) × Before r s). ⊎_elim (λ (m : y < x). omega (arith, e.0)) (λ (f : (y ≡ x) × Before s r). before_asym r s e.1 f.1) k)
    h

module _ (joined price : ℕ → ℕ → ℕ) (climbs : Climbs joined) (cheap : (j k : ℕ) → price j k < 2 ^ 32) where
  -- a total never falls
  joins_more : (total job : ℕ) (row : List ℕ) → total < 2 ^ 32 → total ≤ joins_from joined price total job row
  joins_more total job [] h = omega arith
  joins_more total job (x ∷ row) h =
      omega (arith, climbs.more total (price job x) h (cheap job x), joins_more (joined total (price job x)) (suc job) row (climbs.fits total (price job x) h (cheap job x)))

  -- what starts so costs at least the total so far
  pub starts_more : (total job : ℕ) (pre : List ℕ) (x : ℕ) (r : List ℕ) → total < 2 ^ 32 → Starts pre x r → joins_from joined price total job (pre ++ x ∷ []) ≤ joins_from joined price total job r
  starts_more total job [] x [] h k = absurd k
  starts_more total job [] x (y ∷ r) h k =
      let t : joined total (price job x) < 2 ^ 32 = climbs.fits total (price job x) h (cheap job x) in
      subst (λ (i : ℕ). joined total (price job x) ≤ joins_from joined price (joined total (price job i)) (suc job) r) (sym k) (joins_more (joined total (price job x)) (suc job) r t)
  starts_more total job (p ∷ pre) x [] h k = absurd k
  starts_more total job (p ∷ pre) x (y ∷ r) h k =
      let t : joined total (price job p) < 2 ^ 32 = climbs.fits total (price job p) h (cheap job p) in
      subst (λ (i : ℕ). joins_from joined price (joined total (price job p)) (suc job) (pre ++ x ∷ []) ≤ joins_from joined price (joined total (price job i)) (suc job) r) (sym k.0)
      (starts_more (joined total (price job p)) (suc job) pre x r t k.1)
