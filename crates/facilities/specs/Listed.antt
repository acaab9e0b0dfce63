-- The list of a set's jobs: which jobs stand in it, and that each stands there once. Nothing here knows how many jobs there are.
use Rattle.std.specs.Prelude.{◌≡◌, ℕ, zero, suc, ◌+◌, ◌^◌, ◌<◌, ◌≤◌, Bool, true, false, cond, ◌≢◌, List, [], ◌∷◌, ◌++◌, sum_by, refl}
use Rattle.std.proofs.Common.{sym, subst, ⊎_elim, arith}
use Rattle.std.specs.List.{All, Contains}
use Rattle.std.proofs.lemmas.List.Elements.{All-nil, All-head, All-tail, All-push, All-contains, Contains-append_left, Contains-push}
use Rattle.std.proofs.lemmas.List.Sums.{sum_by_push}
use Rattle.std.proofs.lemmas.Bool.{true≢false, cases_eq, eq-eqb, eqb-true}
use Rattle.jobs.specs.Sets.{bit, Has, has, Part, add, members, jobs_of, width}
use Rattle.jobs.proofs.Bits.{bit_fits}
use Rattle.facilities.specs.LevelsLemmas.{Apart}

-- each job of the set is listed
pub listed_below : (set n j : ℕ) → j < n → Has set j → Contains (members set n) j
listed_below set zero j l h = absurd (omega arith)
listed_below set (suc n) j l h = ⊎_elim
    (λ (e : j ≡ n). subst (Contains (members set (suc n))) (sym e)
    (subst (λ b. Contains (add b (members set n) n) n) (sym (eq-eqb _ 1 (subst (Has set) e h))) (Contains-push (members set n) n)))
    (λ (ne : j ≢ n). before (has set n) (listed_below set n j (omega arith) h))
    (cases_eq j n)
  where
    before : (b : Bool) → Contains (members set n) j → Contains (add b (members set n) n) j
    before true c = Contains-append_left (members set n) (n ∷ []) j c
    before false c = c

-- what holds of each job of the set holds of each that is listed
module _ (P : ℕ → Type 0) where
  all_add : (b : Bool) (js : List ℕ) (n : ℕ) → All P js → (b ≡ true → P n) → All P (add b js n)
  all_add true js n a p = All-push P js n a (p refl)
  all_add false js n a p = a

  pub all_members : (set n : ℕ) → ((j : ℕ) → j < n → Has set j → P j) → All P (members set n)
  all_members set zero f = All-nil P
  all_members set (suc n) f =
      all_add (has set n) (members set n) n (all_members set n (λ j l h. f j (omega arith) h)) (λ e. f n (omega arith) (eqb-true (bit set n) 1 e))

  -- and the other way
  pub members_all : (set n : ℕ) → All P (members set n) → (j : ℕ) → j < n → Has set j → P j
  members_all set n a j l h = All-contains P (members set n) j a (listed_below set n j l h)

apart_push : (js : List ℕ) (n : ℕ) → All (λ j. j < n) js → Apart js → Apart (js ++ n ∷ [])
apart_push [] n l a = (All-nil (λ i. i ≢ n), tt)
apart_push (j ∷ js) n l a =
    let first = All-head (λ i. i < n) j js l in
    (All-push (λ i. i ≢ j) js n a.0 (λ e. omega (arith, first)), apart_push js n (All-tail (λ i. i < n) j js l) a.1)

apart_add : (b : Bool) (js : List ℕ) (n : ℕ) → All (λ j. j < n) js → Apart js → Apart (add b js n)
apart_add true js n l a = apart_push js n l a
apart_add false js n l a = a

pub members_apart : (set n : ℕ) → Apart (members set n)
members_apart set zero = tt
members_apart set (suc n) = apart_add (has set n) (members set n) n (all_members (λ j. j < n) set n (λ j l h. l)) (members_apart set n)

-- a part of a set has no more than the whole, whatever amount each job has
module _ (amount : ℕ → ℕ) where
  sum_add : (b : Bool) (js : List ℕ) (n : ℕ) → sum_by amount (add b js n) ≡ sum_by amount js + cond b (amount n) 0
  sum_add true js n = sum_by_push amount js n
  sum_add false js n = omega arith

  cond_less : (a b : Bool) (n : ℕ) → (a ≡ true → b ≡ true) → cond a n 0 ≤ cond b n 0
  cond_less true true n h = omega arith
  cond_less true false n h = absurd (true≢false (sym (h refl)))
  cond_less false b n h = omega arith

  pub sum_part : (part whole : ℕ) → Part part whole → (n : ℕ) → sum_by amount (members part n) ≤ sum_by amount (members whole n)
  sum_part part whole p zero = omega arith
  sum_part part whole p (suc n) = omega (
    arith,
    sum_part part whole p n,
    sum_add (has part n) (members part n) n,
    sum_add (has whole n) (members whole n) n,
    cond_less (has part n) (has whole n) (amount n) (λ e. eq-eqb (bit whole n) 1 (p n (eqb-true (bit part n) 1 e))),
  )

-- the same of all jobs of a set
pub all_jobs : (P : ℕ → Type 0) (set : ℕ) → ((j : ℕ) → Has set j → P j) → All P (jobs_of set)
unfolding jobs_of
all_jobs P set f = all_members P set width (λ j l h. f j h)

pub jobs_listed : (set j : ℕ) → set < 2 ^ width → Has set j → Contains (jobs_of set) j
unfolding jobs_of
jobs_listed set j small h = listed_below set width j (bit_fits width set j small h) h

-- the same of a set of any number, for the jobs that there are
pub listed_under : (set j : ℕ) → j < width → Has set j → Contains (jobs_of set) j
unfolding jobs_of
listed_under set j l h = listed_below set width j l h

pub jobs_all : (P : ℕ → Type 0) (set : ℕ) → set < 2 ^ width → All P (jobs_of set) → (j : ℕ) → Has set j → P j
jobs_all P set small a j h = All-contains P (jobs_of set) j a (jobs_listed set j small h)

pub jobs_apart : (set : ℕ) → Apart (jobs_of set)
unfolding jobs_of
jobs_apart set = members_apart set width

pub jobs_below : (set : ℕ) → All (λ j. j < width) (jobs_of set)
unfolding jobs_of
jobs_below set = all_members (λ j. j < width) set width (λ j l h. l)

pub sum_jobs_part : (amount : ℕ → ℕ) (part whole : ℕ) → Part part whole → sum_by amount (jobs_of part) ≤ sum_by amount (jobs_of whole)
unfolding jobs_of
sum_jobs_part amount part whole p = sum_part amount part whole p width
