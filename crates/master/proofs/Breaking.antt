-- Which cuts a row breaks, and which with one job more.
use Rattle.std.proofs.Common.{◌≡◌, ℕ, ◌+◌, ◌<◌, ◌≤◌, Bool, true, false, not, MatchBool, ltb, ltb-true, ◌≢◌, ◌⊎◌, List, [], ◌∷◌, ◌++◌, length, get_or, take, None, Ok, sym, refl, ap, subst, ⊎_elim, arith}
use Rattle.std.proofs.ByRecursion.{All-more, All-get_or, All-weaker}
use Rattle.std.proofs.lemmas.List.{take_all}
use Rattle.std.proofs.lemmas.List.Elements.{All-from_all_within, recursion_from_All}
use Rattle.std.proofs.lemmas.Bool.{cases_eq}
use Rattle.std.specs.List.{AllByRecursion, HoldsAt, AllWithin}
use Rattle.jobs.specs.Refusals.{Answered}
use Rattle.jobs.specs.declared.refusal.Refusal.TheVariants.{NoSuchJob}
use Rattle.jobs.specs.Sets.{bits, Has, Part, width, job_refusal}
use Rattle.jobs.proofs.Members.{none_in_zero}
use Rattle.jobs.specs.Words.{Same, Exactly}
use Rattle.jobs.specs.declared.set.JobSet.{JobSet}
use Rattle.master.specs.Cuts.{cut_of, Breaks, Obeys, Within, Covers}
use Rattle.master.specs.Cuts.Covers.{here, there}
use Rattle.master.specs.Rows.{Gives, Group}
use Rattle.master.specs.declared.cut.Cut.{Cut}
use Rattle.master.proofs.Adding.{no_cut}
use Rattle.master.proofs.Giving.{gives_push, group_more}

-- a loop over the cuts: one more looked at, all looked at, and one found
module _ (P : Cut → Type 0) (s cuts : List Cut) (same : s ≡ cuts) (i : ℕ) where
  pub looked_more : i < length s → P (get_or s i no_cut) → AllByRecursion P (take i cuts) → AllByRecursion P (take (i + 1) cuts)
  looked_more l p h = All-more P cuts i no_cut (omega (arith, ap length same)) h (subst (λ (cs : List Cut). P (get_or cs i no_cut)) same p)

  pub looked_all : length s ≤ i → AllByRecursion P (take i cuts) → AllByRecursion P cuts
  looked_all l h = subst (λ (cs : List Cut). AllByRecursion P cs) (take_all i cuts (omega (arith, ap length same))) h

  pub looked_at : i < length s → AllByRecursion P cuts → P (get_or s i no_cut)
  looked_at l h = subst (λ (cs : List Cut). P (get_or cs i no_cut)) (sym same) (All-get_or P cuts i no_cut (omega (arith, ap length same)) h)

-- no row with fewer jobs breaks more
pub breaks_longer : (row more : List ℕ) (c : Cut) → ((j p : ℕ) → Gives row j p → Gives more j p) → Breaks row c → Breaks more c
breaks_longer row more c longer b j h = longer j c.place (b j h)

pub obeys_shorter : (row more : List ℕ) (cuts : List Cut) → ((j p : ℕ) → Gives row j p → Gives more j p) → Obeys more cuts → Obeys row cuts
obeys_shorter row more cuts longer = All-weaker (λ c. Breaks more c → ⊥) (λ c. Breaks row c → ⊥) (λ c ok b. ok (breaks_longer row more c longer b)) cuts

-- a row without jobs breaks just the cuts without jobs
pub breaks_none : (c : Cut) (s : ℕ) → ((j : ℕ) → Has s j → ⊥) → Part (bits c.set) s → Breaks [] c
breaks_none c s none part j h = absurd (none j (part j h))

pub none_breaks : (c : Cut) (s : ℕ) → Breaks [] c → Part (bits c.set) s
none_breaks c s b j h = let e = b j h in let z : ◌≡◌ {A = ℕ} 0 1 = cc in absurd (omega arith)

-- the cuts that break a row without jobs are those without jobs
pub none_broken : (cs : List Cut) (r : Bool) → MatchBool r ((k : ℕ) × (k < length cs) × HoldsAt (λ d. Part (bits d.set) 0) cs k) (AllWithin (λ d. Part (bits d.set) 0 → ⊥) cs 0 (length cs)) → Exactly (not r) (Obeys [] cs)
none_broken cs true h = λ ok. All-get_or (λ d. Breaks [] d → ⊥) cs h.0 (cut_of 0 (record { bits = 0 })) h.1 ok (breaks_none _ 0 none_in_zero (h.2 _))
none_broken cs false h = All-weaker (λ d. Part (bits d.set) 0 → ⊥) (λ d. Breaks [] d → ⊥) (λ d out b. out (none_breaks d 0 b)) cs
    (recursion_from_All (λ d. Part (bits d.set) 0 → ⊥) cs (All-from_all_within (λ d. Part (bits d.set) 0 → ⊥) cs h))

-- The job after the row's last is put at x, where the set then has just the jobs that are there.
module _ (row : List ℕ) (x : ℕ) (set : JobSet) (whole : Group (row ++ x ∷ []) x (bits set)) where
  within_breaks : (d : Cut) → Within d (cut_of x set) → Breaks (row ++ x ∷ []) d
  within_breaks d w j h = subst (λ (p : ℕ). Gives (row ++ x ∷ []) j p) (sym w.place) ((whole j).0 (w.part j h))

  breaks_within : (d : Cut) → (Breaks row d → ⊥) → Breaks (row ++ x ∷ []) d → Within d (cut_of x set)
  breaks_within d ok b = ⊎_elim
      (λ (e : d.place ≡ x). record { place = e; part = λ j h. (whole j).1 (subst (λ (p : ℕ). Gives (row ++ x ∷ []) j p) e (b j h)) })
      (λ (ne : d.place ≢ x). absurd (ok (λ j h. ⊎_elim (λ (g : Gives row j d.place). g) (λ (k : (j ≡ length row) × (d.place ≡ x)). absurd (ne k.1)) (gives_push row x j d.place (b j h)))))
      (cases_eq d.place x)

  covers_breaks : (cuts : List Cut) → Covers (cut_of x set) cuts → Obeys (row ++ x ∷ []) cuts → ⊥
  covers_breaks cuts (here d ds w) ok = ok.0 (within_breaks d w)
  covers_breaks cuts (there d ds k) ok = covers_breaks ds k ok.1

  uncovered_obeys : (cuts : List Cut) → (Covers (cut_of x set) cuts → ⊥) → Obeys row cuts → Obeys (row ++ x ∷ []) cuts
  uncovered_obeys [] new ok = tt
  uncovered_obeys (d ∷ ds) new ok = (λ b. new (here d ds (breaks_within d ok.0 b)), uncovered_obeys ds (λ k. new (there d ds k)) ok.1)

  pub still_obeys : (cuts : List Cut) (r : Bool) → Exactly r (Covers (cut_of x set) cuts) → Obeys row cuts → Exactly (not r) (Obeys (row ++ x ∷ []) cuts)
  still_obeys cuts true k ok = covers_breaks cuts k
  still_obeys cuts false k ok = uncovered_obeys cuts k ok

-- a set that took the job in
pub with_taken : {T : Type 0} (job : ℕ) (v : T) (P : T → Type 0) → Answered (job_refusal job) (Ok v) P → (job < width) × P v
with_taken {T} job v P h = go (ltb job width) refl h
  where
    go : (b : Bool) → b ≡ ltb job width → Answered (Rattle.jobs.specs.Refusals.unless b NoSuchJob None) (Ok v) P → (job < width) × P v
    go true e k = (ltb-true job width (sym e), k)
    go false e k = let z : ◌≡◌ {A = ℕ} 0 1 = cc in absurd (omega arith)

-- the same with one job more, put at x
pub whole_group : (row : List ℕ) (x job s t : ℕ) → length row ≡ job → ((j : ℕ) → Same (Has t j) (Has s j ⊎ (j ≡ job))) → Group row x s → Group (row ++ x ∷ []) x t
whole_group row x job s t e more g = group_more row x x s t refl (subst (λ (n : ℕ). (j : ℕ) → Same (Has t j) (Has s j ⊎ (j ≡ n))) (sym e) more) g
