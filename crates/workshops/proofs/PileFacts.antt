-- A pile of two facilities tells what is true of them.
use Rattle.std.proofs.Common.{ℕ, zero, suc, ◌<◌, Bool, true, false, cond, List, [], ◌∷◌, Some, None, Ok, Err, Result, sym, refl, subst, ⊎_elim, arith}
use Rattle.std.proofs.lemmas.Bool.{cases_lt, lt-ltb, le-ltb}
use Rattle.jobs.specs.Refusals.{Answered}
use Rattle.jobs.specs.Sets.{bits}
use Rattle.jobs.specs.Words.{Same, Exactly}
use Rattle.jobs.specs.declared.refusal.Refusal.{Refusal}
use Rattle.jobs.specs.declared.refusal.Refusal.TheVariants.{NoSuchPlace}
use Rattle.jobs.specs.declared.set.JobSet.{JobSet}
use Rattle.workshops.specs.Piles.{Pile, pile, Piled, either, two_places, Counted, Surveyed}
use Rattle.workshops.specs.Runs.{granted, Runs, Steady}
use Rattle.workshops.specs.Tallies.{Exact}
use Rattle.workshops.specs.declared.tally.Tally.{Tally}

exactly_same : (y : Bool) {P Q : Type 0} → Same P Q → Exactly y Q → Exactly y P
exactly_same true e q = e.1 q
exactly_same false e q = λ p. q (e.0 p)

exact_same : (P Q : ℕ → Type 0) → ((s : ℕ) → Same (P s) (Q s)) → (sets : List JobSet) (ys : List Bool) → Exact Q sets ys → Exact P sets ys
exact_same P Q e sets [] h = tt
exact_same P Q e [] (y ∷ ys) h = h
exact_same P Q e (s ∷ sets) (y ∷ ys) h = (exactly_same y (e (bits s)) h.0, exact_same P Q e sets ys h.1)

module _ {F G : Type 0} (one : F → ℕ → Type 0) (two : G → ℕ → Type 0) (steady : Steady (pile one two)) where
  -- the families of a new pile are those of the facilities
  family_made : (f : F) (g : G) (w : Pile F G) → Piled one two f g w → (p s : ℕ) → p < 2 → Same (either (one f) (two g) p s) ((pile one two).family w p s)
  family_made f g w h zero s l = (subst (λ x. one x s) (sym h.first), subst (λ x. one x s) h.first)
  family_made f g w h (suc zero) s l = (subst (λ x. two x s) (sym h.second), subst (λ x. two x s) h.second)
  family_made f g w h (suc (suc p)) s l = absurd (omega arith)

  counted_at : (f : F) (g : G) (n p : ℕ) (sets : List JobSet) (r : Result Tally Refusal) → Surveyed one two f g n p sets r → p < 2 → Answered None r (Counted (either (one f) (two g) p) sets)
  counted_at f g n p sets (Ok t) h l =
      let run : Runs (pile one two) (granted n ∷ []) h.made h.funded = (h.funded, h.granting, refl) in
      let kept = steady.kept (granted n ∷ []) h.made h.funded run in
      let tally = h.asking.tallies (omega arith) in
      let sound = steady.sound (granted n ∷ []) h.made h.funded run h.making.sound in
      let same : (s : ℕ) → Same (either (one f) (two g) p s) ((pile one two).family h.funded p s) =
      λ s. let a = family_made f g h.made h.making p s l in
      let b = kept.family p s (omega arith) in (λ x. b.0 (a.0 x), λ x. a.1 (b.1 x)) in
      record {
        answers = tally.answers;
        answered = tally.answered;
        yes = tally.yes;
        exact = exact_same (either (one f) (two g) p) ((pile one two).family h.funded p) same sets tally.answers (tally.exact sound);
      }
  counted_at f g n p sets (Err e) h l = h.asking.tallies (omega arith)

  pub surveyed : (f : F) (g : G) (n p : ℕ) (sets : List JobSet) (r : Result Tally Refusal) → Surveyed one two f g n p sets r
      → Answered (two_places p) r (Counted (either (one f) (two g) p) sets)
  surveyed f g n p sets r h = ⊎_elim
      (λ l. subst (λ b. Answered (cond b None (Some NoSuchPlace)) r (Counted (either (one f) (two g) p) sets)) (sym (lt-ltb p 2 l)) (counted_at f g n p sets r h l))
      (λ l. subst (λ b. Answered (cond b None (Some NoSuchPlace)) r (Counted (either (one f) (two g) p) sets)) (sym (le-ltb p 2 l)) (h.asking.refuses l).0)
      (cases_lt p 2)
