-- What is known from a list of verdicts.
use Rattle.std.specs.Prelude.{◌≡◌, ℕ, Bool, true, false, cond, not, ◌&&◌, List, [], ◌∷◌, Some, None, Option, ◌==◌, refl}
use Rattle.std.proofs.Common.{sym, subst, ◌∙◌, inl, inr, ⊎_elim, arith}
use Rattle.std.proofs.lemmas.Bool.{MatchBool-at_true, cases_from_iff, and_parts, and_from, or_cases, or_left, or_right, eqb-true, eq-eqb, not-true, not_from_false, cond-true, cond-false}
use Rattle.jobs.specs.Sets.{bits, Has, Part, joined as union}
use Rattle.jobs.specs.Words.{Exactly}
use Rattle.jobs.proofs.Answers.{exactly_eqb}
use Rattle.jobs.proofs.Members.{by_members, joined_members}
use Rattle.workshops.specs.Remembered.{is_part, Settles, Knows, KnownYes, KnownNo, Says, settles, knows, known}
use Rattle.workshops.specs.declared.notes.Note.{Note}

-- a test that is true exactly where P holds
exact_true : (b : Bool) {P : Type 0} → Exactly b P → P → b ≡ true
exact_true true e p = refl
exact_true false e p = absurd (e p)

exact_false : (b : Bool) {P : Type 0} → Exactly b P → (P → ⊥) → b ≡ false
exact_false true e n = absurd (n e)
exact_false false e n = refl

exactly : (b : Bool) (P : Type 0) → (b ≡ true → P) → (P → b ≡ true) → Exactly b P
exactly b P f g = cases_from_iff {b = b} {P = P} (f, g)

part_exact : (part whole : ℕ) → Exactly (is_part part whole) (Part part whole)
part_exact part whole = exactly_eqb (union part whole) whole
    (λ e j h. subst (λ n. Has n j) e ((joined_members part whole j).1 (inl h)))
    (λ f. by_members (union part whole) whole (λ j h. ⊎_elim (f j) (λ k. k) ((joined_members part whole j).0 h)) (λ j h. (joined_members part whole j).1 (inr h)))

module _ (p s : ℕ) where
  settles_exact : (y : Bool) (n : Note) → Exactly (settles y p s n) (Settles y p s n)
  settles_exact true n = exactly _ (Settles true p s n)
      (λ h. let ab = and_parts (n.yes && n.place == p) _ h in
      let cd = and_parts n.yes (n.place == p) ab.0 in (cd.0, eqb-true _ _ cd.1, MatchBool-at_true _ _ ab.1 (part_exact s (bits n.set))))
      (λ t. and_from _ _ (and_from _ _ t.0 (eq-eqb _ _ t.1)) (exact_true _ (part_exact s (bits n.set)) t.2))
  settles_exact false n = exactly _ (Settles false p s n)
      (λ h. let ab = and_parts (not n.yes && n.place == p) _ h in
      let cd = and_parts (not n.yes) (n.place == p) ab.0 in (not-true _ cd.0, eqb-true _ _ cd.1, MatchBool-at_true _ _ ab.1 (part_exact (bits n.set) s)))
      (λ t. and_from _ _ (and_from _ _ (not_from_false _ t.0) (eq-eqb _ _ t.1)) (exact_true _ (part_exact (bits n.set) s) t.2))

  knows_exact : (y : Bool) (l : List Note) → Exactly (knows y l p s) (Knows y l p s)
  knows_exact y [] = λ z. z
  knows_exact y (n ∷ l) = exactly _ (Knows y (n ∷ l) p s)
      (λ h. ⊎_elim (λ a. inl (MatchBool-at_true _ _ a (settles_exact y n))) (λ b. inr (MatchBool-at_true _ _ b (knows_exact y l))) (or_cases (settles y p s n) (knows y l p s) h))
      (⊎_elim (λ a. or_left _ _ (exact_true _ (settles_exact y n) a)) (λ b. or_right (settles y p s n) _ (exact_true _ (knows_exact y l) b)))

  -- what the notes say is what is known
  pub known_says : (l : List Note) (a : Option Bool) → Says a (KnownYes l p s) (KnownNo l p s) → a ≡ known l p s
  known_says l (Some true) h = sym (cond-true _ _ _ (exact_true _ (knows_exact true l) h))
  known_says l (Some false) h = sym (cond-false _ _ _ (exact_false _ (knows_exact true l) h.0) ∙ cond-true _ _ _ (exact_true _ (knows_exact false l) h.1))
  known_says l None h = sym (cond-false _ _ _ (exact_false _ (knows_exact true l) h.0) ∙ cond-false _ _ _ (exact_false _ (knows_exact false l) h.1))

  -- an answer that is known is known from a note
  known_at : (x z : Bool) (y : Bool) (P : Bool → Type 0) → Exactly x (P true) → Exactly z (P false) → cond x (Some true) (cond z (Some false) None) ≡ Some y → P y
  known_at true z y P e f h = let h2 : true ≡ y = cc in subst P h2 e
  known_at false true y P e f h = let h2 : false ≡ y = cc in subst P h2 f
  known_at false false y P e f h = grind arith

  pub known_knows : (l : List Note) (y : Bool) → known l p s ≡ Some y → Knows y l p s
  known_knows l y h = known_at (knows true l p s) (knows false l p s) y (λ b. Knows b l p s) (knows_exact true l) (knows_exact false l) h
