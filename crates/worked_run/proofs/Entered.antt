-- Three rows entered one after the other, where no job had one.
use Rattle.std.proofs.Common.{◌≡◌, ℕ, zero, suc, ◌≤◌, List, ◌∷◌, Some, None, Option, refl, ap, subst, ◌∙◌, arith, replicate, Result}
use Rattle.std.specs.Prelude.{set, slice_index_or}
use Rattle.jobs.specs.declared.refusal.Refusal.{Refusal}
use Rattle.facilities.specs.Rows.{row, Entry}
use Rattle.worked_run.specs.Rows.{Three}

blank : {R : Type 0} (n k : ℕ) → slice_index_or {A = Option R} (replicate n None) k None ≡ None
blank zero k = refl
blank (suc n) zero = refl
blank (suc n) (suc k) = blank n k

above : {R : Type 0} (a b c : Option R) (n k : ℕ) → 3 ≤ k → slice_index_or {A = Option R} (a ∷ b ∷ c ∷ replicate n None) k None ≡ None
above a b c n zero l = absurd (omega (arith, l))
above a b c n (suc zero) l = absurd (omega (arith, l))
above a b c n (suc (suc zero)) l = absurd (omega (arith, l))
above a b c n (suc (suc (suc k))) l = blank n k

pub three : {R : Type 0} (P Q S : R → Type 0) (old one two rows : List (Option R)) (a b c : R)
    → old ≡ replicate 16 None → one ≡ set old 0 (Some a) → two ≡ set one 1 (Some b) → rows ≡ set two 2 (Some c)
    → P a → Q b → S c → Three P Q S rows
three P Q S old one two rows a b c e f g h p q s =
    let all : rows ≡ Some a ∷ Some b ∷ Some c ∷ replicate 13 None =
    h ∙ ap (λ l. set l 2 (Some c)) (g ∙ ap (λ l. set l 1 (Some b)) (f ∙ ap (λ l. set l 0 (Some a)) e)) in
    record {
      first = (a, ap (λ l. row l 0) all, p);
      second = (b, ap (λ l. row l 1) all, q);
      third = (c, ap (λ l. row l 2) all, s);
      others = λ k l. ap (λ t. row t k) all ∙ above (Some a) (Some b) (Some c) 13 k l;
    }

-- what a call does that is not refused
pub done : {F : Type 0} {e : Option Refusal} (r : Result (Unit {0}) Refusal) (before after : F) {D : Type 0} → e ≡ None → Entry e r before after D → D
done r before after {D} p h = (subst (λ t. Entry t r before after D) p h).1
