-- A new cut among minimal ones: it removes none of them, and one of a row that obeys them is not covered.
use Rattle.std.proofs.Common.{◌≡◌, ℕ, ◌<◌, ◌⊎◌, List, [], ◌∷◌, ◌++◌, length, sym, refl, ap, subst, ⊎_elim, arith}
use Rattle.std.specs.List.{All}
use Rattle.std.proofs.lemmas.List.Elements.{All-weaker, All-head, All-tail, recursion_from_All}
use Rattle.jobs.specs.Sets.{bits, Has, Part, without}
use Rattle.jobs.proofs.Members.{part_lacking, part_or_lacks}
use Rattle.workshops.specs.Workshops.{Meaning, Lawful}
use Rattle.master.specs.Cuts.{room, cut_of, Breaks, Within, Covers, Leaves, Adds}
use Rattle.master.specs.Cuts.Adds.{covered, full, put}
use Rattle.master.specs.Cuts.Leaves.{none, goes, stays}
use Rattle.master.specs.Cuts.Covers.{here, there}
use Rattle.master.specs.Rows.{Gives, Group}
use Rattle.master.specs.declared.cut.Addition.{Addition}
use Rattle.master.specs.declared.cut.Addition.TheVariants.{Put}
use Rattle.master.specs.declared.cut.Cut.{Cut}
use Rattle.master.proofs.Adding.{not_covered}
use Rattle.judging.specs.Judging.{set_of}
use Rattle.planner.specs.Laws.{Minimal}

-- the row does not break the cut, or the cut is of a place below the given one
abbrev pub Fresh : List ℕ → ℕ → Cut → Type 0
Fresh row place d = (Breaks row d → ⊥) ⊎ (d.place < place)

-- a part of the jobs at a place is not covered, if the row breaks no cut of that place
fresh_outside : (row : List ℕ) (place set t : ℕ) → Group row place set → Part t set → (d : Cut) → Fresh row place d → Within d (cut_of place (set_of t)) → ⊥
fresh_outside row place set t g part d f h = ⊎_elim
    (λ (obeyed : Breaks row d → ⊥). obeyed (λ job has. subst (λ (p : ℕ). Gives row job p) (sym h.place) ((g job).0 (part job (h.part job has)))))
    (λ (below : d.place < place). omega (arith, h.place))
    f

pub never_covered : (row : List ℕ) (place set t : ℕ) (cs : List Cut) → Group row place set → Part t set → All (Fresh row place) cs → Covers (cut_of place (set_of t)) cs → ⊥
never_covered row place set t cs g part fresh =
    not_covered (cut_of place (set_of t)) cs (recursion_from_All (λ d. Within d (cut_of place (set_of t)) → ⊥) cs
    (All-weaker (Fresh row place) (λ d. Within d (cut_of place (set_of t)) → ⊥) (fresh_outside row place set t g part) cs fresh))

-- the cut was put last, and none went
pub record PutLast (cs : List Cut) (c : Cut) (a : Addition) (after : List Cut) : Type 0 where
  pub answer : a ≡ Put
  pub cuts : after ≡ cs ++ c ∷ []

module _ {W J : Type 0} (m : Meaning W) (joins : J → ℕ → ℕ → ℕ) (laws : Lawful m) (w : W) (measure : J) (n : ℕ) where
  -- a cut that fails lies within a minimal one only where that one lies within it
  within_back : (c d : Cut) → (m.family w c.place (bits c.set) → ⊥) → Minimal m joins w measure n d → Within c d → Within d c
  within_back c d fails min h = ⊎_elim
      (λ (part : Part (bits d.set) (bits c.set)). record { place = sym h.place; part = part })
      (λ (x : (j : ℕ) × Has (bits d.set) j × (Has (bits c.set) j → ⊥)).
      let less = without (bits d.set) x.0 in
      let smaller : Part (bits c.set) less = part_lacking (bits c.set) (bits d.set) x.0 h.part x.2 in
      let holds : m.family w d.place (bits c.set) = laws.parts w d.place (bits c.set) less min.place smaller (min.nearly x.0 x.1) in
      absurd (fails (subst (λ (p : ℕ). m.family w p (bits c.set)) (sym h.place) holds)))
      (part_or_lacks (bits d.set) (bits c.set))

  -- so, if it is not covered, it removes none
  pub never_removes : (c : Cut) → (m.family w c.place (bits c.set) → ⊥) → (cs left : List Cut) → All (Minimal m joins w measure n) cs → (Covers c cs → ⊥)
      → Leaves c cs left → left ≡ cs
  never_removes c fails cs left min new none = refl
  never_removes c fails cs left min new (goes d ds es k l) = absurd (new (here d ds (within_back c d fails (All-head (Minimal m joins w measure n) d ds min) k)))
  never_removes c fails cs left min new (stays d ds es k l) = ap (λ (xs : List Cut). d ∷ xs) (never_removes c fails ds es (All-tail (Minimal m joins w measure n) d ds min) (λ x. new (there d ds x)) l)

  pub put_last : (c : Cut) → (m.family w c.place (bits c.set) → ⊥) → (cs after : List Cut) (a : Addition) → All (Minimal m joins w measure n) cs → (Covers c cs → ⊥)
      → length cs < room → Adds cs c a after → PutLast cs c a after
  put_last c fails cs after a min new few (covered x) = absurd (new x)
  put_last c fails cs after a min new few (full left x l e) = absurd (omega (arith, ap length (never_removes c fails cs left min new l)))
  put_last c fails cs after a min new few (put left x l lt) = record { answer = refl; cuts = ap (λ (xs : List Cut). xs ++ c ∷ []) (never_removes c fails cs left min new l) }
