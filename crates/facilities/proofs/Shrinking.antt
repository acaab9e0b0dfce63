-- Laws of shrinking, over any family.
use Rattle.std.proofs.Common.{◌≡◌, ℕ, ◌^◌, ◌<◌, List, [], ◌∷◌, ◌++◌, sym, refl, ◌∙◌, subst}
use Rattle.std.specs.List.{All}
use Rattle.std.proofs.lemmas.List.Elements.{All-nil, All-cons, All-contains}
use Rattle.jobs.specs.Sets.{width, Has, Part, without, jobs_of}
use Rattle.jobs.proofs.Members.{part_refl, part_trans, part_without, without_part, without_members}
use Rattle.facilities.specs.Listed.{jobs_all, listed_under}
use Rattle.facilities.specs.Shrinking.{Tried, Shrinks, Shrunk, Minimal, AtMostOne}
use Rattle.facilities.specs.Shrinking.Tried.{stays, goes}

-- One turn more: a job tried after the others.
pub shrinks_more : (family : ℕ → Type 0) (js : List ℕ) (set s j t : ℕ) → Shrinks family js set s → Tried family s j t → Shrinks family (js ++ j ∷ []) set t
shrinks_more family [] set s j t e tried = (t, subst (λ n. Tried family n j t) e tried, refl)
shrinks_more family (k ∷ ks) set s j t (left, first, rest) tried = (left, first, shrinks_more family ks left s j t rest tried)

-- One trial has one outcome, and so have many.
tried_once : (family : ℕ → Type 0) (set j s t : ℕ) → Tried family set j s → Tried family set j t → s ≡ t
tried_once family set j s t (stays f e) (stays f' e') = e ∙ sym e'
tried_once family set j s t (stays f e) (goes n e') = absurd (n f)
tried_once family set j s t (goes n e) (stays f e') = absurd (n f)
tried_once family set j s t (goes n e) (goes n' e') = e ∙ sym e'

shrinks_once : (family : ℕ → Type 0) (js : List ℕ) (set t u : ℕ) → Shrinks family js set t → Shrinks family js set u → t ≡ u
shrinks_once family [] set t u e e' = e ∙ sym e'
shrinks_once family (j ∷ js) set t u (s, tried, rest) (s', tried', rest') =
    shrinks_once family js s t u rest (subst (λ n. Shrinks family js n u) (tried_once family set j s' s tried' tried) rest')

pub shrunk_once : (family : ℕ → Type 0) (set : ℕ) → AtMostOne (Shrunk family set)
shrunk_once family set t u a b = shrinks_once family (jobs_of set) set t u a.shrinks b.shrinks

-- What one trial leaves, and what many leave.
tried_part : (family : ℕ → Type 0) (set j t : ℕ) → Tried family set j t → Part t set
tried_part family set j t (stays f e) = subst (λ n. Part n set) (sym e) (part_refl set)
tried_part family set j t (goes n e) = subst (λ n. Part n set) (sym e) (without_part set j)

tried_fails : (family : ℕ → Type 0) (set j t : ℕ) → (family set → ⊥) → Tried family set j t → family t → ⊥
tried_fails family set j t fails (stays f e) = λ m. fails (subst family e m)
tried_fails family set j t fails (goes n e) = λ m. n (subst family e m)

pub shrinks_part : (family : ℕ → Type 0) (js : List ℕ) (set t : ℕ) → Shrinks family js set t → Part t set
shrinks_part family [] set t e = subst (λ n. Part n set) (sym e) (part_refl set)
shrinks_part family (j ∷ js) set t (s, tried, rest) =
    part_trans t s set (shrinks_part family js s t rest) (tried_part family set j s tried)

pub shrinks_fails : (family : ℕ → Type 0) (js : List ℕ) (set t : ℕ) → (family set → ⊥) → Shrinks family js set t → family t → ⊥
shrinks_fails family [] set t fails e = λ m. fails (subst family e m)
shrinks_fails family (j ∷ js) set t fails (s, tried, rest) =
    shrinks_fails family js s t (tried_fails family set j s fails tried) rest

-- A job that was tried and is still there cannot be left out, now that the set is smaller, either.
pub shrinks_tight : (family : ℕ → Type 0) → ((part whole : ℕ) → Part part whole → family whole → family part)
    → (js : List ℕ) (set t : ℕ) → Shrinks family js set t → All (λ j. Has t j → family (without t j)) js
shrinks_tight family parts [] set t e = All-nil (λ j. Has t j → family (without t j))
shrinks_tight family parts (k ∷ ks) set t (s, tried, rest) =
    All-cons (λ j. Has t j → family (without t j)) k ks (here tried) (shrinks_tight family parts ks s t rest)
  where
    below : Part t s
    below = shrinks_part family ks s t rest

    here : Tried family set k s → Has t k → family (without t k)
    here (stays f e) held = parts (without t k) (without set k) (part_without t set k (subst (Part t) e below)) f
    here (goes n e) held = absurd (((without_members set k k).0 (subst (λ i. Has i k) e (below k held))).1 refl)

-- No job that there is can be left out, whatever the set's number.
pub shrunk_nearly : (family : ℕ → Type 0) → ((part whole : ℕ) → Part part whole → family whole → family part)
    → (set t : ℕ) → Shrunk family set t → (j : ℕ) → j < width → Has t j → family (without t j)
shrunk_nearly family parts set t shrunk j l h =
    All-contains (λ k. Has t k → family (without t k)) (jobs_of set) j (shrinks_tight family parts (jobs_of set) set t shrunk.shrinks)
    (listed_under set j l (shrinks_part family (jobs_of set) set t shrunk.shrinks j h)) h

pub shrunk_minimal : (family : ℕ → Type 0) → ((part whole : ℕ) → Part part whole → family whole → family part)
    → (set t : ℕ) → set < 2 ^ width → Shrunk family set t → Minimal family set t
shrunk_minimal family parts set t small shrunk = record {
  part = whole;
  fails = shrinks_fails family (jobs_of set) set t shrunk.fails shrunk.shrinks;
  tight = λ j h. jobs_all (λ k. Has t k → family (without t k)) set small (shrinks_tight family parts (jobs_of set) set t shrunk.shrinks) j (whole j h) h;
}
  where
    whole : Part t set
    whole = shrinks_part family (jobs_of set) set t shrunk.shrinks
