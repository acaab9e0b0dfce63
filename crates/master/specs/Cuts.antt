-- Cuts, and the table that holds them in the order in which they were put.
use Rattle.std.specs.Prelude.{◌≡◌, ℕ, ◌<◌, ◌≤◌, List, [], ◌∷◌, ◌++◌, length, Ok, Err, Result}
use Rattle.std.specs.List.{AllByRecursion}
use Rattle.jobs.specs.Sets.{bits, Has, Part}
use Rattle.jobs.specs.Words.{Same}
use Rattle.jobs.specs.declared.refusal.Refusal.{Refusal}
use Rattle.jobs.specs.declared.set.JobSet.{JobSet}
use Rattle.master.specs.Refused.{most_places}
use Rattle.master.specs.Rows.{Gives}
use Rattle.master.specs.declared.cut.Addition.{Addition}
use Rattle.master.specs.declared.cut.Addition.TheVariants.{Covered, Full, Put}
use Rattle.master.specs.declared.cut.Cut.{Cut}

-- how many cuts a table holds at most
abbrev pub room : ℕ
room = 512

abbrev pub cut_of : ℕ → JobSet → Cut
cut_of place set = record { place = place; set = set }

-- every job of the set is given the place
abbrev pub Breaks : List ℕ → Cut → Type 0
Breaks row c = (job : ℕ) → Has (bits c.set) job → Gives row job c.place

-- the row breaks none of the cuts (by recursion over the list, as the crates above read it)
abbrev pub Obeys : List ℕ → List Cut → Type 0
Obeys row cuts = AllByRecursion (λ c. Breaks row c → ⊥) cuts

-- c and d are cuts of one place, and c's set is a part of d's
pub record Within (c d : Cut) : Type 0 where
  pub place : c.place ≡ d.place
  pub part : Part (bits c.set) (bits d.set)

-- a cut of the list lies within c, or c within it
pub data Touches (c : Cut) : List Cut → Type 0 where
  inside : (d : Cut) (ds : List Cut) → Within d c → Touches c (d ∷ ds)
  around : (d : Cut) (ds : List Cut) → Within c d → Touches c (d ∷ ds)
  beyond : (d : Cut) (ds : List Cut) → Touches c ds → Touches c (d ∷ ds)

-- of two cuts of the list one lies within the other
pub data Clash : List Cut → Type 0 where
  first : (d : Cut) (ds : List Cut) → Touches d ds → Clash (d ∷ ds)
  later : (d : Cut) (ds : List Cut) → Clash ds → Clash (d ∷ ds)

-- a cut of the list has no place that there can be
pub data Misplaced : List Cut → Type 0 where
  astray : (d : Cut) (ds : List Cut) → most_places ≤ d.place → Misplaced (d ∷ ds)
  onward : (d : Cut) (ds : List Cut) → Misplaced ds → Misplaced (d ∷ ds)

-- a cut of the list lies within c
pub data Covers (c : Cut) : List Cut → Type 0 where
  here : (d : Cut) (ds : List Cut) → Within d c → Covers c (d ∷ ds)
  there : (d : Cut) (ds : List Cut) → Covers c ds → Covers c (d ∷ ds)

-- what is left of the cuts, in their order, when those that c lies within go
pub data Leaves (c : Cut) : List Cut → List Cut → Type 0 where
  none : Leaves c [] []
  goes : (d : Cut) (ds es : List Cut) → Within c d → Leaves c ds es → Leaves c (d ∷ ds) es
  stays : (d : Cut) (ds es : List Cut) → (Within c d → ⊥) → Leaves c ds es → Leaves c (d ∷ ds) (d ∷ es)

-- the answer when the cut c is added, and the cuts held then
pub data Adds (cuts : List Cut) (c : Cut) : Addition → List Cut → Type 0 where
  covered : Covers c cuts → Adds cuts c Covered cuts
  full : (left : List Cut) → (Covers c cuts → ⊥) → Leaves c cuts left → length left ≡ room → Adds cuts c Full left
  put : (left : List Cut) → (Covers c cuts → ⊥) → Leaves c cuts left → length left < room → Adds cuts c Put (left ++ c ∷ [])

-- what holds unless the cut was put
abbrev pub UnlessPut : Result Addition Refusal → Type 0 → Type 0
UnlessPut (Ok Covered) P = P
UnlessPut (Ok Full) P = P
UnlessPut (Ok Put) P = Unit {0}
UnlessPut (Err e) P = P

-- What adding the cut means for rows: unless there was no room, those that break it are ruled out, and no others.
abbrev pub RulesOut : Result Addition Refusal → List Cut → Cut → List Cut → Type 0
RulesOut (Ok Covered) cuts c after = (row : List ℕ) → Same (Obeys row after) (Obeys row cuts × (Breaks row c → ⊥))
RulesOut (Ok Full) cuts c after = Unit {0}
RulesOut (Ok Put) cuts c after = (row : List ℕ) → Same (Obeys row after) (Obeys row cuts × (Breaks row c → ⊥))
RulesOut (Err e) cuts c after = Unit {0}

-- a cut as it is read from the table
abbrev pub shown : Cut → ℕ × JobSet
shown c = (c.place, c.set)
