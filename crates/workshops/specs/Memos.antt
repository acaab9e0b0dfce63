-- A memo: a workshop and the verdicts that it gave.
use Rattle.std.specs.Prelude.{◌≡◌, ℕ, ◌<◌, Bool, List, [], ◌∷◌, Some, None, Option}
use Rattle.jobs.specs.Sets.{bits}
use Rattle.workshops.specs.Stances.{Stance, Ready, deeper}
use Rattle.workshops.specs.Replies.{True}
use Rattle.workshops.specs.Workshops.{Meaning}
use Rattle.workshops.specs.Remembered.{remembered, joined, known}
use Rattle.workshops.specs.declared.memo.Memo.{Memo}
use Rattle.workshops.specs.declared.notes.Note.{Note}

-- the verdict y on a set, by its number, at a place
abbrev pub note : ℕ → ℕ → Bool → Note
note p s y = record { place = p; set = record { bits = s }; yes = y }

-- each remembered verdict is true of the workshop
abbrev pub AllTrue : {W : Type 0} → Meaning W → W → List Note → Type 0
AllTrue m w [] = Unit {0}
AllTrue m w (n ∷ l) = (n.place < m.count w) × True (Some n.yes) (m.family w n.place (bits n.set)) × AllTrue m w l

-- what is known is ready, else the stance is the one below
abbrev pub recalled : Option Bool → Stance → Stance
recalled (Some y) below = Ready
recalled None below = deeper below

-- What a question leaves. What is known is given, and nothing changes. Else it is asked below, and
-- an answer is remembered as it was given, a stop never.
abbrev pub Recalls : {W : Type 0} → Option Bool → Option Bool → (W → Type 0) → ℕ → ℕ → Memo W → Memo W → Type 0
Recalls (Some y) a asked p s w v = (a ≡ Some y) × (v ≡ w)
Recalls None (Some y) asked p s w v = asked v.below × (remembered v.notes ≡ joined (remembered w.notes) (note p s y))
Recalls None None asked p s w v = asked v.below × (v.notes ≡ w.notes)

abbrev pub memo : {W : Type 0} → Meaning W → Meaning (Memo W)
memo m = record {
  count = λ w. m.count w.below;
  family = λ w. m.family w.below;
  stance = λ w p s. recalled (known (remembered w.notes) p s) (m.stance w.below p s);
  asks = λ w p s a v. Recalls (known (remembered w.notes) p s) a (m.asks w.below p s a) p s w v;
  grants = λ w n v. m.grants w.below n v.below × (v.notes ≡ w.notes);
  invariant = λ w. m.invariant w.below × AllTrue m w.below (remembered w.notes);
}
