-- Remembered verdicts as a list, oldest first, and what is known from them.
use Rattle.std.specs.Prelude.{◌≡◌, ℕ, Bool, true, false, cond, not, ◌&&◌, ◌||◌, ◌⊎◌, List, [], ◌∷◌, ◌++◌, length, drop, Some, None, Option, ◌==◌, nat_lt}
use Rattle.jobs.specs.Sets.{bits, Part, joined as union}
use Rattle.workshops.specs.declared.notes.Note.{Note}
use Rattle.workshops.specs.declared.notes.Notes.{Notes}

-- how many are remembered
abbrev pub room : ℕ
room = 64

-- what is remembered, oldest first
abbrev pub remembered : Notes → List Note
remembered n = n.notes.items

-- one more at the end, in place of the oldest where there is no room
abbrev pub joined : List Note → Note → List Note
joined l n = cond (nat_lt (length l) room) l (drop 1 l) ++ (n ∷ [])

-- The note says yes, or no, to a question at the place: the set is a part of one that was answered yes there,
-- or contains one that was answered no.
abbrev pub Settles : Bool → ℕ → ℕ → Note → Type 0
Settles true place set n = (n.yes ≡ true) × (n.place ≡ place) × Part set (bits n.set)
Settles false place set n = (n.yes ≡ false) × (n.place ≡ place) × Part (bits n.set) set

-- one of the notes does
abbrev pub Knows : Bool → List Note → ℕ → ℕ → Type 0
Knows y [] place set = ⊥
Knows y (n ∷ l) place set = Settles y place set n ⊎ Knows y l place set

abbrev pub KnownYes : List Note → ℕ → ℕ → Type 0
KnownYes = Knows true

abbrev pub KnownNo : List Note → ℕ → ℕ → Type 0
KnownNo = Knows false

-- the answer that is known, if one is; a yes before a no
abbrev pub Says : Option Bool → Type 0 → Type 0 → Type 0
Says (Some true) Y N = Y
Says (Some false) Y N = (Y → ⊥) × N
Says None Y N = (Y → ⊥) × (N → ⊥)

-- the same as tests: a part adds nothing to the whole
abbrev pub is_part : ℕ → ℕ → Bool
is_part part whole = union part whole == whole

abbrev pub settles : Bool → ℕ → ℕ → Note → Bool
settles true place set n = (n.yes && n.place == place) && is_part set (bits n.set)
settles false place set n = (not n.yes && n.place == place) && is_part (bits n.set) set

abbrev pub knows : Bool → List Note → ℕ → ℕ → Bool
knows y [] place set = false
knows y (n ∷ l) place set = settles y place set n || knows y l place set

abbrev pub known : List Note → ℕ → ℕ → Option Bool
known l place set = cond (knows true l place set) (Some true) (cond (knows false l place set) (Some false) None)
