-- What a refused call answers: each refusal's number and words, and the shape of an answer that may be refused.
use Rattle.std.specs.Prelude.{◌≡◌, ℕ, Bool, true, false, List, Some, None, Ok, Err, codes, Option, Result}
use Rattle.jobs.specs.declared.refusal.Refusal.{Refusal}
use Rattle.jobs.specs.declared.refusal.Refusal.TheVariants.{JobsOutOfRange, PlacesOutOfRange, SupplyOutOfRange, NoSuchJob, NoSuchPlace, BadRow, AmountTooLarge, RoundsUsedUp, NotPending, BufferTooShort}

abbrev pub number : Refusal → ℕ
number JobsOutOfRange = 1
number PlacesOutOfRange = 2
number SupplyOutOfRange = 3
number NoSuchJob = 4
number NoSuchPlace = 5
number BadRow = 6
number AmountTooLarge = 7
number RoundsUsedUp = 8
number NotPending = 9
number BufferTooShort = 10

-- the bytes of each refusal's words
abbrev pub wording : Refusal → List ℕ
wording JobsOutOfRange = codes "the number of jobs is not 1 to 16"
wording PlacesOutOfRange = codes "the number of places is not 1 to 8"
wording SupplyOutOfRange = codes "the supply is not 1 to 255"
wording NoSuchJob = codes "no such job"
wording NoSuchPlace = codes "no such place"
wording BadRow = codes "the row's numbers do not go together"
wording AmountTooLarge = codes "the amount is above 1000000"
wording RoundsUsedUp = codes "all 65535 rounds are used up"
wording NotPending = codes "no such proposal is pending"
wording BufferTooShort = codes "the buffer is too short for a sheet"

-- Refused with e unless the test holds; then as the checks that follow say.
abbrev pub unless : Bool → Refusal → Option Refusal → Option Refusal
unless true e rest = rest
unless false e rest = Some e

-- The answer of a call that is refused as the first argument says, if it says anything.
-- Else the answer is a value as described.
abbrev pub Answered : {T : Type 0} → Option Refusal → Result T Refusal → (T → Type 0) → Type 0
Answered (Some e) r P = r ≡ Err e
Answered None (Ok v) P = P v
Answered None (Err e) P = ⊥
