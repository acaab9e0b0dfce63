-- The sheet of a plan, as bytes of ASCII:
--
--   plan round 2 cost 270
--   job 0 place 0
--   job 1 place 1
--
-- Each line ends in a line feed.
use Rattle.std.specs.Prelude.{◌≡◌, ℕ, suc, ◌+◌, ◌/◌, ◌%◌, ◌≤◌, cond, List, [], ◌∷◌, ◌++◌, map, length, drop, Some, None, Ok, Err, codes, Option, Result, nat_lt, slice_index_or}
use Rattle.std.specs.Str.Parse.{digits_value}
use Rattle.std.specs.Int.Digits.{digits_of}
use Rattle.jobs.specs.declared.refusal.Refusal.{Refusal}
use Rattle.jobs.specs.declared.refusal.Refusal.TheVariants.{BufferTooShort}

-- a number in decimal: its last digit, and before it the digits of what is left, of which 0 has none
unfoldable pub numeral : ℕ → List ℕ
numeral n = map (λ d. 48 + d) (digits_of 10 (n / 10)) ++ (48 + n % 10) ∷ []

-- two words, each with its number
unfoldable pub pair : List ℕ → ℕ → List ℕ → ℕ → List ℕ
pair word n other m = word ++ (numeral n ++ (other ++ numeral m))

abbrev pub title : ℕ → ℕ → List ℕ
title round cost = pair (codes "plan round ") round (codes " cost ") cost

abbrev pub placing : ℕ → ℕ → List ℕ
placing job place = pair (codes "job ") job (codes " place ") place

-- what ends a line
abbrev pub feed : List ℕ
feed = 10 ∷ []

-- the first line
unfoldable pub head : ℕ → ℕ → List ℕ
head round cost = title round cost ++ feed

-- a job's line, with a tail after its place
unfoldable pub line : ℕ → ℕ → List ℕ → List ℕ
line job place tail = placing job place ++ (tail ++ feed)

-- the lines of the jobs from the given one on
abbrev pub lines : (ℕ → List ℕ) → ℕ → List ℕ → List ℕ
lines tail job [] = []
lines tail job (place ∷ places) = line job place (tail job) ++ lines tail (suc job) places

-- a line ends after its place
abbrev pub no_tail : ℕ → List ℕ
no_tail job = []

-- the sheet of a plan that gives the jobs, from 0 on, these places
abbrev pub sheet : (round cost : ℕ) → List ℕ → List ℕ
sheet round cost places = head round cost ++ lines no_tail 0 places

-- how many bytes a buffer for a sheet has at least
abbrev pub sheet_room : ℕ
sheet_room = 300

-- a buffer with less room is refused
abbrev pub room_refusal : ℕ → Option Refusal
room_refusal room = cond (nat_lt room sheet_room) (Some BufferTooShort) None

-- the answer when bytes are written, unless that is refused
abbrev pub answered : Option Refusal → List ℕ → Result ℕ Refusal
answered (Some e) bytes = Err e
answered None bytes = Ok (length bytes)

-- what the buffer holds then: the bytes and, after them, what it held there before
abbrev pub filled : Option Refusal → List ℕ → List ℕ → List ℕ
filled (Some e) bytes before = before
filled None bytes before = bytes ++ drop (length bytes) before

-- a length that is answered is within the room
abbrev pub FitsRoom : Result ℕ Refusal → Type 0
FitsRoom (Ok n) = n ≤ sheet_room
FitsRoom (Err e) = Unit {0}

-- two plans with the same sheet are the same
abbrev pub ToldApart : Type 0
ToldApart = (round cost round' cost' : ℕ) (places places' : List ℕ) → sheet round cost places ≡ sheet round' cost' places' → (round ≡ round') × (cost ≡ cost') × (places ≡ places')

-- a numeral reads back as its number, and none begins with a 0 but that of 0
pub record Plain (n : ℕ) (digits : List ℕ) : Type 0 where
  pub reads : digits_value 10 digits ≡ n
  pub first : slice_index_or digits 0 0 ≡ 48 → digits ≡ 48 ∷ []

abbrev pub NumeralsPlain : Type 0
NumeralsPlain = (n : ℕ) → Plain n (numeral n)
