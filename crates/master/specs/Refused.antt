-- When the calls are refused: the first of the checks that fails.
use Rattle.std.specs.Prelude.{ℕ, Bool, ◌&&◌, Some, None, Ok, Err, Option, Result, nat_le, nat_lt}
use Rattle.jobs.specs.declared.refusal.Refusal.{Refusal}
use Rattle.jobs.specs.declared.refusal.Refusal.TheVariants.{JobsOutOfRange, PlacesOutOfRange, NoSuchJob, NoSuchPlace, AmountTooLarge}
use Rattle.jobs.specs.Refusals.{unless}
use Rattle.jobs.specs.Sets.{width}

-- how many places there are at most: their numbers are 0 to most_places - 1
abbrev pub most_places : ℕ
most_places = 8

-- the most that a price can be
abbrev pub top_price : ℕ
top_price = 1000000

-- the first refusal, or else the second
abbrev pub or_else : Option Refusal → Option Refusal → Option Refusal
or_else (Some e) other = Some e
or_else None other = other

-- one check alone
abbrev pub refused_unless : Bool → Refusal → Option Refusal
refused_unless fine e = unless fine e None

-- a number of jobs for a row or a tariff
abbrev pub jobs_refusal : ℕ → Option Refusal
jobs_refusal jobs = refused_unless (nat_le 1 jobs && nat_le jobs width) JobsOutOfRange

-- numbers of jobs and of places for a tariff
abbrev pub tariff_refusal : ℕ → ℕ → Option Refusal
tariff_refusal jobs places = or_else (jobs_refusal jobs) (refused_unless (nat_le 1 places && nat_le places most_places) PlacesOutOfRange)

-- a pair of a job and a place, where there are so many of each
abbrev pub pair_refusal : ℕ → ℕ → ℕ → ℕ → Option Refusal
pair_refusal jobs places job place = or_else (refused_unless (nat_lt job jobs) NoSuchJob) (refused_unless (nat_lt place places) NoSuchPlace)

-- a price for such a pair
abbrev pub price_refusal : ℕ → ℕ → ℕ → ℕ → ℕ → Option Refusal
price_refusal jobs places job place amount = or_else (pair_refusal jobs places job place) (refused_unless (nat_le amount top_price) AmountTooLarge)

-- a cut's place
abbrev pub cut_refusal : ℕ → Option Refusal
cut_refusal place = refused_unless (nat_lt place most_places) NoSuchPlace

-- what holds where a call was refused
abbrev pub IfRefused : {T : Type 0} → Result T Refusal → Type 0 → Type 0
IfRefused (Ok v) P = Unit {0}
IfRefused (Err e) P = P

-- an answer where nothing is refused, else none
abbrev pub if_accepted : {T : Type 0} → Option Refusal → T → Option T
if_accepted None x = Some x
if_accepted (Some e) x = None
