-- When the calls are refused.
use Rattle.std.specs.Prelude.{ℕ, ◌&&◌, Ok, Option, nat_le, nat_lt}
use Rattle.jobs.specs.declared.refusal.Refusal.{Refusal}
use Rattle.jobs.specs.declared.refusal.Refusal.TheVariants.{PlacesOutOfRange, NoSuchPlace}
use Rattle.master.specs.Refused.{most_places, refused_unless}
use Rattle.master.specs.Cuts.{UnlessPut}
use Rattle.judging.specs.declared.outcome.Turn.{Turn}
use Rattle.judging.specs.declared.outcome.Turn.TheVariants.{Passed, Added, Stopped, Full as Filled}

-- a place to put a set to, where there are so many
abbrev pub put_refusal : ℕ → ℕ → Option Refusal
put_refusal count place = refused_unless (nat_lt place count && nat_lt place most_places) NoSuchPlace

-- so many places to judge
abbrev pub judge_refusal : ℕ → Option Refusal
judge_refusal count = refused_unless (nat_le count most_places) PlacesOutOfRange

-- what holds of the table unless a cut was put into it
abbrev pub UnlessAdded : Turn → Type 0 → Type 0
UnlessAdded Passed P = P
UnlessAdded (Added a) P = UnlessPut (Ok a) P
UnlessAdded (Stopped f) P = P
UnlessAdded Filled P = P
