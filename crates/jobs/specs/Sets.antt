-- A set of jobs as a number: job i is in it where bit i, worth 2 ^ i, is 1.
-- Everything here is over numbers of any width; `width` alone says how many jobs there are.
use Rattle.std.specs.Prelude.{◌≡◌, ℕ, zero, suc, ◌+◌, ◌-◌, ◌*◌, ◌/◌, ◌%◌, ◌^◌, ◌<◌, Bool, true, false, List, [], ◌∷◌, ◌++◌, None, Option, ◌==◌, bit_or, nat_lt}
use Rattle.jobs.specs.declared.refusal.Refusal.{Refusal}
use Rattle.jobs.specs.declared.refusal.Refusal.TheVariants.{NoSuchJob}
use Rattle.jobs.specs.declared.set.JobSet.{JobSet}
use Rattle.jobs.specs.Refusals.{unless}

-- how many jobs there are: their numbers are 0 to width - 1
abbrev pub width : ℕ
width = 16

-- the number of a set
abbrev pub bits : JobSet → ℕ
bits s = s.bits

-- bit i of the set
abbrev pub bit : ℕ → ℕ → ℕ
bit set i = set / 2 ^ i % 2

-- job i is in the set
abbrev pub Has : ℕ → ℕ → Type 0
Has set i = bit set i ≡ 1

-- the same as a test
abbrev pub has : ℕ → ℕ → Bool
has set i = (bit set i) == 1

-- each job of `part` is in `whole`
abbrev pub Part : ℕ → ℕ → Type 0
Part part whole = (i : ℕ) → Has part i → Has whole i

-- the set less job i, whether or not it is in it
abbrev pub without : ℕ → ℕ → ℕ
without set i = set - bit set i * 2 ^ i

-- the set and job i
abbrev pub with_job : ℕ → ℕ → ℕ
with_job set i = without set i + 2 ^ i

-- the jobs of either set
abbrev pub joined : ℕ → ℕ → ℕ
joined a b = bit_or a b

-- one job more at the end of a list, where the test says so
abbrev pub add : Bool → List ℕ → ℕ → List ℕ
add true js i = js ++ i ∷ []
add false js i = js

-- the jobs of the set below n, from the lowest
abbrev pub members : ℕ → ℕ → List ℕ
members set zero = []
members set (suc n) = add (has set n) (members set n) n

-- all jobs of the set, from the lowest
-- (shut, since sixteen steps would be computed in every goal that names it)
unfoldable pub jobs_of : ℕ → List ℕ
jobs_of set = members set width

-- i is the lowest job of the set
pub record Lowest (set i : ℕ) : Type 0 where
  pub held : Has set i
  pub least : (j : ℕ) → j < i → Has set j → ⊥

-- a number that is no job's is refused
abbrev pub job_refusal : ℕ → Option Refusal
job_refusal job = unless (nat_lt job width) NoSuchJob None
