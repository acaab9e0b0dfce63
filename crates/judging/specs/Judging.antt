-- A judgement: which questions it puts to the workshop, in which order, and what it adds to the table.
use Rattle.std.specs.Prelude.{◌≡◌, ℕ, zero, suc, ◌+◌, ◌<◌, Bool, true, false, List, [], ◌∷◌, ◌++◌, length, Ok, Err, Result}
use Rattle.jobs.specs.Sets.{without, jobs_of}
use Rattle.jobs.specs.declared.set.JobSet.{JobSet}
use Rattle.workshops.specs.Workshops.{Meaning}
use Rattle.workshops.specs.Replies.{Allowed, True, given}
use Rattle.workshops.specs.declared.reply.Fault.{Fault}
use Rattle.master.specs.Cuts.{room, cut_of, Adds}
use Rattle.master.specs.Rows.{Group}
use Rattle.master.specs.declared.cut.Addition.{Addition}
use Rattle.master.specs.declared.cut.Addition.TheVariants.{Covered, Full, Put}
use Rattle.master.specs.declared.cut.Cut.{Cut}
use Rattle.judging.specs.declared.outcome.Turn.{Turn}
use Rattle.judging.specs.declared.outcome.Turn.TheVariants.{Passed, Added, Stopped, Full as Filled}
use Rattle.judging.specs.declared.outcome.Outcome.{Outcome}
use Rattle.judging.specs.declared.outcome.Outcome.TheVariants.{Agreed, Cut as Cutting, Stopped as Stopping, Full as Filling}

-- the set of a number
abbrev pub set_of : ℕ → JobSet
set_of n = record { bits = n }

-- by how many cuts an addition adds
abbrev pub tally : Addition → ℕ
tally Covered = 0
tally Full = 0
tally Put = 1

module _ {W : Type 0} (m : Meaning W) where
  -- the workshop w was asked whether the place can schedule the set; it replied, and then stands at v
  pub record Asked (w : W) (place set : ℕ) (reply : Result Bool Fault) (v : W) : Type 0 where
    pub answers : Allowed (m.stance w place set) place (set_of set) (Ok reply)
    pub asks : m.asks w place set (given reply) v
    pub truth : m.invariant w → True (given reply) (m.family w place set)

  -- Of a set that the place refused, the jobs js were left out on trial, one after the other.
  -- A job stays out where the reply was still no. Then t is left of the set, and the workshop stands at v.
  pub data Tries (place set : ℕ) (w : W) : List ℕ → ℕ → W → Type 0 where
    start : Tries place set w [] set w
    needed : (js : List ℕ) (j t : ℕ) (v v' : W) → Tries place set w js t v → Asked v place (without t j) (Ok true) v' → Tries place set w (js ++ j ∷ []) t v'
    spared : (js : List ℕ) (j t : ℕ) (v v' : W) → Tries place set w js t v → Asked v place (without t j) (Ok false) v' → Tries place set w (js ++ j ∷ []) (without t j) v'

  -- the set is put to the place: what comes of it, the workshop and the table then
  pub data Puts (place set : ℕ) (w : W) (cuts : List Cut) : Turn → W → List Cut → Type 0 where
    passed : (v : W) → Asked w place set (Ok true) v → Puts place set w cuts Passed v cuts
    stopped : (f : Fault) (v : W) → Asked w place set (Err f) v → Puts place set w cuts (Stopped f) v cuts
    full : (v : W) → Asked w place set (Ok false) v → length cuts ≡ room → Puts place set w cuts Filled v cuts
    -- a stop while shrinking: the half-shrunk set is not added
    halted : (js : List ℕ) (j : ℕ) (rest : List ℕ) (t : ℕ) (f : Fault) (v u u' : W) → Asked w place set (Ok false) v → length cuts < room
        → jobs_of set ≡ js ++ j ∷ rest → Tries place set v js t u → Asked u place (without t j) (Err f) u' → Puts place set w cuts (Stopped f) u' cuts
    added : (t : ℕ) (a : Addition) (v u : W) (after : List Cut) → Asked w place set (Ok false) v → length cuts < room
        → Tries place set v (jobs_of set) t u → Adds cuts (cut_of place (set_of t)) a after → Puts place set w cuts (Added a) u after

  -- The places below the given one were judged, from 0 upward, each with the set of the row's jobs that it is given.
  -- The workshop stands at v, the table holds cs, so many cuts were added, and all places said yes or not.
  pub data Judges (w : W) (cuts : List Cut) (row : List ℕ) : ℕ → W → List Cut → ℕ → Bool → Type 0 where
    start : Judges w cuts row zero w cuts zero true
    passes : (place set : ℕ) (v v' : W) (cs cs' : List Cut) (added : ℕ) (all : Bool) → Judges w cuts row place v cs added all
        → Group row place set → Puts place set v cs Passed v' cs' → Judges w cuts row (suc place) v' cs' added all
    adds : (place set : ℕ) (v v' : W) (cs cs' : List Cut) (added : ℕ) (all : Bool) (a : Addition) → Judges w cuts row place v cs added all
        → Group row place set → Puts place set v cs (Added a) v' cs' → Judges w cuts row (suc place) v' cs' (added + tally a) false

  -- how the judgement of a row at so many places ends
  pub data Ends (w : W) (cuts : List Cut) (row : List ℕ) (places : ℕ) : Outcome → W → List Cut → Type 0 where
    agreed : (v : W) (cs : List Cut) (added : ℕ) → Judges w cuts row places v cs added true → Ends w cuts row places Agreed v cs
    refused : (v : W) (cs : List Cut) (added : ℕ) → Judges w cuts row places v cs added false → Ends w cuts row places (Cutting added) v cs
    stops : (place set : ℕ) (v v' : W) (cs cs' : List Cut) (added : ℕ) (all : Bool) (f : Fault) → place < places → Judges w cuts row place v cs added all
        → Group row place set → Puts place set v cs (Stopped f) v' cs' → Ends w cuts row places (Stopping f added) v' cs'
    fills : (place set : ℕ) (v v' : W) (cs cs' : List Cut) (added : ℕ) (all : Bool) → place < places → Judges w cuts row place v cs added all
        → Group row place set → Puts place set v cs Filled v' cs' → Ends w cuts row places (Filling place added) v' cs'
