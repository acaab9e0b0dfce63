-- What the answers tell of a workshop that keeps its word, whatever questions led to them.
use Rattle.std.specs.Prelude.{◌≡◌, ℕ, ◌<◌, List, length}
use Rattle.jobs.specs.Sets.{bits, Part}
use Rattle.facilities.specs.Shrinking.{Shrunk, Minimal, AtMostOne}
use Rattle.workshops.specs.Stances.{Stopped as StoppedWith}
use Rattle.workshops.specs.Workshops.{Meaning, Kept}
use Rattle.workshops.specs.declared.reply.Fault.{Fault}
use Rattle.master.specs.Cuts.{room, cut_of, Adds}
use Rattle.master.specs.Rows.{Group}
use Rattle.master.specs.declared.cut.Cut.{Cut}
use Rattle.judging.specs.declared.outcome.Turn.{Turn}
use Rattle.judging.specs.declared.outcome.Turn.TheVariants.{Passed, Added, Stopped, Full as Filled}
use Rattle.judging.specs.declared.outcome.Outcome.{Outcome}
use Rattle.judging.specs.declared.outcome.Outcome.TheVariants.{Agreed, Cut as Cutting, Stopped as Stopping, Full as Filling}
use Rattle.judging.specs.Judging.{set_of}

-- t is what shrinking makes of a set that a place cannot schedule: nothing else is, and it is a part of the set that
-- the place cannot schedule either, but can with any single job left out
pub record ShrinksTo (family : ℕ → Type 0) (set t : ℕ) : Type 0 where
  pub shrunk : Shrunk family set t
  pub only : AtMostOne (Shrunk family set)
  pub minimal : Minimal family set t

module _ {W : Type 0} (m : Meaning W) where
  -- v has the count and the families of w, and keeps its word as w does
  pub record Follows (w v : W) : Type 0 where
    pub kept : Kept m w v
    pub sound : m.invariant w → m.invariant v

  -- the fault is of one of the workshop's places, and v would stop there again at the same set
  pub record StopsAt (v : W) (f : Fault) : Type 0 where
    pub place : f.place < m.count v
    pub stance : m.stance v f.place (bits f.set) ≡ StoppedWith f.cause f.depth

  -- what a turn tells: w is the workshop before it, v the one after it
  abbrev pub Tells : W → ℕ → ℕ → List Cut → Turn → W → List Cut → Type 0
  Tells w place set cuts Passed v after = m.family w place set
  Tells w place set cuts (Added a) v after = (t : ℕ) × ShrinksTo (m.family w place) set t × Adds cuts (cut_of place (set_of t)) a after
  Tells w place set cuts (Stopped f) v after = (f.place ≡ place) × Part (bits f.set) set × StopsAt v f
  Tells w place set cuts Filled v after = (m.family w place set → ⊥) × (length after ≡ room)

  -- every place can schedule the row's jobs that it is given
  abbrev pub AllCan : W → List ℕ → Type 0
  AllCan w row = (place set : ℕ) → place < m.count w → Group row place set → m.family w place set

  -- what the judgement of a row tells
  abbrev pub TellsAll : W → List ℕ → Outcome → W → List Cut → Type 0
  TellsAll w row Agreed v after = AllCan w row
  TellsAll w row (Cutting added) v after = AllCan w row → ⊥
  TellsAll w row (Stopping f added) v after = StopsAt v f
  TellsAll w row (Filling place added) v after =
      (place < m.count w) × ((set : ℕ) → Group row place set → m.family w place set → ⊥) × (length after ≡ room)
