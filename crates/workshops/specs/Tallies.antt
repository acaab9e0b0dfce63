-- One place asked about many sets, up to the first stop.
use Rattle.std.specs.Prelude.{◌≡◌, ℕ, ◌+◌, ◌<◌, ◌≤◌, Bool, true, false, List, [], ◌∷◌, ◌++◌, length, Some, None, Ok, Err, Option, Result, slice_index_or}
use Rattle.jobs.specs.Refusals.{Answered}
use Rattle.jobs.specs.Sets.{bits}
use Rattle.jobs.specs.Words.{Exactly}
use Rattle.jobs.specs.declared.refusal.Refusal.{Refusal}
use Rattle.jobs.specs.declared.refusal.Refusal.TheVariants.{NoSuchPlace}
use Rattle.jobs.specs.declared.set.JobSet.{JobSet}
use Rattle.workshops.specs.declared.reply.Fault.{Fault}
use Rattle.workshops.specs.declared.tally.Tally.{Tally}
use Rattle.workshops.specs.Runs.{Event, asked, Runs}
use Rattle.workshops.specs.Stances.{Stopped}
use Rattle.workshops.specs.Workshops.{Meaning, Kept}

-- how often yes was said
abbrev pub yeses : List Bool → ℕ
yeses [] = 0
yeses (true ∷ ys) = 1 + yeses ys
yeses (false ∷ ys) = yeses ys

-- the questions to place p about the first sets, answered so
abbrev pub questions : ℕ → List JobSet → List Bool → List Event
questions p sets [] = []
questions p [] (y ∷ ys) = []
questions p (s ∷ sets) (y ∷ ys) = asked p s (Ok (Ok y)) ∷ questions p sets ys

-- each of the first sets is answered, and yes exactly where it is in the family
abbrev pub Exact : (ℕ → Type 0) → List JobSet → List Bool → Type 0
Exact family sets [] = Unit {0}
Exact family [] (y ∷ ys) = ⊥
Exact family (s ∷ sets) (y ∷ ys) = Exactly y (family (bits s)) × Exact family sets ys

-- Where it ended: every set was answered, or the next one came to a stop, and would again.
abbrev pub Ends : {W : Type 0} → Meaning W → W → ℕ → List JobSet → List Bool → Option Fault → W → Type 0
Ends m w p sets ys None v = (length ys ≡ length sets) × Runs m (questions p sets ys) w v
Ends m w p sets ys (Some f) v = (length ys < length sets) × (slice_index_or sets (length ys) f.set ≡ f.set)
    × Runs m (questions p sets ys ++ (asked p f.set (Ok (Err f)) ∷ [])) w v × (m.stance v p (bits f.set) ≡ Stopped f.cause f.depth)

pub record Tallied {W : Type 0} (m : Meaning W) (w : W) (p : ℕ) (sets : List JobSet) (t : Tally) (v : W) : Type 0 where
  -- the answers, in the order of the sets
  pub answers : List Bool
  pub answered : t.answered ≡ length answers
  pub yes : t.yes ≡ yeses answers
  pub ends : Ends m w p sets answers t.stop v
  pub exact : m.invariant w → Exact (m.family w p) sets answers
  pub kept : Kept m w v
  pub sound : m.invariant w → m.invariant v

pub record AskedAll {W : Type 0} (m : Meaning W) (w : W) (p : ℕ) (sets : List JobSet) (r : Result Tally Refusal) (v : W) : Type 0 where
  pub refuses : m.count w ≤ p → (r ≡ Err NoSuchPlace) × (v ≡ w)
  pub tallies : p < m.count w → Answered None r (λ t. Tallied m w p sets t v)
