-- Lists of calls of a workshop, and what holds over each of them.
use Rattle.std.specs.Prelude.{◌≡◌, ℕ, ◌<◌, List, [], ◌∷◌, Bool, Ok, Err, Result}
use Rattle.jobs.specs.declared.refusal.Refusal.{Refusal}
use Rattle.jobs.specs.declared.set.JobSet.{JobSet}
use Rattle.jobs.specs.Sets.{bits}
use Rattle.workshops.specs.declared.reply.Fault.{Fault}
use Rattle.workshops.specs.Replies.{True, given_by}
use Rattle.workshops.specs.Stances.{Stopped}
use Rattle.workshops.specs.Verdicts.{Verdict, Grant}
use Rattle.workshops.specs.Workshops.{Meaning, Kept}

-- a call, and a question's result
pub data Event : Type 0 where
  asked : ℕ → JobSet → Result (Result Bool Fault) Refusal → Event
  granted : ℕ → Event

-- the calls lead from w to v, each as promised
abbrev pub Runs : {W : Type 0} → Meaning W → List Event → W → W → Type 0
Runs m [] w v = v ≡ w
Runs {W} m (asked p set r ∷ es) w v = (u : W) × Verdict m w p set r u × Runs m es u v
Runs {W} m (granted n ∷ es) w v = (u : W) × Grant m w n u × Runs m es u v

-- each yes and each no among the calls is true of w
abbrev pub AllTold : {W : Type 0} → Meaning W → W → List Event → Type 0
AllTold m w [] = Unit {0}
AllTold m w (asked p set r ∷ es) = True (given_by r) (m.family w p (bits set)) × AllTold m w es
AllTold m w (granted n ∷ es) = AllTold m w es

pub record Steady {W : Type 0} (m : Meaning W) : Type 0 where
  -- whatever is called, the count and the families are those of the start
  pub kept : (es : List Event) (w v : W) → Runs m es w v → Kept m w v
  -- and from a start where the invariant holds, it holds at the end, and all yes and no are true of the start
  pub sound : (es : List Event) (w v : W) → Runs m es w v → m.invariant w → m.invariant v
  pub told : (es : List Event) (w v : W) → Runs m es w v → m.invariant w → AllTold m w es
  -- a question that stopped would stop again, with the same cause and depth
  pub again : (w v : W) (p : ℕ) (set : JobSet) (f : Fault) → Verdict m w p set (Ok (Err f)) v → (p < m.count v) × (m.stance v p (bits set) ≡ Stopped f.cause f.depth)
