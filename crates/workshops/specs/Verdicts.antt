-- What the calls of a workshop promise.
use Rattle.std.specs.Prelude.{◌≡◌, ℕ, ◌<◌, ◌≤◌, Bool, Err, Result}
use Rattle.jobs.specs.declared.refusal.Refusal.{Refusal}
use Rattle.jobs.specs.declared.refusal.Refusal.TheVariants.{NoSuchPlace}
use Rattle.jobs.specs.declared.set.JobSet.{JobSet}
use Rattle.jobs.specs.Sets.{bits}
use Rattle.workshops.specs.declared.reply.Fault.{Fault}
use Rattle.workshops.specs.Replies.{Allowed, True, given_by}
use Rattle.workshops.specs.Workshops.{Meaning}

-- a question to w about the set at place p, its result r, and the workshop v that it leaves
pub record Verdict {W : Type 0} (m : Meaning W) (w : W) (p : ℕ) (set : JobSet) (r : Result (Result Bool Fault) Refusal) (v : W) : Type 0 where
  -- a place not below the count is refused, and the workshop is the same value
  pub refuses : m.count w ≤ p → (r ≡ Err NoSuchPlace) × (v ≡ w)
  pub answers : p < m.count w → Allowed (m.stance w p (bits set)) p set r
  pub asks : p < m.count w → m.asks w p (bits set) (given_by r) v
  pub truth : m.invariant w → p < m.count w → True (given_by r) (m.family w p (bits set))

-- a grant of the amount n to w, and the workshop v that it leaves
pub record Grant {W : Type 0} (m : Meaning W) (w : W) (n : ℕ) (v : W) : Type 0 where
  pub grants : m.grants w n v
