-- What a workshop means, and the laws that every workshop obeys.
use Rattle.std.specs.Prelude.{◌≡◌, ℕ, ◌<◌, ◌≤◌, Bool, None, Option}
use Rattle.jobs.specs.Sets.{Part}
use Rattle.jobs.specs.Words.{Same}
use Rattle.workshops.specs.Stances.{Stance, Ready, Stopped}
use Rattle.workshops.specs.Replies.{True}

-- The meaning of the values of a type as workshops. Places and sets are numbers.
pub record Meaning (W : Type 0) : Type 1 where
  pub count : W → ℕ
  -- the sets that a place can schedule
  pub family : W → ℕ → ℕ → Type 0
  pub stance : W → ℕ → ℕ → Stance
  -- a question at a place about a set, the yes or no that was given, and what it makes of the workshop
  pub asks : W → ℕ → ℕ → Option Bool → W → Type 0
  -- a grant of an amount, and what it makes of the workshop
  pub grants : W → ℕ → W → Type 0
  -- what the making and the own calls keep true; only the truth of a yes or a no rests on it
  pub invariant : W → Type 0

-- v has the count and the families of w
pub record Kept {W : Type 0} (m : Meaning W) (w v : W) : Type 0 where
  pub count : m.count v ≡ m.count w
  pub family : (p s : ℕ) → p < m.count w → Same (m.family w p s) (m.family v p s)

-- v has the stance of w
abbrev pub Unmoved : {W : Type 0} → Meaning W → W → W → Type 0
Unmoved m w v = (p s : ℕ) → p < m.count w → m.stance v p s ≡ m.stance w p s

-- The laws. All but `sound` and `carried` hold of every value, whatever its invariant.
pub record Lawful {W : Type 0} (m : Meaning W) : Type 0 where
  pub few : (w : W) → m.count w ≤ 255
  pub bytes : (w : W) (p s c d : ℕ) → p < m.count w → m.stance w p s ≡ Stopped c d → (c ≤ 255) × (d ≤ 255)
  pub parts : (w : W) (p part whole : ℕ) → p < m.count w → Part part whole → m.family w p whole → m.family w p part
  -- no question changes the count or a family
  pub asked : (w v : W) (p s : ℕ) (a : Option Bool) → p < m.count w → m.asks w p s a v → Kept m w v
  -- a question that was not answered changes no stance
  pub stopped : (w v : W) (p s : ℕ) → p < m.count w → m.asks w p s None v → Unmoved m w v
  -- a question truly answered keeps the invariant
  pub sound : (w v : W) (p s : ℕ) (a : Option Bool) → p < m.count w → m.asks w p s a v → True a (m.family w p s) → m.invariant w → m.invariant v
  -- no grant changes the count or a family
  pub granted : (w v : W) (n : ℕ) → m.grants w n v → Kept m w v
  -- no grant makes a ready question unready
  pub eased : (w v : W) (n : ℕ) → m.grants w n v → (p s : ℕ) → p < m.count w → m.stance w p s ≡ Ready → m.stance v p s ≡ Ready
  -- a grant keeps the invariant
  pub carried : (w v : W) (n : ℕ) → m.grants w n v → m.invariant w → m.invariant v
