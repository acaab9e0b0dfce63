-- A pair: two workshops, the places of the first before those of the second.
use Rattle.std.specs.Prelude.{◌≡◌, ℕ, ◌+◌, ◌-◌, min, Bool, cond, Option, nat_lt}
use Rattle.workshops.specs.Stances.{Stance, deeper}
use Rattle.workshops.specs.Workshops.{Meaning}
use Rattle.workshops.specs.declared.pair.Pair.{Pair}

-- a place of a pair: one of the first's places, or one of the second's, by its number there
pub data Side : Type 0 where
  in_first : ℕ → Side
  in_second : ℕ → Side

-- where place p of a pair lies, if the first has so many places
abbrev pub side : ℕ → ℕ → Side
side before p = cond (nat_lt p before) (in_first p) (in_second (p - before))

module _ {V W : Type 0} (m : Meaning V) (n : Meaning W) where
  abbrev pub family_at : Side → Pair V W → ℕ → Type 0
  family_at (in_first q) w s = m.family w.first q s
  family_at (in_second q) w s = n.family w.second q s

  abbrev pub stance_at : Side → Pair V W → ℕ → Stance
  stance_at (in_first q) w s = deeper (m.stance w.first q s)
  stance_at (in_second q) w s = deeper (n.stance w.second q s)

  -- only the workshop that has the place is asked
  abbrev pub AsksAt : Side → Pair V W → ℕ → Option Bool → Pair V W → Type 0
  AsksAt (in_first q) w s a v = m.asks w.first q s a v.first × (v.second ≡ w.second)
  AsksAt (in_second q) w s a v = n.asks w.second q s a v.second × (v.first ≡ w.first)

abbrev pub pair : {V W : Type 0} → Meaning V → Meaning W → Meaning (Pair V W)
pair m n = record {
  count = λ w. min 255 (m.count w.first + n.count w.second);
  family = λ w p s. family_at m n (side (m.count w.first) p) w s;
  stance = λ w p s. stance_at m n (side (m.count w.first) p) w s;
  asks = λ w p s a v. AsksAt m n (side (m.count w.first) p) w s a v;
  grants = λ w k v. m.grants w.first k v.first × n.grants w.second k v.second;
  invariant = λ w. m.invariant w.first × n.invariant w.second;
}
