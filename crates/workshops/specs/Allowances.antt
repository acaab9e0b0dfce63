-- An allowance: a workshop and a number of answers left.
use Rattle.std.specs.Prelude.{◌≡◌, ℕ, zero, suc, ◌+◌, min, Bool, Some, None, Option}
use Rattle.workshops.specs.Stances.{Stance, Stopped, deeper, spent}
use Rattle.workshops.specs.Workshops.{Meaning}
use Rattle.workshops.specs.declared.allowance.Allowance.{Allowance}

-- how many answers are left to a place: one number serves all places
abbrev pub left_at : {W : Type 0} → Allowance W → ℕ → ℕ
left_at w p = w.left

-- what is left with the amount granted, held at 65535
abbrev pub topped_up : ℕ → ℕ → ℕ
topped_up left amount = min 65535 (left + amount)

-- with nothing left a stop, else the stance below
abbrev pub paid : ℕ → Stance → Stance
paid zero below = Stopped spent 0
paid (suc n) below = deeper below

-- What a question leaves. With nothing left it is not passed on and nothing changes. Else it is asked below, and
-- an answer takes one of what was left, a stop none.
abbrev pub Charged : {W : Type 0} → ℕ → Option Bool → (W → Type 0) → ℕ → Allowance W → Allowance W → Type 0
Charged zero a asked p w v = (a ≡ None) × (v ≡ w)
Charged (suc n) (Some y) asked p w v = asked v.below × (left_at v p ≡ n)
Charged (suc n) None asked p w v = asked v.below × (left_at v p ≡ suc n)

abbrev pub allowance : {W : Type 0} → Meaning W → Meaning (Allowance W)
allowance m = record {
  count = λ w. m.count w.below;
  family = λ w. m.family w.below;
  stance = λ w p s. paid (left_at w p) (m.stance w.below p s);
  asks = λ w p s a v. Charged (left_at w p) a (m.asks w.below p s a) p w v;
  grants = λ w n v. m.grants w.below n v.below × ((p : ℕ) → left_at v p ≡ topped_up (left_at w p) n);
  invariant = λ w. m.invariant w.below;
}
