-- What a job draws inside its hours and outside, whatever it draws in each hour since its start.
use Rattle.std.specs.Prelude.{◌≡◌, ℕ, ◌+◌, ◌-◌, ◌<◌, ◌≤◌, ◌⊎◌, nat_le, nat_lt}
use Rattle.std.proofs.Common.{inl, inr, ⊎_elim}
use Rattle.std.proofs.lemmas.Bool.{cases_lt, cond-true, cond-false, le-leb, lt-leb, lt-ltb, le-ltb, and_from, and_left, and_right}
use Rattle.facilities.specs.Draws.{running, drawn}

module _ (draw : ℕ → ℕ) (takes s h : ℕ) where
  pub drawn_inside : s ≤ h → h < s + takes → drawn draw takes s h ≡ draw (h - s)
  drawn_inside a b = cond-true (running takes s h) (draw (h - s)) 0 (and_from (nat_le s h) (nat_lt h (s + takes)) (le-leb s h a) (lt-ltb h (s + takes) b))

  pub drawn_outside : (h < s) ⊎ (s + takes ≤ h) → drawn draw takes s h ≡ 0
  drawn_outside o = cond-false (running takes s h) (draw (h - s)) 0
      (⊎_elim (λ a. and_left (nat_le s h) (nat_lt h (s + takes)) (lt-leb s h a)) (λ a. and_right (nat_le s h) (nat_lt h (s + takes)) (le-ltb h (s + takes) a)) o)

-- an hour lies inside or outside of the hours from a to b
pub hour_cases : (a b h : ℕ) (P : Type 0) → (a ≤ h → h < b → P) → ((h < a) ⊎ (b ≤ h) → P) → P
hour_cases a b h P f g = ⊎_elim (λ l. g (inl l)) (λ l. ⊎_elim (λ m. f l m) (λ m. g (inr m)) (cases_lt h b)) (cases_lt h a)
