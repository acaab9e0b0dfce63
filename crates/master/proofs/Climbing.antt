-- All that the search asks of a way to join costs, and that every measure has it.
use Rattle.std.proofs.Common.{◌≡◌, ℕ, ◌^◌, ◌<◌, ◌≤◌, arith}

-- the result fits, grows with each part, and is never below the total so far
pub record Climbs (joined : ℕ → ℕ → ℕ) : Type 0 where
  pub fits : (a b : ℕ) → a < 2 ^ 32 → b < 2 ^ 32 → joined a b < 2 ^ 32
  pub grows : (a b c d : ℕ) → a ≤ b → c ≤ d → b < 2 ^ 32 → d < 2 ^ 32 → joined a c ≤ joined b d
  pub more : (a b : ℕ) → a < 2 ^ 32 → b < 2 ^ 32 → a ≤ joined a b

pub climbs : (joined : ℕ → ℕ → ℕ)
    → ((a b : ℕ) → a < 2 ^ 32 → b < 2 ^ 32 → joined a b < 2 ^ 32)
    → ((a : ℕ) → a < 2 ^ 32 → joined a 0 ≡ a)
    → ((a b c d : ℕ) → a ≤ b → c ≤ d → b < 2 ^ 32 → d < 2 ^ 32 → joined a c ≤ joined b d)
    → Climbs joined
climbs joined fits zero grows = record {
  fits = fits;
  grows = grows;
  more = λ a b la lb. omega (arith, grows a a 0 b (omega arith) (omega arith) la lb, zero a la);
}
