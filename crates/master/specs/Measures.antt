-- How two costs become one.
use Rattle.std.specs.Prelude.{ℕ, ◌+◌, min, max}

-- the largest cost, of 32 bits
abbrev pub most : ℕ
most = 4294967295

-- the sum, held at the largest cost
abbrev pub held_sum : ℕ → ℕ → ℕ
held_sum a b = min most (a + b)

-- the larger of the two
abbrev pub worse : ℕ → ℕ → ℕ
worse a b = max a b
