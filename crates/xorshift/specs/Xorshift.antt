-- The numbers of Marsaglia's xorshift on 32 bits, with the shifts 13, 17 and 5.
use Rattle.std.specs.Prelude.{ℕ, zero, suc, ◌*◌, ◌/◌, ◌%◌, ◌^◌, bit_xor}

-- n and n with its bits moved up by k, of which 32 stay
abbrev pub up : ℕ → ℕ → ℕ
up k n = bit_xor n ((n * 2 ^ k) % 2 ^ 32)

-- n and n with its bits moved down by k
abbrev pub down : ℕ → ℕ → ℕ
down k n = bit_xor n (n / 2 ^ k)

-- the number after n
unfoldable pub xorshift : ℕ → ℕ
xorshift n = up 5 (down 17 (up 13 n))

-- a number brought below the bound; 0 where no number is
abbrev pub below : ℕ → ℕ → ℕ
below n zero = 0
below n (suc bound) = n % suc bound
