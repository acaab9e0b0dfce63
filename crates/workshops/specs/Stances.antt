-- The stance of a workshop: of each question, whether it would be answered, or where it would stop.
use Rattle.std.specs.Prelude.{ℕ, ◌+◌, min}

pub data Stance : Type 0 where
  Ready : Stance
  -- a stop, with its cause and its depth
  Stopped : ℕ → ℕ → Stance

-- the cause of a stop where an allowance is spent
abbrev pub spent : ℕ
spent = 1

-- one layer more, held at 255
abbrev pub deep : ℕ → ℕ
deep depth = min 255 (depth + 1)

-- a stance as the layer above sees it
abbrev pub deeper : Stance → Stance
deeper Ready = Ready
deeper (Stopped cause depth) = Stopped cause (deep depth)
