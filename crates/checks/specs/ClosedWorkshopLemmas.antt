use Rattle.std.specs.Prelude.{◌≡◌, ℕ}
use Rattle.workshops.specs.Stances.{Stance, Stopped}

pub same_cause : (a b c d : ℕ) → ◌≡◌ {A = Stance} (Stopped a b) (Stopped c d) → a ≡ c
same_cause a b c d e = cc

pub same_depth : (a b c d : ℕ) → ◌≡◌ {A = Stance} (Stopped a b) (Stopped c d) → b ≡ d
same_depth a b c d e = cc
