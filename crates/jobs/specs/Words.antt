-- Two words that contracts use.
use Rattle.std.specs.Prelude.{Bool, MatchBool}

-- one holds exactly where the other does
abbrev pub Same : Type 0 → Type 0 → Type 0
Same X Y = (X → Y) × (Y → X)

-- the answer is `true` exactly where P holds
abbrev pub Exactly : Bool → Type 0 → Type 0
Exactly r P = MatchBool r P (P → ⊥)
