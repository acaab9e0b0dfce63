-- A lone facility: one place with the facility's family, always ready. No call changes it.
use Rattle.std.specs.Prelude.{◌≡◌, ℕ, Bool, Some, None, Option}
use Rattle.jobs.specs.Words.{Exactly}
use Rattle.workshops.specs.Stances.{Ready}
use Rattle.workshops.specs.Workshops.{Meaning}
use Rattle.workshops.specs.declared.lone.Lone.{Lone}

-- an answer was given, and yes exactly where the set is in the family
abbrev pub Decided : Option Bool → Type 0 → Type 0
Decided (Some y) In = Exactly y In
Decided None In = ⊥

abbrev pub lone : {F : Type 0} → (F → ℕ → Type 0) → Meaning (Lone F)
lone family = record {
  count = λ w. 1;
  family = λ w p s. family w.facility s;
  stance = λ w p s. Ready;
  asks = λ w p s a v. Decided a (family w.facility s) × (v ≡ w);
  grants = λ w n v. v ≡ w;
  invariant = λ w. Unit {0};
}
