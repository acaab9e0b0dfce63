-- A closed workshop: no set can be scheduled, and every question stops in the same way. No call changes it.
use Rattle.std.specs.Prelude.{◌≡◌}
use Rattle.workshops.specs.Stances.{Stopped}
use Rattle.workshops.specs.Workshops.{Meaning}
use Rattle.checks.specs.declared.closed.Closed.{Closed}

abbrev pub closed : Meaning Closed
closed = record {
  count = λ w. w.places;
  family = λ w p s. ⊥;
  stance = λ w p s. Stopped w.cause w.depth;
  asks = λ w p s a v. v ≡ w;
  grants = λ w n v. v ≡ w;
  invariant = λ w. Unit {0};
}
