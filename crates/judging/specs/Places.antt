-- Inner: a place of a workshop after a call of it. No public contract cites this file.
use Rattle.std.specs.Prelude.{◌≡◌}
use Rattle.judging.specs.declared.place.Place.{Place}

-- it is the same place of the same workshop
abbrev pub Stays : {W : Type 0} {workshop : _} → Place W workshop → Place W workshop → Type 0
Stays p q = (q.workshop.ghost_name ≡ p.workshop.ghost_name) × (q.number ≡ p.number)
