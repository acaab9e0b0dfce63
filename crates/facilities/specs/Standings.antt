-- What a facility with standing jobs can schedule.
use Rattle.std.specs.Prelude.{ℕ}
use Rattle.jobs.specs.Sets.{bits, joined}
use Rattle.facilities.specs.declared.standing.Standing.{Standing}

-- a set is in the family where, joined with the booked jobs, it is in the family below
abbrev pub standing : {F : Type 0} → (F → ℕ → Type 0) → Standing F → ℕ → Type 0
standing family s set = family s.below (joined set (bits s.booked))
