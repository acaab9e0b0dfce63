-- How a call was refused.
use Rattle.std.specs.Prelude.{ℕ, Some, None, Ok, Err, Option, Result}
use Rattle.jobs.specs.declared.refusal.Refusal.{Refusal}
use Rattle.jobs.specs.Refusals.{number}

-- the number of the refusal, if there is one
abbrev pub refused_with : {T : Type 0} → Result T Refusal → Option ℕ
refused_with (Ok v) = None
refused_with (Err e) = Some (number e)
