-- Replies to a question: which ones a stance allows, and when a yes or a no is true.
use Rattle.std.specs.Prelude.{◌≡◌, ℕ, Bool, true, false, Some, None, Ok, Err, Option, Result}
use Rattle.jobs.specs.declared.refusal.Refusal.{Refusal}
use Rattle.jobs.specs.declared.set.JobSet.{JobSet}
use Rattle.workshops.specs.Stances.{Stance, Ready, Stopped, deep}
use Rattle.workshops.specs.declared.reply.Fault.{Fault}

-- the yes or no that a reply gives, if it gives one
abbrev pub given : Result Bool Fault → Option Bool
given (Ok y) = Some y
given (Err f) = None

-- the same of a call's result; a refusal gives none
abbrev pub given_by : Result (Result Bool Fault) Refusal → Option Bool
given_by (Ok r) = given r
given_by (Err e) = None

-- a stop as the layer above passes it on: one deeper, with that layer's place
abbrev pub raised : ℕ → Fault → Fault
raised place f = record { cause = f.cause; depth = deep f.depth; place = place; set = f.set }

-- The result that a stance allows at a place below the count: a yes or a no where it is ready,
-- and at a stop the fault with that cause and depth, the place and the set.
abbrev pub Allowed : Stance → ℕ → JobSet → Result (Result Bool Fault) Refusal → Type 0
Allowed st place set (Ok (Ok y)) = st ≡ Ready
Allowed st place set (Ok (Err f)) = (st ≡ Stopped f.cause f.depth) × (f.place ≡ place) × (f.set ≡ set)
Allowed st place set (Err e) = ⊥

-- what was given is true: a yes where the set is in the family, a no where it is not
abbrev pub True : Option Bool → Type 0 → Type 0
True (Some true) In = In
True (Some false) In = In → ⊥
True None In = Unit {0}
