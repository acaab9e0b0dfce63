-- What each call promises.
use Rattle.std.specs.Prelude.{◌≡◌, ℕ, Some, None, Ok, Err, Result}
use Rattle.jobs.specs.declared.refusal.Refusal.{Refusal}
use Rattle.workshops.specs.Workshops.{Meaning}
use Rattle.master.specs.Tariffs.{price_of, barred_in, Resized}
use Rattle.master.specs.declared.tariff.Tariff.{Tariff}
use Rattle.planner.specs.declared.planner.Planner.{Planner}
use Rattle.planner.specs.Calls.{Call, Answer, Refused}
use Rattle.planner.specs.Laws.{GoesOn}
use Rattle.planner.specs.States.{repriced}
use Rattle.planner.specs.Steps.{sizes_refusal, Step}
use Rattle.planner.specs.Views.{state}

-- what a call c with the answer a promises, from the planner before it to the one after it
pub record Serves {W J : Type 0} (m : Meaning W) (joins : J → ℕ → ℕ → ℕ) (old : Planner W J) (c : Call) (a : Answer) (new : Planner W J) : Type 0 where
  -- the answer, and what it makes of the planner, are those defined for the call
  pub step : Step m joins (state old) c a (state new)
  -- every run that has come so far goes on through the call, and the law with it
  pub law : GoesOn m joins (state old) c a (state new)
  -- where the call was refused, all is as it was
  pub same : (e : Refusal) → a ≡ Refused e → new ≡ old

-- Inner from here on: only contracts of private functions cite it.

-- the planner's tariff at its numbers of jobs and places
abbrev pub Sized : {W J : Type 0} → Meaning W → Planner W J → Tariff → Type 0
Sized m p t = Resized p.tariff p.jobs (m.count p.workshop) t

-- The tariff is changed at the planner's sizes. Where that is refused the planner stays as it was;
-- else it has the changed tariff, and nothing is pending.
pub data Reprices {W J : Type 0} (m : Meaning W) (sets : Tariff → Result (Unit {0}) Refusal → Tariff → Type 0) (old : Planner W J) : Result (Unit {0}) Refusal → Planner W J → Type 0 where
  idle : (e : Refusal) → sizes_refusal m (state old) ≡ Some e → Reprices m sets old (Err e) old
  refused : (t u : Tariff) (e : Refusal) → sizes_refusal m (state old) ≡ None → Sized m old t
      → sets t (Err e) u → Reprices m sets old (Err e) old
  accepted : (t u : Tariff) (new : Planner W J) → sizes_refusal m (state old) ≡ None → Sized m old t
      → sets t (Ok tt) u → state new ≡ repriced (state old) (price_of u) (barred_in u) → Reprices m sets old (Ok tt) new
