-- The law over runs.
use Rattle.std.proofs.Common.{◌≡◌, ℕ, List, [], ◌∷◌, sym, refl, subst}
use Rattle.workshops.specs.Workshops.{Meaning, Lawful}
use Rattle.planner.specs.Calls.{Call, Answer, Event, event}
use Rattle.planner.specs.States.{State, fresh}
use Rattle.planner.specs.Steps.{Step}
use Rattle.planner.specs.Runs.{Run, made, next}
use Rattle.planner.specs.Laws.{SaysLast, EndsRightly, Stands, Law, Runs}
use Rattle.planner.proofs.Upright.{Upright, upright_fresh, upright_step}
use Rattle.planner.proofs.Logged.{Logged, logged_fresh, logged_step}
use Rattle.planner.proofs.Says.{says_step, ends_rightly}

module _ {W J : Type 0} (m : Meaning W) (joins : J → ℕ → ℕ → ℕ) (w : W) (measure : J) (n : ℕ) where
  -- what a planner keeps true of itself, and that it is as its list says
  pub record Keeps (log : List Event) (s : State W J) : Type 0 where
    pub upright : Upright m joins w measure n s
    pub logged : Logged m joins w measure n log s

module _ {W J : Type 0} (m : Meaning W) (joins : J → ℕ → ℕ → ℕ) (laws : Lawful m) (w : W) (measure : J) (n : ℕ) where
  keeps_made : (s : State W J) → s ≡ fresh w measure n → m.invariant w → Keeps m joins w measure n [] s
  keeps_made s e good = subst (λ (x : State W J). Keeps m joins w measure n [] x) (sym e) (record { upright = upright_fresh m joins laws w measure n good; logged = logged_fresh m joins laws w measure n })

  keeps_next : (log : List Event) (s t : State W J) (e : Event) → Keeps m joins w measure n log s → Step m joins s e.call e.answer t → Keeps m joins w measure n (e ∷ log) t
  keeps_next log s t e k step = record {
    upright = upright_step m joins laws w measure n s t e.call e.answer k.upright step;
    logged = logged_step m joins laws w measure n log s t e.call e.answer k.upright k.logged step;
  }

  pub keeps : (log : List Event) (s : State W J) → Run m joins w measure n log s → m.invariant w → Keeps m joins w measure n log s
  keeps log s (made s' e) good = keeps_made s e good
  keeps log s (next before r t e run step) good = keeps_next before r s e (keeps before r run good) step

  stands : (log : List Event) (s : State W J) → Keeps m joins w measure n log s → SaysLast m joins w measure n log s → EndsRightly m joins w measure n log → Stands m joins w measure n log s
  stands log s k says ends = record {
    measured = k.logged.measured;
    jobs = k.logged.jobs;
    prices = k.logged.prices;
    bars = k.logged.bars;
    pending = k.logged.pending;
    round = k.logged.round;
    kept = k.upright.faithful.kept;
    sound = k.upright.faithful.sound;
    minimal = k.upright.minimal;
    number = k.logged.number;
    says = says;
    ends = ends;
  }

  stands_next : (log : List Event) (s t : State W J) (e : Event) → Keeps m joins w measure n log s → Step m joins s e.call e.answer t → Stands m joins w measure n (e ∷ log) t
  stands_next log s t e k step =
      let says = says_step m joins laws w measure n log s k.upright k.logged t e.call e.answer step in
      stands (e ∷ log) t (keeps_next log s t e k step) says (ends_rightly m joins laws w measure n log t e.call e.answer says)

  pub law : (log : List Event) (s : State W J) (run : Run m joins w measure n log s) → m.invariant w → Law m joins w measure n log s run
  law log s (made s' e) good = stands [] s (keeps_made s e good) tt tt
  law log s (next before r t e run step) good = (law before r run good, stands_next before r s e (keeps before r run good) step)

  -- a planner just made has the run of no calls
  pub runs_made : Runs m joins w measure n [] (fresh w measure n)
  runs_made = let run = made (fresh w measure n) refl in (run, law [] (fresh w measure n) run)

  -- a run goes on through a call, and the law with it
  pub runs_on : (log : List Event) (s t : State W J) (c : Call) (a : Answer) → Run m joins w measure n log s → Step m joins s c a t → Runs m joins w measure n (event c a ∷ log) t
  runs_on log s t c a run step = let on = next log s t (event c a) run step in (on, law (event c a ∷ log) t on)
