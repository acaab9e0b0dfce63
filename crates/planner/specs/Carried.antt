-- What it is to carry out a list of calls.
use Rattle.std.specs.Prelude.{◌≡◌, ℕ, List, [], ◌∷◌, map, Some, None, Option}
use Rattle.workshops.specs.Workshops.{Meaning}
use Rattle.master.specs.Rows.{row_places}
use Rattle.planner.specs.declared.run.Call.{Call as GivenCall}
use Rattle.planner.specs.declared.run.Call.TheVariants.{Price as PriceCall, Bar as BarCall, Grant as GrantCall, Propose as ProposeCall, Judge as JudgeCall}
use Rattle.planner.specs.declared.run.Answer.{Answer as GivenAnswer}
use Rattle.planner.specs.declared.run.Answer.TheVariants.{Done as DoneAnswer, Proposing as ProposingAnswer, Judging as JudgingAnswer}
use Rattle.planner.specs.declared.run.Ran.{Ran}
use Rattle.planner.specs.Calls.{Call, Price, Bar, Grant, Propose, Judge, Answer, Event}
use Rattle.workshops.specs.Piles.{Pile, pile, Piled}
use Rattle.planner.specs.Laws.{Law, Runs}
use Rattle.planner.specs.Runs.{Run, calls_of}
use Rattle.planner.specs.Views.{state, done, proposing, judging}

-- a call by its numbers
abbrev pub call_of : GivenCall → Call
call_of (PriceCall job place amount) = Price job place amount
call_of (BarCall job place barred) = Bar job place barred
call_of (GrantCall amount) = Grant amount
call_of ProposeCall = Propose
call_of (JudgeCall row cost) = Judge (row_places row) cost

-- an answer by its numbers
abbrev pub told : GivenAnswer → Answer
told (DoneAnswer r) = done r
told (ProposingAnswer r) = proposing r
told (JudgingAnswer r) = judging r

-- the answer of the newest event
abbrev pub last_of : List Event → Option Answer
last_of [] = None
last_of (e ∷ log) = Some e.answer

abbrev pub told_last : Option GivenAnswer → Option Answer
told_last None = None
told_last (Some a) = Some (told a)

-- There is a list of events with just these calls, a run of it that ends at the planner, and the law with it;
-- the last answer is that of its newest event.
pub record CarriesOut {W J : Type 0} (m : Meaning W) (joins : J → ℕ → ℕ → ℕ) (w : W) (measure : J) (n : ℕ) (calls : List GivenCall) (r : Ran W J) : Type 0 where
  pub log : List Event
  pub same_calls : calls_of log ≡ map call_of calls
  pub runs : Runs m joins w measure n log (state r.planner)
  pub last : told_last r.last ≡ last_of log

-- The same over a new pile of two facilities. Its making keeps its word, so the law holds without any premise.
pub record CarriesOutOnPile {F G J : Type 0} (one : F → ℕ → Type 0) (two : G → ℕ → Type 0) (joins : J → ℕ → ℕ → ℕ) (f : F) (g : G) (measure : J) (n : ℕ) (calls : List GivenCall) (r : Ran (Pile F G) J) : Type 0 where
  pub made : Pile F G
  pub piled : Piled one two f g made
  pub log : List Event
  pub same_calls : calls_of log ≡ map call_of calls
  pub run : Run (pile one two) joins made measure n log (state r.planner)
  pub law : Law (pile one two) joins made measure n log (state r.planner) run
  pub last : told_last r.last ≡ last_of log
