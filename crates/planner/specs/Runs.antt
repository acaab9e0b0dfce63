-- Runs: a planner since its making, through any list of calls. Lists of events have the newest first.
use Rattle.std.specs.Prelude.{◌≡◌, ℕ, ◌+◌, Bool, false, List, [], ◌∷◌, ◌++◌, Some, None, Option}
use Rattle.workshops.specs.Workshops.{Meaning}
use Rattle.master.specs.Tariffs.{replaced}
use Rattle.planner.specs.Calls.{Call, Price, Bar, Grant, Propose, Judge, Answer, Refused, Done, Proposed, Nothing, Planned, CutOff, StoppedAt, TableFull, Event, if_refused, reports}
use Rattle.planner.specs.States.{State, fresh}
use Rattle.planner.specs.Steps.{Step}

-- the price in force of each pair: the amount of the last accepted call of price for it, or 0
abbrev pub price_after : Call → Answer → (ℕ → ℕ → ℕ) → ℕ → ℕ → ℕ
price_after (Price job place amount) a old = if_refused a old (replaced old job place amount)
price_after (Bar job place b) a old = old
price_after (Grant amount) a old = old
price_after Propose a old = old
price_after (Judge row cost) a old = old

abbrev pub price_now : List Event → ℕ → ℕ → ℕ
price_now [] = λ _ _. 0
price_now (e ∷ log) = price_after e.call e.answer (price_now log)

-- whether each pair is barred: as the last accepted call of bar for it said, or not
abbrev pub barred_after : Call → Answer → (ℕ → ℕ → Bool) → ℕ → ℕ → Bool
barred_after (Price job place amount) a old = old
barred_after (Bar job place b) a old = if_refused a old (replaced old job place b)
barred_after (Grant amount) a old = old
barred_after Propose a old = old
barred_after (Judge row cost) a old = old

abbrev pub barred_now : List Event → ℕ → ℕ → Bool
barred_now [] = λ _ _. false
barred_now (e ∷ log) = barred_after e.call e.answer (barred_now log)

-- the proposal that an answer of propose leaves pending
abbrev pub proposed_by : Answer → Option (List ℕ × ℕ) → Option (List ℕ × ℕ)
proposed_by (Refused e) old = old
proposed_by Done old = None
proposed_by (Proposed row cost) old = Some (row, cost)
proposed_by Nothing old = None
proposed_by (Planned row cost round) old = None
proposed_by (CutOff added) old = None
proposed_by (StoppedAt fault round added) old = None
proposed_by (TableFull place added) old = None

-- what is pending: the last proposal, unless a price, a bar or a judgement was accepted since
abbrev pub pending_after : Call → Answer → Option (List ℕ × ℕ) → Option (List ℕ × ℕ)
pending_after (Price job place amount) a old = if_refused a old None
pending_after (Bar job place b) a old = if_refused a old None
pending_after (Grant amount) a old = old
pending_after Propose a old = proposed_by a old
pending_after (Judge row cost) a old = if_refused a old None

abbrev pub pending_now : List Event → Option (List ℕ × ℕ)
pending_now [] = None
pending_now (e ∷ log) = pending_after e.call e.answer (pending_now log)

-- how many judgements were not refused
abbrev pub judgements_after : Call → Answer → ℕ → ℕ
judgements_after (Price job place amount) a old = old
judgements_after (Bar job place b) a old = old
judgements_after (Grant amount) a old = old
judgements_after Propose a old = old
judgements_after (Judge row cost) a old = if_refused a old (old + 1)

abbrev pub judgements : List Event → ℕ
judgements [] = 0
judgements (e ∷ log) = judgements_after e.call e.answer (judgements log)

-- how many cuts all judgements reported
abbrev pub reported : List Event → ℕ
reported [] = 0
reported (e ∷ log) = reported log + reports e.answer

-- the calls alone, in the order in which they were made
abbrev pub calls_of : List Event → List Call
calls_of [] = []
calls_of (e ∷ log) = calls_of log ++ e.call ∷ []

-- a planner made with the workshop w, the measure and n jobs, and since then only called, as the list says
pub data Run {W J : Type 0} (m : Meaning W) (joins : J → ℕ → ℕ → ℕ) (w : W) (measure : J) (n : ℕ) : List Event → State W J → Type 0 where
  made : (s : State W J) → s ≡ fresh w measure n → Run m joins w measure n [] s
  next : (log : List Event) (s t : State W J) (e : Event) → Run m joins w measure n log s
      → Step m joins s e.call e.answer t → Run m joins w measure n (e ∷ log) t
