-- Each call: when it is refused, what it answers, and what it makes of the planner.
use Rattle.std.specs.Prelude.{◌≡◌, ℕ, ◌+◌, Bool, List, Some, None, Option, ◌≢◌}
use Rattle.jobs.specs.declared.refusal.Refusal.{Refusal}
use Rattle.jobs.specs.declared.refusal.Refusal.TheVariants.{RoundsUsedUp, NotPending}
use Rattle.workshops.specs.Workshops.{Meaning}
use Rattle.master.specs.Master.{Best, NoCandidate}
use Rattle.master.specs.Refused.{tariff_refusal, pair_refusal, price_refusal}
use Rattle.master.specs.declared.cut.Cut.{Cut}
use Rattle.judging.specs.Judging.{Ends}
use Rattle.judging.specs.declared.outcome.Outcome.{Outcome}
use Rattle.judging.specs.declared.outcome.Outcome.TheVariants.{Agreed, Cut as Cutting, Stopped as Stopping, Full as Filling}
use Rattle.planner.specs.Calls.{Call, Price, Bar, Grant, Propose, Judge, Answer, Refused, Done, Proposed, Nothing, Planned, CutOff, StoppedAt, TableFull}
use Rattle.planner.specs.States.{State, with_price, with_bar, with_workshop, with_pending, judged}

-- the round number after which no proposal is made
abbrev pub last_round : ℕ
last_round = 65535

-- the answer of a judgement in the given round
abbrev pub end_of : List ℕ → ℕ → ℕ → Outcome → Answer
end_of row cost round Agreed = Planned row cost round
end_of row cost round (Cutting added) = CutOff added
end_of row cost round (Stopping fault added) = StoppedAt fault round added
end_of row cost round (Filling place added) = TableFull place added

-- what an idle planner refuses every call with; its places are those of the workshop
abbrev pub sizes_refusal : {W J : Type 0} → Meaning W → State W J → Option Refusal
sizes_refusal m s = tariff_refusal s.jobs (m.count s.workshop)

module _ {W J : Type 0} (m : Meaning W) (joins : J → ℕ → ℕ → ℕ) where
  abbrev pub places : State W J → ℕ
  places s = m.count s.workshop

  -- the cheapest assignment that is permitted and obeys the cuts
  abbrev pub BestOf : State W J → List ℕ → ℕ → Type 0
  BestOf s row cost = Best s.jobs (places s) (joins s.measure) s.price s.barred s.cuts row cost

  -- a call is refused: at an idle planner, or for a reason of its own
  pub data Refuses (s : State W J) : Call → Refusal → Type 0 where
    idle : (c : Call) (e : Refusal) → sizes_refusal m s ≡ Some e → Refuses s c e
    price : (job place amount : ℕ) (e : Refusal) → sizes_refusal m s ≡ None
        → price_refusal s.jobs (places s) job place amount ≡ Some e → Refuses s (Price job place amount) e
    bar : (job place : ℕ) (b : Bool) (e : Refusal) → sizes_refusal m s ≡ None
        → pair_refusal s.jobs (places s) job place ≡ Some e → Refuses s (Bar job place b) e
    rounds : sizes_refusal m s ≡ None → s.round ≡ last_round → Refuses s Propose RoundsUsedUp
    judge : (row : List ℕ) (cost : ℕ) → sizes_refusal m s ≡ None
        → (s.pending ≢ Some (row, cost)) → Refuses s (Judge row cost) NotPending

  -- a call is accepted: its answer, and the planner then
  pub data Accepts (s : State W J) : Call → Answer → State W J → Type 0 where
    price : (job place amount : ℕ) → price_refusal s.jobs (places s) job place amount ≡ None
        → Accepts s (Price job place amount) Done (with_price s job place amount)
    bar : (job place : ℕ) (b : Bool) → pair_refusal s.jobs (places s) job place ≡ None
        → Accepts s (Bar job place b) Done (with_bar s job place b)
    grant : (amount : ℕ) (v : W) → m.grants s.workshop amount v → Accepts s (Grant amount) Done (with_workshop s v)
    proposal : (row : List ℕ) (cost : ℕ) → (s.round ≢ last_round) → BestOf s row cost
        → Accepts s Propose (Proposed row cost) (with_pending s (Some (row, cost)))
    none : (s.round ≢ last_round) → NoCandidate s.jobs (places s) s.barred s.cuts
        → Accepts s Propose Nothing (with_pending s None)
    judgement : (row : List ℕ) (cost : ℕ) (o : Outcome) (v : W) (cuts : List Cut) → s.pending ≡ Some (row, cost)
        → Ends m s.workshop s.cuts row (places s) o v cuts
        → Accepts s (Judge row cost) (end_of row cost (s.round + 1) o) (judged s v cuts)

  -- a call at s, its answer, and the planner t that it leaves
  pub data Step (s : State W J) (c : Call) : Answer → State W J → Type 0 where
    refused : (e : Refusal) → Refuses s c e → Step s c (Refused e) s
    accepted : (a : Answer) (t : State W J) → sizes_refusal m s ≡ None → Accepts s c a t → Step s c a t
