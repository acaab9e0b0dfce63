-- The calls of a planner and their answers, as numbers and lists of places.
use Rattle.std.specs.Prelude.{ℕ, Bool, List}
use Rattle.jobs.specs.declared.refusal.Refusal.{Refusal}
use Rattle.workshops.specs.declared.reply.Fault.{Fault}

pub data Call : Type 0 where
  Price : (job place amount : ℕ) → Call
  Bar : (job place : ℕ) (barred : Bool) → Call
  Grant : (amount : ℕ) → Call
  Propose : Call
  -- the judgement of a proposal, by its row and its cost
  Judge : (row : List ℕ) (cost : ℕ) → Call

pub data Answer : Type 0 where
  Refused : Refusal → Answer
  -- a price, a bar or a grant was accepted
  Done : Answer
  -- a proposal, or that there is none
  Proposed : (row : List ℕ) (cost : ℕ) → Answer
  Nothing : Answer
  -- the ends of a judgement
  Planned : (row : List ℕ) (cost round : ℕ) → Answer
  CutOff : (added : ℕ) → Answer
  StoppedAt : (fault : Fault) (round added : ℕ) → Answer
  TableFull : (place added : ℕ) → Answer

-- a call and its answer
pub record Event : Type 0 where
  pub call : Call
  pub answer : Answer

abbrev pub event : Call → Answer → Event
event c a = record { call = c; answer = a }

-- the first where the answer is a refusal, else the second
abbrev pub if_refused : {X : Type 0} → Answer → X → X → X
if_refused (Refused e) x y = x
if_refused Done x y = y
if_refused (Proposed row cost) x y = y
if_refused Nothing x y = y
if_refused (Planned row cost round) x y = y
if_refused (CutOff added) x y = y
if_refused (StoppedAt fault round added) x y = y
if_refused (TableFull place added) x y = y

-- how many cuts an answer reports
abbrev pub reports : Answer → ℕ
reports (Refused e) = 0
reports Done = 0
reports (Proposed row cost) = 0
reports Nothing = 0
reports (Planned row cost round) = 0
reports (CutOff added) = added
reports (StoppedAt fault round added) = added
reports (TableFull place added) = added

-- a plan from a judgement, or none from a proposal, ends the planning
abbrev pub Ending : Answer → Type 0
Ending (Refused e) = ⊥
Ending Done = ⊥
Ending (Proposed row cost) = ⊥
Ending Nothing = Unit {0}
Ending (Planned row cost round) = Unit {0}
Ending (CutOff added) = ⊥
Ending (StoppedAt fault round added) = ⊥
Ending (TableFull place added) = ⊥
