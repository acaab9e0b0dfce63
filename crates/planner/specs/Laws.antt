-- The law over runs, in the words of assignments, prices and what places can schedule.
use Rattle.std.specs.Prelude.{◌≡◌, ℕ, ◌+◌, ◌<◌, ◌≤◌, Bool, List, [], ◌∷◌, length}
use Rattle.std.specs.List.{All}
use Rattle.jobs.specs.Sets.{bits, Has, without}
use Rattle.jobs.specs.Words.{Same}
use Rattle.workshops.specs.Stances.{Stopped}
use Rattle.workshops.specs.Workshops.{Meaning, Kept}
use Rattle.master.specs.Cuts.{room}
use Rattle.master.specs.Master.{Best}
use Rattle.master.specs.Rows.{Assigns, Permits, Group, costs}
use Rattle.master.specs.declared.cut.Cut.{Cut}
use Rattle.planner.specs.Calls.{Call, Judge, Answer, Refused, Done, Proposed, Nothing, Planned, CutOff, StoppedAt, TableFull, Event, Ending}
use Rattle.planner.specs.States.{State}
use Rattle.planner.specs.Runs.{price_now, barred_now, pending_now, judgements, reported, Run, made, next}

module _ {W J : Type 0} (m : Meaning W) (joins : J → ℕ → ℕ → ℕ) (w : W) (measure : J) (n : ℕ) where
  -- an assignment of the n jobs that is permitted, and whose jobs every place can schedule, a place without jobs too
  pub record Feasible (barred : ℕ → ℕ → Bool) (row : List ℕ) : Type 0 where
    pub assigns : Assigns n (m.count w) row
    pub permitted : Permits barred row
    pub scheduled : (place set : ℕ) → place < m.count w → Group row place set → m.family w place set

  -- a feasible assignment with its cost, such that none that is feasible costs less
  pub record Optimal (price : ℕ → ℕ → ℕ) (barred : ℕ → ℕ → Bool) (row : List ℕ) (cost : ℕ) : Type 0 where
    pub feasible : Feasible barred row
    pub bears : cost ≡ costs (joins measure) price row
    pub least : (other : List ℕ) → Feasible barred other → cost ≤ costs (joins measure) price other

  -- the place cannot schedule the cut's set, and with any single job left out it can
  pub record Minimal (c : Cut) : Type 0 where
    pub place : c.place < m.count w
    pub fails : m.family w c.place (bits c.set) → ⊥
    pub nearly : (job : ℕ) → Has (bits c.set) job → m.family w c.place (without (bits c.set) job)

  -- what an answer says, given the calls before it; s is the planner after it
  abbrev pub Says : List Event → Call → Answer → State W J → Type 0
  Says log c (Refused e) s = Unit {0}
  Says log c Done s = Unit {0}
  Says log c (Proposed row cost) s = Best n (m.count w) (joins measure) (price_now log) (barred_now log) s.cuts row cost
  Says log c Nothing s = (row : List ℕ) → Feasible (barred_now log) row → ⊥
  Says log c (Planned row cost round) s =
      (c ≡ Judge row cost) × (round ≡ judgements log + 1) × Optimal (price_now log) (barred_now log) row cost
  Says log c (CutOff added) s = 0 < added
  Says log c (StoppedAt fault round added) s =
      (round ≡ judgements log + 1) × (fault.place < m.count w)
      × (m.stance s.workshop fault.place (bits fault.set) ≡ Stopped fault.cause fault.depth)
  Says log c (TableFull place added) s =
      (place < m.count w) × (length s.cuts ≡ room)
      × ((row : List ℕ) (cost set : ℕ) → c ≡ Judge row cost → Group row place set → m.family w place set → ⊥)

  abbrev pub SaysLast : List Event → State W J → Type 0
  SaysLast [] s = Unit {0}
  SaysLast (e ∷ log) s = Says log e.call e.answer s

  -- an ending is none exactly when no assignment that was then permitted can be scheduled
  abbrev pub EndsRightly : List Event → Type 0
  EndsRightly [] = Unit {0}
  EndsRightly (e ∷ log) = Ending e.answer → Same (e.answer ≡ Nothing) ((row : List ℕ) → Feasible (barred_now log) row → ⊥)

  -- what stands after the calls of the list
  pub record Stands (log : List Event) (s : State W J) : Type 0 where
    -- the planner is as the list says
    pub measured : s.measure ≡ measure
    pub jobs : s.jobs ≡ n
    pub prices : s.price ≡ price_now log
    pub bars : s.barred ≡ barred_now log
    pub pending : s.pending ≡ pending_now log
    pub round : s.round ≡ judgements log
    -- the workshop has the count and the families that it was made with, and still keeps its word
    pub kept : Kept m w s.workshop
    pub sound : m.invariant s.workshop
    -- each held cut is minimal, and their number is that of the cuts reported
    pub minimal : All Minimal s.cuts
    pub number : length s.cuts ≡ reported log
    -- the last answer is right
    pub says : SaysLast log s
    pub ends : EndsRightly log

  -- it stands after each beginning of the run
  abbrev pub Law : (log : List Event) (s : State W J) → Run m joins w measure n log s → Type 0
  Law log s (made s' e) = Stands [] s
  Law log s (next before r t e run step) = Law before r run × Stands log s

  -- a run of the list to s, and with a workshop that keeps its word the law
  abbrev pub Runs : List Event → State W J → Type 0
  Runs log s = (run : Run m joins w measure n log s) × (m.invariant w → Law log s run)

-- a run that has come to s goes on through the call to t, and the law with it
abbrev pub GoesOn : {W J : Type 0} (m : Meaning W) (joins : J → ℕ → ℕ → ℕ) → State W J → Call → Answer → State W J → Type 0
GoesOn {W} {J} m joins s c a t =
    (w : W) (measure : J) (n : ℕ) (log : List Event) → Run m joins w measure n log s
    → Runs m joins w measure n (record { call = c; answer = a } ∷ log) t
