-- What is seen of the planner's values: a planner as a state, and each answer by its numbers.
use Rattle.std.specs.Prelude.{ℕ, List, Some, None, Ok, Err, Option, Result}
use Rattle.jobs.specs.declared.refusal.Refusal.{Refusal}
use Rattle.master.specs.Rows.{row_places}
use Rattle.master.specs.Tables.{held}
use Rattle.master.specs.Tariffs.{price_of, barred_in}
use Rattle.master.specs.declared.priced.Priced.{Priced}
use Rattle.planner.specs.declared.answers.Proposal.{Proposal}
use Rattle.planner.specs.declared.answers.Judgement.{Judgement}
use Rattle.planner.specs.declared.answers.Judgement.TheVariants.{Plan as APlan, Cut, Stop, Full}
use Rattle.planner.specs.declared.planner.Planner.{Planner}
use Rattle.planner.specs.Calls.{Answer, Refused, Done, Proposed, Nothing, Planned, CutOff, StoppedAt, TableFull}
use Rattle.planner.specs.States.{State}

-- a row with its cost
abbrev pub offer : Option Priced → Option (List ℕ × ℕ)
offer None = None
offer (Some x) = Some (row_places x.row, x.cost)

abbrev pub state : {W J : Type 0} → Planner W J → State W J
state p = record {
  workshop = p.workshop;
  measure = p.measure;
  jobs = p.jobs;
  price = price_of p.tariff;
  barred = barred_in p.tariff;
  cuts = held p.cuts;
  pending = offer p.pending;
  round = p.round;
}

-- the answer of price, bar and grant
abbrev pub done : {T : Type 0} → Result T Refusal → Answer
done (Ok x) = Done
done (Err e) = Refused e

-- the answer of propose
abbrev pub proposing : Result (Option Proposal) Refusal → Answer
proposing (Ok (Some p)) = Proposed (row_places p.priced.row) p.priced.cost
proposing (Ok None) = Nothing
proposing (Err e) = Refused e

-- the answer of judge
abbrev pub judging : Result Judgement Refusal → Answer
judging (Ok (APlan p)) = Planned (row_places p.priced.row) p.priced.cost p.round
judging (Ok (Cut added)) = CutOff added
judging (Ok (Stop fault round added)) = StoppedAt fault round added
judging (Ok (Full place added)) = TableFull place added
judging (Err e) = Refused e
