use Rattle.std.proofs.Common.{◌≡◌, ℕ, ◌^◌, ◌<◌, List, map, is_some, Some, None, Option, subst, arith, rules}
use Rattle.jobs.specs.Sets.{bits, width, jobs_of}
use Rattle.jobs.specs.Words.{Exactly}
use Rattle.facilities.specs.contracts.stand.timetable.calls.TimetableTrial.TheImpl.{ghosts}
use Rattle.arrayvec.specs.ArrayVec.{ArrayVec}
use Rattle.facilities.specs.declared.stand.timetable.Demand.{Demand}
use Rattle.facilities.specs.Rows.{row_list}
use Rattle.facilities.specs.Searches.{Answers}
use Rattle.facilities.specs.Stands.{Schedulable}
use Rattle.facilities.specs.Timetables.{demand_of}
use Rattle.facilities.specs.Loads.{scheduled, solved}
use Rattle.facilities.proofs.stand.verdict.StandFacility.verdict.Goals as goal

-- the search answers whether the jobs can be scheduled
decides : (d : Demand) → bits d.set < 2 ^ width → (r : Option (ArrayVec ℕ)) (held : List ℕ) → Answers ghosts d r held →
    Exactly (is_some r) (Schedulable (row_list d.rows) d.supply (bits d.set))
decides d l (Some c) held a = scheduled (row_list d.rows) d.supply (bits d.set) l c.items a.0.solves
decides d l None held a = λ s. a.0 (map s.0 (jobs_of (bits d.set))) (solved (row_list d.rows) d.supply (bits d.set) s)

pub returns : goal.returns
returns c =
    let s = c.args.self.now in
    let set = c.args.set in
    let small : bits set < 2 ^ width = omega arith in
    let asked : c.new-timetable.result.demand ≡ demand_of s.supply s.rows set = search rules in
    let held = c.first.new.trial.starts.items in
    let found = decides (demand_of s.supply s.rows set) small c.first.result held
    (subst (λ (d : Demand). Answers ghosts d c.first.result held) asked c.first.ensures.answer) in
    search rules
