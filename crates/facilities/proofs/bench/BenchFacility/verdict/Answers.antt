use Rattle.std.proofs.Common.{ℕ, ◌^◌, ◌<◌, List, length, is_some, Some, None, Option, refl, subst, arith, rules}
use Rattle.arrayvec.specs.ArrayVec.{ArrayVec}
use Rattle.jobs.specs.Sets.{width, bits, jobs_of}
use Rattle.jobs.specs.Words.{Exactly}
use Rattle.facilities.specs.contracts.bench.line.LineTrial.TheImpl.{ghosts}
use Rattle.facilities.specs.declared.bench.line.Batch.{Batch}
use Rattle.facilities.specs.Benches.{Schedulable}
use Rattle.facilities.specs.Lines.{batch_of, chosen}
use Rattle.facilities.specs.Orders.{start_in}
use Rattle.facilities.specs.Rows.{row_list}
use Rattle.facilities.specs.Searches.{Answers}
use Rattle.facilities.specs.Schedules.{scheduled, lined_up}
use Rattle.facilities.proofs.bench.BenchFacility.verdict.Goals as goal

-- the search answers whether the jobs can be scheduled
decides : (b : Batch) → bits b.set < 2 ^ width → (r : Option (ArrayVec ℕ)) (held : List ℕ) → Answers ghosts b r held →
    Exactly (is_some r) (Schedulable (row_list b.rows) (bits b.set))
decides b l (Some c) held a =
    let line = a.0.solves in
    (start_in (row_list b.rows) c.items, (scheduled (row_list b.rows) c.items (bits b.set) 0 l line.stands line.full).0)
decides b l None held a = λ s.
    let x = lined_up (length (jobs_of (bits b.set))) (row_list b.rows) (bits b.set) 0 s.0 l refl s.1 (λ i h. omega arith) in
    a.0 x.0 (record { full = x.1; within = x.2; stands = x.3 })

pub returns : goal.returns
returns c =
    let set = c.args.set in
    let small : bits set < 2 ^ width = omega arith in
    let held = chosen c.first.new.trial.steps.items in
    let found = decides (batch_of c.args.self.now.rows set) small c.first.result held
    (subst (λ (b : Batch). Answers ghosts b c.first.result held) c.new-line.ensures.batch c.first.ensures.answer) in
    search rules
