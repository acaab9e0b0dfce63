use Rattle.std.proofs.Common.{◌≡◌, Err, rules}
use Rattle.judging.specs.Judging.Tries.{start}
use Rattle.judging.proofs.Shrinking.{trying_more, trying_halts}
use Rattle.judging.proofs.place.Place.shrink.Goals as goal

pub loop-job-init : goal.loop-job-init
loop-job-init g c = record { stays = search rules; trying = record { order = search rules; tries = start } }

pub returns-in_err-left-clause-shrinks : goal.returns-in_err-left-clause-shrinks
returns-in_err-left-clause-shrinks g c =
    let now = c.loop-job.invariant in
    let is : c.from_residual.result ≡ Err c.in_err-left.field-0.0 = search rules in
    rw is (trying_halts (rw c.in-Some.ensures.steps at now.trying) _ (rw now.stays.1 at c.in_err-left.ensures.tried))

pub loop-job-preserved : goal.loop-job-preserved
loop-job-preserved g c =
    let now = c.loop-job.invariant in
    record { stays = search rules; trying = trying_more (rw c.in-Some.ensures.steps at now.trying) _ (rw now.stays.1 at c.in_ok-left.ensures.tried) }
