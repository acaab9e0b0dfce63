use Rattle.jobs.specs.Sets.{bits}
use Rattle.facilities.proofs.Shrinking.{shrinks_more}
use Rattle.facilities.proofs.shrink.shrunk.Goals as goal

pub loop-job-preserved : goal.loop-job-preserved
loop-job-preserved g c =
    let now = c.loop-job in
    shrinks_more (g.F.Facility.family c.args.facility.now) now.yielded (bits c.args.set) (bits now.left) c.in-Some.job (bits c.left_out-left.result) now.invariant c.left_out-left.ensures
