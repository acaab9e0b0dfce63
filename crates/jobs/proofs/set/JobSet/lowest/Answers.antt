use Rattle.std.proofs.Common.{◌^◌, ◌<◌, arith}
use Rattle.jobs.specs.Sets.{bits, width}
use Rattle.jobs.proofs.Bits.{bit_fits}
use Rattle.jobs.proofs.set.JobSet.lowest.Goals as goal

pub returns : goal.returns
returns c j h =
    let small : bits c.args.self < 2 ^ width = omega arith in
    let below : j < c.loop-job.job = omega (arith, bit_fits width (bits c.args.self) j small h, c.loop-job-test.false) in
    c.loop-job.invariant j below h
