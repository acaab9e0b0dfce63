use Rattle.std.proofs.Common.{◌^◌, ◌<◌, sym, arith}
use lib.Count.{ones-le}
use Rattle.jobs.specs.Sets.{width}
use Rattle.jobs.proofs.Lists.{length_jobs}
use Rattle.jobs.proofs.set.JobSet.len.Goals as goal

pub overflow_cast-result : goal.overflow_cast-result
overflow_cast-result c =
    let small : c.args.self.bits < 2 ^ width = omega arith in
    omega (arith, ones-le width c.args.self.bits small)

pub returns : goal.returns
returns c = let small : c.args.self.bits < 2 ^ width = omega arith in sym (length_jobs c.args.self.bits small)
