use Rattle.std.proofs.Common.{arith}
use Rattle.jobs.specs.Sets.{bits}
use Rattle.jobs.proofs.Lists.{few_jobs}
use Rattle.facilities.proofs.bench.line.LineTrial.depth.Goals as goal

pub returns : goal.returns
returns c = record { value = c.len.ensures; bound = omega (arith, c.len.ensures, few_jobs (bits c.args.self.now.batch.set)) }
