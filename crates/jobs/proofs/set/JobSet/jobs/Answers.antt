use Rattle.std.proofs.Common.{ap, length, arith}
use Rattle.jobs.specs.Lists.{listed}
use Rattle.jobs.proofs.Lists.{few_members, jobs_listed}
use Rattle.jobs.proofs.set.JobSet.jobs.Goals as goal

pub push-requires : goal.push-requires
push-requires c =
    let now = c.loop-job in
    omega (arith, ap length now.invariant, few_members c.args.self.bits now.job, c.loop-job-test.true)

pub returns : goal.returns
returns c = jobs_listed c.args.self.bits (listed c.loop-job.jobs) c.loop-job.job c.loop-job.invariant c.loop-job.auto.job-end c.loop-job-test.false
