use Rattle.std.proofs.Common.{◌≡◌}
use Rattle.jobs.specs.Lists.{listed}
use Rattle.jobs.specs.Sets.{bits, members}
use Rattle.jobs.proofs.set.JobSet.jobs.Given as goal

-- the jobs so far are listed
abbrev pub invariant-loop-job : goal.invariant-loop-job
invariant-loop-job l = listed l.jobs ≡ members (bits l.self) l.job
