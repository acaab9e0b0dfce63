use Rattle.std.proofs.Common.{ℕ, ◌<◌}
use Rattle.jobs.specs.Sets.{Has}
use Rattle.jobs.proofs.set.JobSet.lowest.Given as goal

abbrev pub invariant-loop-job : goal.invariant-loop-job
invariant-loop-job l = (j : ℕ) → j < l.job → Has l.self.bits j → ⊥
