use Rattle.jobs.specs.Sets.{bits}
use Rattle.facilities.specs.Shrinking.{Shrinks}
use Rattle.facilities.proofs.shrink.shrunk.Given as goal

-- the jobs so far were tried
abbrev pub invariant-loop-job : goal.invariant-loop-job
invariant-loop-job g l = Shrinks (g.F.Facility.family l.facility) l.yielded (bits l.initial.left) (bits l.left)
