use Rattle.std.proofs.Common.{take}
use Rattle.jobs.specs.Sets.{bits}
use Rattle.master.specs.Rows.{Group}
use Rattle.master.proofs.row.Row.group.Given as goal

abbrev pub invariant-loop-job : goal.invariant-loop-job
invariant-loop-job l = Group (take l.job l.at-items) l.place (bits l.set)
