use Rattle.std.proofs.Common.{refl}
use Rattle.jobs.proofs.Members.{joined_members}
use Rattle.jobs.proofs.set.JobSet.join.Goals as goal

pub returns : goal.returns
returns c = record { value = refl; members = joined_members c.args.self.bits c.args.other.bits }
