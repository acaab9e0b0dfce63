use Rattle.jobs.proofs.Answers.{exactly_eqb}
use Rattle.jobs.proofs.Members.{and_part, part_and}
use Rattle.jobs.proofs.set.JobSet.is_part_of.Goals as goal

pub returns : goal.returns
returns c = exactly_eqb _ _ (and_part c.args.self.bits c.args.whole.bits) (part_and c.args.self.bits c.args.whole.bits)
