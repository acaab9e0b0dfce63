use Rattle.std.proofs.Common.{◌^◌, ◌<◌, arith}
use Rattle.jobs.specs.Sets.{width}
use Rattle.jobs.proofs.Answers.{exactly_eqb}
use Rattle.jobs.proofs.Bits.{bit_fits}
use Rattle.jobs.proofs.set.JobSet.contains.Goals as goal

pub returns-then-job : goal.returns-then-job
returns-then-job c h =
    let small : c.args.self.bits < 2 ^ width = omega arith in
    omega (arith, bit_fits width c.args.self.bits c.args.job small h)

pub returns : goal.returns
returns c = exactly_eqb _ _ (λ e. e) (λ h. h)
