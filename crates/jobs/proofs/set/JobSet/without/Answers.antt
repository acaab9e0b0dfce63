use Rattle.std.proofs.Common.{◌≡◌, ◌-◌, ◌*◌, ◌%◌, ◌^◌, ◌<◌, sym, ap, ◌∙◌, arith}
use Rattle.std.proofs.lemmas.Nat.{one_shl}
use Rattle.jobs.specs.Sets.{width, Has, without}
use Rattle.jobs.proofs.Answers.{changed}
use Rattle.jobs.proofs.Bits.{bit_fits, bit_le}
use Rattle.jobs.proofs.Members.{without_held, without_absent, without_members}
use Rattle.jobs.proofs.set.JobSet.without.Goals as goal

pub returns-then-job : goal.returns-then-job
returns-then-job c =
    let i = c.args.job in
    let s = c.args.self.bits in
    let small : s < 2 ^ width = omega arith in
    let e = without_absent s i (λ h. omega (arith, bit_fits width s i small h)) in
    record { value = sym e; members = λ j. changed (λ n. Has n j) e (without_members s i j) }

pub returns-then-not-contains : goal.returns-then-not-contains
returns-then-not-contains c =
    let i = c.args.job in
    let s = c.args.self.bits in
    let e = without_absent s i c.if-not-contains.ensures in
    record { value = sym e; members = λ j. changed (λ n. Has n j) e (without_members s i j) }

pub overflow_sub-result : goal.overflow_sub-result
overflow_sub-result c =
    let i = c.args.job in
    omega (arith, one_shl i width c.if-job.false, bit_le c.args.self.bits i c.if-not-contains.ensures)

pub returns : goal.returns
returns c =
    let i = c.args.job in
    let s = c.args.self.bits in
    let e : without s i ≡ s - (1 * 2 ^ i) % 2 ^ width = without_held s i c.if-not-contains.ensures ∙ ap (λ n. s - n) (sym (one_shl i width c.if-job.false)) in
    record { value = sym e; members = λ j. changed (λ n. Has n j) e (without_members s i j) }
