use Rattle.std.proofs.Common.{◌≡◌, ◌+◌, ◌*◌, ◌%◌, ◌^◌, ◌<◌, sym, ap, ◌∙◌, arith}
use Rattle.std.proofs.lemmas.Nat.{one_shl}
use Rattle.jobs.specs.Sets.{width, Has, with_job}
use Rattle.jobs.proofs.Answers.{accepted, changed}
use Rattle.jobs.proofs.Bits.{on_fits}
use Rattle.jobs.proofs.Members.{with_held, with_absent, with_members, absent_bit}
use Rattle.jobs.proofs.set.JobSet.with.Goals as goal

pub returns-then-contains : goal.returns-then-contains
returns-then-contains c =
    let i = c.args.job in
    let l = c.if-job.false in
    let s = c.args.self.bits in
    let e = with_held s i c.if-contains.ensures in
    record {
      value = accepted i _ _ l (sym e);
      members = accepted i _ _ l (λ j. changed (λ n. Has n j) e (with_members s i j));
    }

pub overflow_add-result : goal.overflow_add-result
overflow_add-result c =
    let i = c.args.job in
    let s = c.args.self.bits in
    let small : s < 2 ^ width = omega arith in
    omega (arith, one_shl i width c.if-job.false, on_fits width s i small c.if-job.false (absent_bit s i c.if-contains.ensures))

pub returns : goal.returns
returns c =
    let i = c.args.job in
    let l = c.if-job.false in
    let s = c.args.self.bits in
    let e : s + (1 * 2 ^ i) % 2 ^ width ≡ with_job s i = ap (λ n. s + n) (one_shl i width l) ∙ sym (with_absent s i c.if-contains.ensures) in
    record {
      value = accepted i _ _ l e;
      members = accepted i _ _ l (λ j. changed (λ n. Has n j) (sym e) (with_members s i j));
    }
