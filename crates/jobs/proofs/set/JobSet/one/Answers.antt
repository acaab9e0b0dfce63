use Rattle.std.proofs.Common.{sym}
use Rattle.std.proofs.lemmas.Nat.{one_shl}
use Rattle.jobs.specs.Sets.{width, Has}
use Rattle.jobs.proofs.Answers.{accepted, changed}
use Rattle.jobs.proofs.Members.{one_members}
use Rattle.jobs.proofs.set.JobSet.one.Goals as goal

pub returns : goal.returns
returns c =
    let i = c.args.job in
    let l = c.if-job.false in
    let e = one_shl i width l in
    record {
      value = accepted i _ _ l e;
      members = accepted i _ _ l (λ j. changed (λ n. Has n j) (sym e) (one_members i j));
    }
