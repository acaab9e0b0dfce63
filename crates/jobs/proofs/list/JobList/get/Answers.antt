use Rattle.std.proofs.Common.{◌<◌, ◌≤◌, length, sym, arith, get_or-take}
use Rattle.std.proofs.lemmas.List.{length-take-le}
use Rattle.jobs.proofs.list.JobList.get.Goals as goal

pub returns-then-place-self : goal.returns-then-place-self
returns-then-place-self c =
    let l = c.args.self.now in
    let short : l.len ≤ length l.jobs = omega arith in
    let lt : c.args.place < l.len = c.if-place-self.true in
    (omega (arith, length-take-le l.len l.jobs short), sym (get_or-take l.len l.jobs c.args.place 0 lt))
