use Rattle.worked_run.proofs.Entered.{three}
use Rattle.worked_run.proofs.bench.Goals as goal

pub returns : goal.returns
returns c =
    let a = c.row.ensures.1 in
    let b = c.row-2.ensures.1 in
    let d = c.row-3.ensures.1 in
    three _ _ _ _ _ _ _ a.new b.new d.new c.new-bench.ensures a.rows b.rows d.rows a.numbers b.numbers d.numbers
