use Rattle.std.proofs.Common.{arith}
use Rattle.facilities.specs.Rows.{WindowOf}
use Rattle.facilities.proofs.Entries.{job_checked, entered}
use Rattle.facilities.proofs.bench.Bench.row.Goals as goal

pub returns : goal.returns
returns c =
    let a = c.args in
    let new = c.in_ok-window.window in
    job_checked a.job _ _ _ _ _ (omega arith)
    (entered _ new (WindowOf a.release a.takes a.due) _ _ _ c.in_ok-window.ensures (λ numbers. record { new = new; numbers = numbers; rows = c.put.ensures }))
