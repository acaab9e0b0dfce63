use Rattle.std.proofs.Common.{ap, ◌∙◌}
use Rattle.facilities.specs.Rows.{stand_refusal}
use Rattle.worked_run.proofs.Entered.{three, done}
use Rattle.worked_run.proofs.stand.Goals as goal

pub returns : goal.returns
returns c =
    let four = c.new-stand.ensures.supply in
    let a = done _ _ _ (ap (λ n. stand_refusal n 0 0 3 5 2) four) c.row.ensures in
    let b = done _ _ _ (ap (λ n. stand_refusal n 1 0 3 5 2) (a.supply ∙ four)) c.row-2.ensures in
    let d = done _ _ _ (ap (λ n. stand_refusal n 2 10 1 12 1) (b.supply ∙ a.supply ∙ four)) c.row-3.ensures in (
      d.supply ∙ b.supply ∙ a.supply ∙ four,
      three _ _ _ _ _ _ _ a.new b.new d.new c.new-stand.ensures.rows a.rows b.rows d.rows a.numbers b.numbers d.numbers,
    )
