use Rattle.std.proofs.Common.{◌≡◌, true, List, Option, sym, refl, subst, arith, rules}
use Rattle.jobs.specs.declared.refusal.Refusal.TheVariants.{SupplyOutOfRange}
use Rattle.facilities.specs.declared.stand.row.StandRow.{StandRow}
use Rattle.facilities.specs.Draws.{Overdrawn}
use Rattle.facilities.specs.Rows.{row_list, in_range}
use Rattle.facilities.specs.Stands.{RowOf}
use Rattle.facilities.proofs.Entries.{checked, job_checked, entered}
use Rattle.facilities.proofs.Feeding.{fed_set}
use Rattle.facilities.proofs.stand.Stand.row.Goals as goal

pub invariant_of-self : goal.invariant_of-self
invariant_of-self c =
    let s = c.args.self.now in
    let new = c.in_ok-row.row in
    record { fed = subst (λ (rows : List (Option StandRow)). Overdrawn s.supply rows → ⊥) (sym c.put.ensures) (fed_set s.supply (row_list s.rows) c.args.job new s.fed c.in_ok-row.ensures.fed) }

pub returns : goal.returns
returns c =
    let a = c.args in
    let new = c.in_ok-row.row in
    let range : in_range a.self.now.supply ≡ true = search rules in
    checked (in_range a.self.now.supply) SupplyOutOfRange _ _ _ _ _ range
    (job_checked a.job _ _ _ _ _ (omega arith)
    (entered _ new (RowOf a.release a.takes a.due a.draw) _ _ _ c.in_ok-row.ensures.numbers (λ numbers. record { new = new; numbers = numbers; rows = c.put.ensures; supply = refl })))
