use Rattle.std.proofs.Common.{subst}
use Rattle.facilities.specs.Lines.{Leads, morning}
use Rattle.facilities.specs.LinesLemmas.{leads_back}
use Rattle.facilities.specs.Rows.{row_list}
use Rattle.facilities.proofs.bench.line.LineTrial.undo.Goals as goal

pub invariant_of-self-2 : goal.invariant_of-self-2
invariant_of-self-2 c =
    let l = c.args.self.now in
    let rows = row_list l.batch.rows in
    let first = morning l.batch.set in
    record { leads = leads_back rows first c.pop.new.self.items c.in-Some.step l.at (subst (λ ss. Leads rows first ss l.at) c.in-Some.ensures.items l.leads) }
