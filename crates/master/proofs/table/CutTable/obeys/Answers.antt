use Rattle.master.specs.Cuts.{Breaks}
use Rattle.master.specs.Rows.{row_places}
use Rattle.master.specs.Tables.{held}
use Rattle.master.proofs.Breaking.{looked_more, looked_all, looked_at}
use Rattle.master.proofs.table.CutTable.obeys.Goals as goal

pub loop-cut-preserved : goal.loop-cut-preserved
loop-cut-preserved c =
    looked_more (λ d. Breaks (row_places c.args.row.now) d → ⊥) c.as_slice-cut-items.result.now (held c.args.self.now) c.as_slice-cut-items.ensures.value c.loop-cut.cut-index
    c.loop-cut-test.true c.if-breaks.ensures c.loop-cut.invariant

pub returns-then-breaks : goal.returns-then-breaks
returns-then-breaks c = λ ok.
    looked_at (λ d. Breaks (row_places c.args.row.now) d → ⊥) c.as_slice-cut-items.result.now (held c.args.self.now) c.as_slice-cut-items.ensures.value c.loop-cut.cut-index
    c.loop-cut-test.true ok c.if-breaks.ensures

pub returns : goal.returns
returns c =
    looked_all (λ d. Breaks (row_places c.args.row.now) d → ⊥) c.as_slice-cut-items.result.now (held c.args.self.now) c.as_slice-cut-items.ensures.value c.loop-cut.cut-index
    c.loop-cut-test.false c.loop-cut.invariant
