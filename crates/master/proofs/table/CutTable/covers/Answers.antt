use Rattle.std.proofs.Common.{List, get_or, subst, rules}
use Rattle.master.specs.Cuts.{Within, Covers}
use Rattle.master.specs.Tables.{held}
use Rattle.master.specs.declared.cut.Cut.{Cut}
use Rattle.master.proofs.Adding.{no_cut, not_covered, covered_at}
use Rattle.master.proofs.Breaking.{looked_more, looked_all}
use Rattle.master.proofs.table.CutTable.covers.Goals as goal

pub loop-cut-preserved : goal.loop-cut-preserved
loop-cut-preserved c =
    let out : Within (get_or c.as_slice-cut-items.result.now c.loop-cut.cut-index no_cut) c.args.new → ⊥ = search rules in
    looked_more (λ d. Within d c.args.new → ⊥) c.as_slice-cut-items.result.now (held c.args.self.now) c.as_slice-cut-items.ensures.value c.loop-cut.cut-index
    c.loop-cut-test.true out c.loop-cut.invariant

pub returns-then-is_part_of : goal.returns-then-is_part_of
returns-then-is_part_of c =
    let found : Within (get_or c.as_slice-cut-items.result.now c.loop-cut.cut-index no_cut) c.args.new = search rules in
    subst (λ (cs : List Cut). Covers c.args.new cs) c.as_slice-cut-items.ensures.value
    (covered_at c.args.new c.as_slice-cut-items.result.now c.loop-cut.cut-index c.loop-cut-test.true found)

pub returns : goal.returns
returns c =
    not_covered c.args.new (held c.args.self.now)
    (looked_all (λ d. Within d c.args.new → ⊥) c.as_slice-cut-items.result.now (held c.args.self.now) c.as_slice-cut-items.ensures.value c.loop-cut.cut-index
    c.loop-cut-test.false c.loop-cut.invariant)
