use Rattle.std.proofs.Common.{arith, rules}
use Rattle.master.specs.Cuts.{Leaves}
use Rattle.master.specs.Tables.{held}
use Rattle.master.proofs.Adding.{leaves_retained, leaves_clash, leaves_placed}
use Rattle.master.proofs.table.CutTable.remove_around.Goals as goal

pub invariant_of-self : goal.invariant_of-self
invariant_of-self c =
    let t = c.args.self.now in
    let new = c.args.new in
    let left = c.retain.new.self.items in
    let leaves : Leaves new (held t) left = leaves_retained _ new _ (λ x b g y k. search rules) _ _ c.retain.ensures.filtered in
    record {
      few = omega (arith, t.few, c.retain.ensures.bound);
      apart = λ k. t.apart (leaves_clash new (held t) left leaves k);
      placed = λ k. t.placed (leaves_placed new (held t) left leaves k);
    }

pub returns : goal.returns
returns c = leaves_retained _ c.args.new _ (λ x b g y k. search rules) _ _ c.retain.ensures.filtered
