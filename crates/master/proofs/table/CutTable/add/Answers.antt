use Rattle.std.proofs.Common.{◌≡◌, ◌<◌, List, length, refl, sym, subst, eqb-true, arith}
use borrow.Author.Tests.{eqb-false}
use Rattle.master.specs.Cuts.{cut_of, room, Adds, Clash, Misplaced}
use Rattle.master.specs.Refused.{most_places}
use Rattle.master.specs.Tables.{held}
use Rattle.master.specs.declared.cut.Cut.{Cut}
use Rattle.master.specs.declared.cut.Addition.TheVariants.{Put}
use Rattle.master.specs.Cuts.Adds.{covered, full, put}
use Rattle.master.proofs.Adding.{leaves_all, leaves_short, placed_push, apart_put, same_table, cut_accepted, adds_ruled}
use Rattle.master.proofs.table.CutTable.add.Goals as goal

pub returns-then-covers : goal.returns-then-covers
returns-then-covers c =
    let near : c.args.place < most_places = omega arith in
    record {
      list = cut_accepted c.args.place _ _ near (covered c.if-covers.ensures);
      meaning = adds_ruled _ _ _ _ (covered c.if-covers.ensures);
      same = refl;
    }

pub returns-then-is_full : goal.returns-then-is_full
returns-then-is_full c =
    let near : c.args.place < most_places = omega arith in
    let t = c.args.self.now in
    let u = c.remove_around.new.self in
    let all : length (held u) ≡ room = eqb-true (length (held u)) room (sym c.if-is_full.ensures.value) in
    record {
      list = cut_accepted c.args.place _ _ near (full (held u) c.if-covers.ensures c.remove_around.ensures all);
      meaning = tt;
      same = same_table u t (leaves_all (cut_of c.args.place c.args.set) (held t) (held u) c.remove_around.ensures (omega (arith, t.few, leaves_short (cut_of c.args.place c.args.set) (held t) (held u) c.remove_around.ensures)));
    }

pub invariant_of-self : goal.invariant_of-self
invariant_of-self c =
    let near : c.args.place < most_places = omega arith in
    let new = cut_of c.args.place c.args.set in
    let u = c.remove_around.new.self in
    record {
      few = omega (arith, c.push.ensures.len, u.few, eqb-false (length (held u)) room (sym c.if-is_full.ensures.value));
      apart = λ k. apart_put new (held c.args.self.now) (held u) u.apart c.if-covers.ensures c.remove_around.ensures (subst (λ (cs : List Cut). Clash cs) c.push.ensures.items k);
      placed = λ k. u.placed (placed_push (held u) new near (subst (λ (cs : List Cut). Misplaced cs) c.push.ensures.items k));
    }

pub returns : goal.returns
returns c =
    let near : c.args.place < most_places = omega arith in
    let t = c.args.self.now in
    let u = c.remove_around.new.self in
    let fewer : length (held u) < room = omega (arith, u.few, eqb-false (length (held u)) room (sym c.if-is_full.ensures.value)) in
    let adds = subst (λ (cs : List Cut). Adds (held t) (cut_of c.args.place c.args.set) Put cs) (sym c.push.ensures.items) (put (held u) c.if-covers.ensures c.remove_around.ensures fewer) in
    record { list = cut_accepted c.args.place _ _ near adds; meaning = adds_ruled _ _ _ _ adds; same = tt }
