use Rattle.std.proofs.Common.{◌≡◌, ◌≤◌, [], ◌∷◌, arith, rules, tests}
use Rattle.workshops.specs.Tallies.{yeses}
use Rattle.workshops.proofs.RunLaws.{all_steady}
use Rattle.workshops.proofs.TallyFacts.{going_none, going_few, going_more, going_inside, going_all, going_stopped, tallied}
use Rattle.workshops.proofs.tally.ask_all.Goals as goal

pub returns-then-place-count-clause-steady : goal.returns-then-place-count-clause-steady
returns-then-place-count-clause-steady g c = all_steady g.W.Workshop.meaning g.met.W.Workshop.lawful

pub loop-set-init : goal.loop-set-init
loop-set-init g c =
    let none = c.default-tally.ensures in
    going_none g.W.Workshop.meaning _ _ _ c.default-tally.result none.0 none.1.0 none.1.1

pub returns-in_err-yes-clause-tally : goal.returns-in_err-yes-clause-tally
returns-in_err-yes-clause-tally g c =
    absurd (c.in_err-yes.ensures.answers (going_inside g.W.Workshop.meaning g.met.W.Workshop.lawful _ _ _ _ _ _ c.loop-set.invariant (omega arith)))

pub returns-in_err-yes-clause-steady : goal.returns-in_err-yes-clause-steady
returns-in_err-yes-clause-steady g c = all_steady g.W.Workshop.meaning g.met.W.Workshop.lawful

pub overflow_add-tally-in-Ok : goal.overflow_add-tally-in-Ok
overflow_add-tally-in-Ok g c =
    let few : c.loop-set.tally.yes ≤ c.loop-set.set-index = going_few g.W.Workshop.meaning _ _ _ _ _ _ c.loop-set.invariant in
    let one : c.from.result ≤ 1 = search (rules, tests) in
    omega arith

pub loop-set-preserved : goal.loop-set-preserved
loop-set-preserved g c =
    let one : c.from.result ≡ yeses (c.in-Ok.yes ∷ []) = search (rules, tests) in
    going_more g.W.Workshop.meaning c.in-Ok.yes _ _ _ _ _ _ _ _ _ one (omega arith) c.loop-set.invariant (rw c.in-Ok.is at c.in_ok-yes.ensures)

pub returns-after-loop-set : goal.returns-after-loop-set
returns-after-loop-set g c =
    let m = g.W.Workshop.meaning in
    record {
      tally = tallied m _ _ _ _ _ (omega arith) (going_all m g.met.W.Workshop.lawful _ _ _ _ _ _ (omega arith) c.loop-set.invariant);
      steady = all_steady m g.met.W.Workshop.lawful;
    }

pub returns-in-Err : goal.returns-in-Err
returns-in-Err g c =
    let m = g.W.Workshop.meaning in
    let law = g.met.W.Workshop.lawful in
    let inside = going_inside m law _ _ _ _ _ _ c.loop-set.invariant (omega arith) in
    record {
      tally = tallied m _ _ _ _ _ (omega arith) (going_stopped m law _ _ _ _ _ _ _ _ _ (omega arith) inside c.loop-set.invariant (rw c.in-Err.is at c.in_ok-yes.ensures));
      steady = all_steady m law;
    }
