use Rattle.std.proofs.Common.{◌∙◌, arith}
use Rattle.facilities.proofs.Firsts.{one_first}
use Rattle.facilities.proofs.Turns.{took_down, took_none, given_back, less_down, less_next, less_up, last_within, all_found}
use Rattle.facilities.proofs.search.first.Goals as goal

pub loop-trial-smaller-then-take : goal.loop-trial-smaller-then-take
loop-trial-smaller-then-take g c = less_down _ _ _ _ _ _ c.loop-trial.invariant.1 _ (omega arith) c.push.ensures.items

pub loop-trial-preserved-then-take : goal.loop-trial-preserved-then-take
loop-trial-preserved-then-take g c =
    let i = c.loop-trial.invariant in
    let en = c.if-take.ensures in
    (en.same ∙ i.0, took_down g.T.Trial.allowed _ _ _ _ i.0 _ _ _ i.1 _ _ (omega arith) (omega arith) en.took c.push.ensures.items)

pub loop-trial-smaller-else-take : goal.loop-trial-smaller-else-take
loop-trial-smaller-else-take g c = less_next _ _ _ _ _ _ c.loop-trial.invariant.1

pub loop-trial-preserved-else-take : goal.loop-trial-preserved-else-take
loop-trial-preserved-else-take g c =
    let i = c.loop-trial.invariant in
    let en = c.if-take.ensures in
    (en.same ∙ i.0, took_none g.T.Trial.allowed _ _ _ _ i.0 _ _ _ i.1 (g.met.T.Trial.fronts _) _ (omega arith) en.took)

pub overflow_add-next-else-next-choices : goal.overflow_add-next-else-next-choices
overflow_add-next-else-next-choices g c = omega (arith, last_within _ _ _ _ _ _ c.loop-trial.invariant.1 _ _ c.in_ok-last.ensures.items)

pub loop-trial-smaller : goal.loop-trial-smaller
loop-trial-smaller g c = less_up _ _ _ _ _ _ c.loop-trial.invariant.1 _ _ (omega arith) c.in_ok-last.ensures.items

pub loop-trial-preserved : goal.loop-trial-preserved
loop-trial-preserved g c =
    let i = c.loop-trial.invariant in
    let en = c.undo.ensures in
    (en.same ∙ i.0, given_back _ _ _ _ _ _ i.1 (g.met.T.Trial.fronts _) _ _ _ (omega arith) (omega arith) c.in_ok-last.ensures.items en.gave)

pub returns : goal.returns
returns g c =
    let i = c.loop-trial.invariant in
    record {
      same = i.0;
      answer = (all_found _ _ _ _ _ _ i.1 _ _ c.depth-levels.ensures.value c.width-choices.ensures.value (omega arith), i.1.agrees);
      one = one_first _ _ _;
      levels = omega (arith, c.depth-levels.ensures.value, c.depth-levels.ensures.bound);
      choices = omega (arith, c.width-choices.ensures.value, c.width-choices.ensures.bound);
    }
