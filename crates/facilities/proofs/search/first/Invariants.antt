use Rattle.std.proofs.Common.{◌≡◌}
use Rattle.facilities.proofs.Positions.{left}
use Rattle.facilities.proofs.Turns.{Searched}
use Rattle.facilities.proofs.search.first.Given as goal

abbrev pub invariant-loop-trial : goal.invariant-loop-trial
invariant-loop-trial g l =
    let t = g.T.Trial in
    let p = t.problem l.initial.trial in
    (t.problem l.trial ≡ p)
    × Searched (t.allowed p) l.levels l.choices l.found.items l.next (t.taken l.trial)

abbrev pub decreases-loop-trial : goal.decreases-loop-trial
decreases-loop-trial g l = left l.choices l.found.items l.levels l.next
