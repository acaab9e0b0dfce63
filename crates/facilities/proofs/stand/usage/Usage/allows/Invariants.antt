use Rattle.std.proofs.Common.{ℕ, ◌+◌, ◌<◌, ◌≤◌}
use Rattle.facilities.specs.Draws.{draw_at}
use Rattle.facilities.specs.Usages.{at}
use Rattle.facilities.proofs.stand.usage.Usage.allows.Given as goal

abbrev pub invariant-loop-hour : goal.invariant-loop-hour
invariant-loop-hour l = (k : ℕ) → k < l.hour → at l.hours k + draw_at l.row k ≤ l.supply
