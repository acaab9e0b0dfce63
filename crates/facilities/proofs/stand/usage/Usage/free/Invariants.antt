use Rattle.std.proofs.Common.{◌≡◌, ℕ, ◌+◌, ◌<◌, ◌≤◌}
use Rattle.facilities.specs.Draws.{draw_at}
use Rattle.facilities.specs.Usages.{at}
use Rattle.facilities.proofs.stand.usage.Usage.free.Given as goal

abbrev pub invariant-loop-hour : goal.invariant-loop-hour
invariant-loop-hour l = record {
  freed : (k : ℕ) → k < l.hour → at l.hours k + draw_at l.row k ≡ at l.initial.hours k;
  rest : (k : ℕ) → l.hour ≤ k → at l.hours k ≡ at l.initial.hours k;
}
