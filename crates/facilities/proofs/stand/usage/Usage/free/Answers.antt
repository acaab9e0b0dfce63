use Rattle.std.proofs.Common.{◌≡◌, ◌+◌, arith}
use Rattle.facilities.specs.Draws.{draw_at}
use Rattle.facilities.proofs.Hours.{hours_changed}
use Rattle.facilities.proofs.stand.usage.Usage.free.Goals as goal

pub returns : goal.returns
returns c h day =
    hours_changed (λ b d a. a + d ≡ b) (draw_at c.args.row.now) c.args.self.now.drawn c.loop-hour.hours _ _ c.args.start c.args.row.now.window.takes
    c.hours.ensures.start c.hours.ensures.end (omega arith) (omega arith) (λ k l. c.loop-hour.invariant.freed k (omega arith)) (λ n. omega arith) h
