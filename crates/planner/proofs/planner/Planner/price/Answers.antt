use Rattle.std.proofs.Common.{rules}
use Rattle.planner.proofs.Stepping.{price_serves}
use Rattle.std.proofs.Common.{rules}
use Rattle.planner.proofs.planner.Planner.price.Goals as goal

pub returns : goal.returns
returns g c =
    price_serves g.W.Workshop.meaning g.J.Measure.joins g.met.W.Workshop.lawful c.args.self.now c.args.job c.args.place c.args.amount _
    (λ a b r h. search rules) _ _ c.reprice.ensures
