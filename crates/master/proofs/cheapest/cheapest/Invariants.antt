use Rattle.master.specs.Walks.{Walking, left_in}
use Rattle.master.proofs.cheapest.cheapest.Given as goal

abbrev pub invariant-loop : goal.invariant-loop
invariant-loop g l = Walking (g.M.Measure.joins l.measure) l.tariff l.cuts l.walk

abbrev pub decreases-loop : goal.decreases-loop
decreases-loop g l = left_in l.tariff l.walk
