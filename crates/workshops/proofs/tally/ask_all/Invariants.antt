use Rattle.workshops.proofs.TallyFacts.{Going}
use Rattle.workshops.proofs.tally.ask_all.Given as goal

abbrev pub invariant-loop-set : goal.invariant-loop-set
invariant-loop-set g l = Going g.W.Workshop.meaning l.initial.workshop l.place l.sets l.set-index l.tally l.workshop
