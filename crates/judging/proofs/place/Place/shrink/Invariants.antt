use Rattle.judging.specs.Places.{Stays}
use Rattle.judging.proofs.Shrinking.{Trying}
use Rattle.judging.proofs.place.Place.shrink.Given as goal

abbrev pub invariant-loop-job : goal.invariant-loop-job
invariant-loop-job g l = record {
  stays : Stays l.initial.self l.self;
  trying : Trying g.W.Workshop.meaning l.initial.self.number l.initial.left.bits l.initial.self.workshop.now l.yielded l.job-iterator l.left.bits l.self.workshop.now;
}
