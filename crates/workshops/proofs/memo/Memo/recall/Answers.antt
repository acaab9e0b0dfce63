use Rattle.jobs.specs.Sets.{bits}
use Rattle.workshops.specs.MemoLaws.{known_true}
use Rattle.workshops.proofs.memo.Memo.recall.Goals as goal

pub returns-clause-truth : goal.returns-clause-truth
returns-clause-truth g c = known_true g.W.Workshop.meaning g.met.W.Workshop.lawful c.args.self.now c.args.place (bits c.args.set) c.known.result c.known.ensures.value
