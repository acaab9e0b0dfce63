use Rattle.std.proofs.Common.{rules}
use Rattle.jobs.specs.Sets.{bits}
use Rattle.workshops.specs.Remembered.{remembered}
use Rattle.workshops.specs.KnownFacts.{known_says}
use Rattle.workshops.proofs.notes.Notes.known.Goals as goal

pub returns-then-knows-clause-value : goal.returns-then-knows-clause-value
returns-then-knows-clause-value c = known_says c.args.place (bits c.args.set) (remembered c.args.self.now) _ (search rules)

pub returns-then-knows-2-clause-value : goal.returns-then-knows-2-clause-value
returns-then-knows-2-clause-value c = known_says c.args.place (bits c.args.set) (remembered c.args.self.now) _ (search rules)

pub returns-clause-value : goal.returns-clause-value
returns-clause-value c = known_says c.args.place (bits c.args.set) (remembered c.args.self.now) _ (search rules)
