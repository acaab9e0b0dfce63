use Rattle.std.proofs.Common.{sym, ap}
use Rattle.jobs.specs.Refusals.{wording}
use Rattle.jobs.proofs.refusal.Refusal.words.Goals as goal

pub returns-in-JobsOutOfRange : goal.returns-in-JobsOutOfRange
returns-in-JobsOutOfRange c = sym (ap wording c.in-JobsOutOfRange.is)

pub returns-in-NoSuchPlace : goal.returns-in-NoSuchPlace
returns-in-NoSuchPlace c = sym (ap wording c.in-NoSuchPlace.is)

pub returns-in-AmountTooLarge : goal.returns-in-AmountTooLarge
returns-in-AmountTooLarge c = sym (ap wording c.in-AmountTooLarge.is)

pub returns-in-RoundsUsedUp : goal.returns-in-RoundsUsedUp
returns-in-RoundsUsedUp c = sym (ap wording c.in-RoundsUsedUp.is)
