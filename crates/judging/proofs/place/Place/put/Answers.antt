use Rattle.judging.specs.Judging.Puts.{passed, stopped}
use Rattle.judging.proofs.Putting.{said_no}
use Rattle.judging.proofs.place.Place.put.Goals as goal

pub returns-in-Ok-true-clause-puts : goal.returns-in-Ok-true-clause-puts
returns-in-Ok-true-clause-puts g c = passed _ (rw c.in-Ok-true.field-0-test at c.in-Ok-true.ensures.asked)

pub returns-in-Ok-false-clause-puts : goal.returns-in-Ok-false-clause-puts
returns-in-Ok-false-clause-puts g c = said_no _ (rw c.in-Ok-false.field-0-test at c.in-Ok-false.ensures.asked) (rw c.ask.ensures.stays.1 at c.cut_off.ensures.cuts)

pub returns-in-Err-clause-puts : goal.returns-in-Err-clause-puts
returns-in-Err-clause-puts g c = stopped _ _ c.in-Err.ensures.asked
