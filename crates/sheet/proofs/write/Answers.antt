use Rattle.sheet.proofs.Apart.{told_apart}
use Rattle.sheet.proofs.Numbers.{plain}
use Rattle.sheet.proofs.write.Goals as goal

pub returns-in_err-check_room-clause-apart : goal.returns-in_err-check_room-clause-apart
returns-in_err-check_room-clause-apart c = told_apart

pub returns-in_err-check_room-clause-numerals : goal.returns-in_err-check_room-clause-numerals
returns-in_err-check_room-clause-numerals c = plain

pub returns-clause-apart : goal.returns-clause-apart
returns-clause-apart c = told_apart

pub returns-clause-numerals : goal.returns-clause-numerals
returns-clause-numerals c = plain
