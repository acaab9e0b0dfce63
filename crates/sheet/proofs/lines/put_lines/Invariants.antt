use Rattle.std.proofs.Common.{◌≡◌, ◌++◌, take}
use Rattle.sheet.specs.Sheets.{lines, no_tail}
use Rattle.sheet.proofs.lines.put_lines.Given as goal

-- the lines of the jobs so far stand
abbrev pub invariant-loop-job : goal.invariant-loop-job
invariant-loop-job l = l.sheet.bytes ≡ l.initial.sheet.bytes ++ lines no_tail 0 (take l.job l.places)
