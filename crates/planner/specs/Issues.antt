-- What comes of issuing a plan.
use Rattle.std.specs.Prelude.{ℕ, length, Some, None, Ok, Err, Option, Result}
use Rattle.jobs.specs.declared.refusal.Refusal.{Refusal}
use Rattle.master.specs.Rows.{row_places}
use Rattle.sheet.specs.Sheets.{sheet}
use Rattle.planner.specs.declared.answers.Plan.{Plan}
use Rattle.planner.specs.declared.issue.Unissued.{Unissued}

-- the length of the plan's sheet, or the refusal with the plan handed back
abbrev pub issued : Option Refusal → Plan → Result ℕ Unissued
issued None plan = Ok (length (sheet plan.round plan.priced.cost (row_places plan.priced.row)))
issued (Some e) plan = Err (record { refusal = e; plan = plan })
