use Rattle.facilities.specs.Rows.{row_list}
use Rattle.facilities.specs.TimetablesLemmas.{fresh}
use Rattle.facilities.proofs.stand.timetable.Timetable.new.Goals as goal

pub invariant_of-result : goal.invariant_of-result
invariant_of-result c = record { sound = fresh (row_list c.args.rows) c.args.supply _ _ _ _ c.requires c.jobs.ensures c.new.ensures c.new-2.ensures }
