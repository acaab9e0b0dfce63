use Rattle.facilities.specs.TimetablesLemmas.{turn_of, ends_in_day, last_given, allowed_level, no_row, last_fits, there, undone}
use Rattle.facilities.proofs.stand.timetable.calls.TimetableTrial.undo.Goals as goal

pub invariant_of-self-in_default-row_at : goal.invariant_of-self-in_default-row_at
invariant_of-self-in_default-row_at c =
    let s = last_given _ _ _ _ _ _ _ _ c.in-Some.ensures.items c.args.self.now.sound in
    let level = allowed_level _ _ _ _ _ s.stands in
    absurd (no_row _ _ _ _ _ (turn_of _ _ _ _ _ _ s.all level c.len.ensures.value c.in_default-row_at.ensures) s.stands)

pub free-requires : goal.free-requires
free-requires c =
    let s = last_given _ _ _ _ _ _ _ _ c.in-Some.ensures.items c.args.self.now.sound in
    let level = allowed_level _ _ _ _ _ s.stands in
    let turn = turn_of _ _ _ _ _ _ s.all level c.len.ensures.value c.in-Some-row_at.ensures in
    record {
      within = ends_in_day c.in-Some-row_at.row c.in-Some.start (last_fits _ _ _ _ _ _ turn s.stands);
      there = there _ _ _ _ _ _ turn _ _ s;
    }

pub invariant_of-self-2 : goal.invariant_of-self-2
invariant_of-self-2 c =
    let s = last_given _ _ _ _ _ _ _ _ c.in-Some.ensures.items c.args.self.now.sound in
    let level = allowed_level _ _ _ _ _ s.stands in
    let turn = turn_of _ _ _ _ _ _ s.all level c.len.ensures.value c.in-Some-row_at.ensures in
    record { sound = undone _ _ _ _ _ _ turn _ _ s _ c.free.ensures }
