use Rattle.std.proofs.Common.{refl, arith}
use Rattle.jobs.specs.Sets.{bits}
use Rattle.jobs.proofs.Lists.{few_jobs}
use Rattle.facilities.specs.TimetablesLemmas.{turn_of, ends_in_day, no_row, last_fits, feeds_not, room_left, stands_on, pushed}
use Rattle.facilities.proofs.stand.timetable.calls.TimetableTrial.take.Goals as goal

pub returns-in_default : goal.returns-in_default
returns-in_default c =
    let s = c.args.self.now.sound in
    let turn = turn_of _ _ _ _ _ _ s.all c.requires.room c.len.ensures.value c.in_default.ensures in
    record { same = refl; took = (no_row _ _ _ _ c.args.choice turn, refl) }

pub returns-then-not-fits : goal.returns-then-not-fits
returns-then-not-fits c =
    let s = c.args.self.now.sound in
    let turn = turn_of _ _ _ _ _ _ s.all c.requires.room c.len.ensures.value c.in-Some.ensures in
    record { same = refl; took = (λ a. c.if-not-fits.ensures (last_fits _ _ _ _ c.args.choice _ turn a), refl) }

pub returns-then-not-allows : goal.returns-then-not-allows
returns-then-not-allows c =
    let s = c.args.self.now.sound in
    let turn = turn_of _ _ _ _ _ _ s.all c.requires.room c.len.ensures.value c.in-Some.ensures in
    record { same = refl; took = (feeds_not _ _ _ _ c.args.choice _ turn _ _ s c.if-not-fits.ensures c.if-not-allows.ensures, refl) }

pub fill-requires : goal.fill-requires
fill-requires c =
    let s = c.args.self.now.sound in
    let turn = turn_of _ _ _ _ _ _ s.all c.requires.room c.len.ensures.value c.in-Some.ensures in
    record {
      within = ends_in_day c.in-Some.row c.args.choice c.if-not-fits.ensures;
      room = room_left _ _ _ _ c.args.choice _ turn _ _ s c.if-not-fits.ensures c.if-not-allows.ensures;
    }

pub push-requires : goal.push-requires
push-requires c = omega (arith, c.requires.room, few_jobs (bits c.args.self.now.demand.set))

pub invariant_of-self-2 : goal.invariant_of-self-2
invariant_of-self-2 c =
    let s = c.args.self.now.sound in
    let turn = turn_of _ _ _ _ _ _ s.all c.requires.room c.len.ensures.value c.in-Some.ensures in
    record { sound = pushed _ _ _ _ c.args.choice _ turn _ _ s c.if-not-fits.ensures c.if-not-allows.ensures _ _ c.push.ensures.items c.fill.ensures }

pub returns : goal.returns
returns c =
    let s = c.args.self.now.sound in
    let turn = turn_of _ _ _ _ _ _ s.all c.requires.room c.len.ensures.value c.in-Some.ensures in
    record {
      same = refl;
      took = (stands_on _ _ _ _ c.args.choice _ turn _ _ s c.if-not-fits.ensures c.if-not-allows.ensures, c.push.ensures.items);
    }
