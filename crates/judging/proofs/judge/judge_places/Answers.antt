use Rattle.std.proofs.Common.{◌≡◌, ◌<◌, ◌≤◌, arith}
use Rattle.judging.specs.Judging.{tally}
use Rattle.judging.specs.Judging.Ends.{agreed, refused}
use Rattle.judging.proofs.Putting.{none_judged, judged_passed, judged_added, judged_stopped, judged_full}
use Rattle.judging.proofs.judge.judge_places.Goals as goal
use Rattle.judging.proofs.judge.judge_places.Goals.{in-Passed, in-Added}

pub loop-place-init : goal.loop-place-init
loop-place-init g c = none_judged

pub returns-in-Stopped : goal.returns-in-Stopped
returns-in-Stopped g c = rw c.unwrap_or-added.ensures (judged_stopped c.loop-place.invariant _ (omega arith) c.in-Stopped.ensures)

pub returns-in-Full : goal.returns-in-Full
returns-in-Full g c = rw c.unwrap_or-added.ensures (judged_full c.loop-place.invariant (omega arith) c.in-Full.ensures)

pub loop-place-preserved : goal.loop-place-preserved
loop-place-preserved g c =
    let here : c.loop-place.place < g.W.Workshop.meaning.count c.args.workshop.now = omega (arith, c.requires.within, c.loop-place-test.true) in
    elim c.match-judge_place.branch [
      | in-Passed w ↦ rw w.cut-is (judged_passed c.loop-place.invariant g.met.W.Workshop.lawful here w.in-Passed.ensures)
      | in-Added w ↦
          let once : tally w.in-Added.addition ≤ 1 = omega (arith, w.counted.ensures.value, w.counted.ensures.bound) in
          rw (w.cut-is, c.unwrap_or-added.ensures, w.counted.ensures.value) (judged_added c.loop-place.invariant g.met.W.Workshop.lawful here _ once w.in-Added.ensures)
    ]

pub returns-in-None : goal.returns-in-None
returns-in-None g c =
    let same : c.loop-place.place ≡ c.args.places = omega arith in
    agreed _ _ _ (rw (same, c.in-None.is) at c.loop-place.invariant.judges)

pub returns-in-Some : goal.returns-in-Some
returns-in-Some g c =
    let same : c.loop-place.place ≡ c.args.places = omega arith in
    refused _ _ _ (rw (same, c.in-Some.is) at c.loop-place.invariant.judges)
