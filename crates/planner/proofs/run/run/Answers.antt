use Rattle.std.proofs.Common.{arith}
use Rattle.planner.proofs.Carrying.{carries_none, carries_more, carries_all}
use Rattle.planner.proofs.run.run.Goals as goal

pub loop-call-init : goal.loop-call-init
loop-call-init g c =
    λ w measure n run. carries_none g.W.Workshop.meaning g.J.Measure.joins w measure n g.met.W.Workshop.lawful c.new-planner.result run

pub loop-call-preserved : goal.loop-call-preserved
loop-call-preserved g c =
    λ w measure n run. carries_more g.W.Workshop.meaning g.J.Measure.joins w measure n c.args.calls.now c.loop-call.call-index c.call-item.result
    c.loop-call.planner c.call.new.self c.loop-call.last c.call.result c.loop-call-test.true c.call-item.is c.call.ensures.law
    (c.loop-call.invariant w measure n run)

pub returns : goal.returns
returns g c =
    carries_all g.W.Workshop.meaning g.J.Measure.joins c.args.workshop c.args.measure c.args.jobs c.args.calls.now c.loop-call.call-index
    c.loop-call.planner c.loop-call.last (omega arith)
    (c.loop-call.invariant c.args.workshop c.args.measure c.args.jobs c.new-planner.ensures.law.0)
