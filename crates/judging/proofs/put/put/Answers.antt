use Rattle.std.proofs.Common.{◌<◌, lt-ltb, arith}
use Rattle.master.specs.Refused.{most_places}
use Rattle.judging.proofs.Keeping.{puts_follows}
use Rattle.judging.proofs.Telling.{puts_tells}
use Rattle.judging.proofs.put.put.Goals as goal

pub returns-clause-tells : goal.returns-clause-tells
returns-clause-tells g c = λ good.
    let count = g.W.Workshop.meaning.count c.args.workshop.now in
    let within : c.args.place < count = omega arith in
    let few : c.args.place < most_places = omega arith in
    rw (lt-ltb c.args.place count within, lt-ltb c.args.place most_places few) (puts_tells g.met.W.Workshop.lawful good within _ (omega arith) c.turn.ensures.puts)

pub returns-clause-follows : goal.returns-clause-follows
returns-clause-follows g c = puts_follows g.met.W.Workshop.lawful (omega arith) c.turn.ensures.puts
