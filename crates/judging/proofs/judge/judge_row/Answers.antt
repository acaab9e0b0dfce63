use Rattle.std.proofs.Common.{◌≤◌, arith}
use Rattle.std.proofs.lemmas.Bool.{le-leb}
use Rattle.master.specs.Refused.{most_places}
use Rattle.judging.proofs.Telling.{ends_tell, ends_follow}
use Rattle.judging.proofs.judge.judge_row.Goals as goal

pub returns-clause-tells : goal.returns-clause-tells
returns-clause-tells g c = λ good.
    let count = g.W.Workshop.meaning.count c.args.workshop.now in
    let few : count ≤ most_places = omega arith in
    rw (le-leb count most_places few) (ends_tell g.met.W.Workshop.lawful good (rw c.count-places.ensures at c.judge_places.ensures))

pub returns-clause-follows : goal.returns-clause-follows
returns-clause-follows g c = ends_follow g.met.W.Workshop.lawful (rw c.count-places.ensures at c.judge_places.ensures)
