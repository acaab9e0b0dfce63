use Rattle.std.proofs.Common.{rules}
use Rattle.workshops.specs.Piles.{Surveyed}
use Rattle.workshops.proofs.PileFacts.{surveyed}
use Rattle.workshops.proofs.pile.survey.Goals as goal

pub returns : goal.returns
returns g c =
    let one = g.F.Facility.family in
    let two = g.G.Facility.family in
    let run : Surveyed one two c.args.first c.args.second c.args.amount c.args.place c.args.sets.now c.ask_all.result = record {
      made = c.pile_up-pile.result;
      funded = c.grant.new.self;
      asked = c.ask_all.new.workshop;
      making = c.pile_up-pile.ensures;
      granting = search rules;
      asking = c.ask_all.ensures.tally;
    } in
    record {
      run = run;
      exact = surveyed one two c.ask_all.ensures.steady c.args.first c.args.second c.args.amount c.args.place c.args.sets.now c.ask_all.result run;
    }
