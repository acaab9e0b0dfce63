use Rattle.planner.proofs.pile.run_on_pile.Goals as goal

pub returns : goal.returns
returns g c = record {
  made = c.pile_up.result;
  piled = c.pile_up.ensures;
  log = c.run.ensures.log;
  same_calls = c.run.ensures.same_calls;
  run = c.run.ensures.runs.0;
  law = c.run.ensures.runs.1 c.pile_up.ensures.sound;
  last = c.run.ensures.last;
}
