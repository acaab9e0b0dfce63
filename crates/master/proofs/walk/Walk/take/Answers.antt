use Rattle.std.proofs.Common.{refl}
use Rattle.master.proofs.walk.Walk.take.Goals as goal

pub returns : goal.returns
returns c = record {
  found = record { row = c.of-row.result; cost = c.args.cost };
  row_is = c.of-row.ensures;
  cost_is = refl;
  skips = let s = c.skip.ensures in record { row_is = s.row_is; totals_is = s.totals_is; groups_is = s.groups_is; depth_is = s.depth_is; best_is = s.best_is };
}
