use Rattle.std.proofs.Common.{rules}
use Rattle.facilities.specs.Draws.{draw_at}
use Rattle.facilities.proofs.stand.row.StandRow.draw_at.Goals as goal

pub returns : goal.returns
unfolding draw_at
returns c = search rules
