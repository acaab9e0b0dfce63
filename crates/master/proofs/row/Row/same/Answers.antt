use Rattle.master.proofs.SameRows.{row_eq}
use Rattle.master.proofs.row.Row.same.Goals as goal

pub returns : goal.returns
returns c = row_eq c.args.self.now c.args.other.now _ c.eq.ensures
