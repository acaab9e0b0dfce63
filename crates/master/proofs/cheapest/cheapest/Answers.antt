use Rattle.master.specs.Tables.{held}
use Rattle.master.specs.Tariffs.{job_count, place_count, price_of, barred_in}
use Rattle.master.proofs.Searching.{one_best}
use Rattle.master.proofs.Walking.{no_start}
use Rattle.master.proofs.cheapest.cheapest.Goals as goal

pub returns-then-not-allows_start : goal.returns-then-not-allows_start
returns-then-not-allows_start g c =
    let t = c.args.tariff.now in
    record {
      found = no_start (job_count t) (place_count t) (barred_in t) (held c.args.cuts.now) c.if-not-allows_start.ensures;
      only = one_best (job_count t) (place_count t) (g.M.Measure.joins c.args.measure.now) (price_of t) (barred_in t) (held c.args.cuts.now);
    }

pub returns-clause-only : goal.returns-clause-only
returns-clause-only g c =
    let t = c.args.tariff.now in
    one_best (job_count t) (place_count t) (g.M.Measure.joins c.args.measure.now) (price_of t) (barred_in t) (held c.args.cuts.now)
