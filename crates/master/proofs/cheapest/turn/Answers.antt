use Rattle.std.proofs.Common.{◌≡◌, ℕ, ◌<◌, get_or, subst, arith}
use Rattle.master.specs.Tariffs.{price_of}
use Rattle.master.specs.Walks.{next_place, Takes}
use Rattle.master.proofs.Climbing.{Climbs, climbs}
use Rattle.master.proofs.Turning.{last_below, turn_over, turn_back, turn_skip, turn_deepen, turn_take}
use Rattle.master.proofs.cheapest.turn.Given as given
use Rattle.master.proofs.cheapest.turn.Goals as goal

climbs_of : (g : given.Over) (μ : g.row.M.Denot) → Climbs (g.M.Measure.joins μ)
climbs_of g μ = climbs (g.M.Measure.joins μ) (g.met.M.Measure.fits μ) (g.met.M.Measure.zeroright μ) (g.met.M.Measure.grows μ)

pub returns-then-job-eq0 : goal.returns-then-job-eq0
returns-then-job-eq0 g c = turn_over _ c.args.tariff.now c.args.cuts.now c.args.walk.now c.requires c.if-job-eq0.true (omega arith)

pub back-requires : goal.back-requires
back-requires g c =
    let t = c.args.tariff.now in
    let some : 0 < c.args.walk.now.depth = omega arith in
    record {
      place = omega (arith, last_below _ t c.args.cuts.now c.args.walk.now c.requires some, t.few_places);
      begun = some;
    }

pub returns-then-place-places : goal.returns-then-place-places
returns-then-place-places g c = turn_back _ c.args.tariff.now c.args.cuts.now c.args.walk.now c.requires c.back.new.self (omega arith) (omega arith) c.back.ensures

pub returns-then-not-is_worth : goal.returns-then-not-is_worth
returns-then-not-is_worth g c =
    let joined = g.M.Measure.joins c.args.measure.now in
    let w = c.args.walk.now in
    let total : c.join-total.result ≡ joined (get_or w.totals w.depth 0) (price_of c.args.tariff.now w.depth (next_place w)) = cc in
    turn_skip joined c.args.tariff.now c.args.cuts.now w c.requires (climbs_of g c.args.measure.now) c.skip.new.self c.join-total.result
    total (omega arith) c.if-not-is_worth.ensures c.skip.ensures

pub returns-then-job-jobs : goal.returns-then-job-jobs
returns-then-job-jobs g c =
    let joined = g.M.Measure.joins c.args.measure.now in
    let w = c.args.walk.now in
    let total : c.join-total.result ≡ joined (get_or w.totals w.depth 0) (price_of c.args.tariff.now w.depth (next_place w)) = cc in
    turn_deepen joined c.args.tariff.now c.args.cuts.now w c.requires c.deepen.new.self c.join-total.result
    total (omega arith) (omega arith) c.if-not-is_worth.ensures c.deepen.ensures

pub returns : goal.returns
returns g c =
    let joined = g.M.Measure.joins c.args.measure.now in
    let w = c.args.walk.now in
    let total : c.join-total.result ≡ joined (get_or w.totals w.depth 0) (price_of c.args.tariff.now w.depth (next_place w)) = cc in
    turn_take joined c.args.tariff.now c.args.cuts.now w c.requires c.take.new.self c.join-total.result
    total (omega arith) (omega (arith, c.requires.deep)) c.if-not-is_worth.ensures
    (subst (λ (n : ℕ). Takes w w.depth (next_place w) n c.join-total.result c.take.new.self) c.jobs-2.ensures c.take.ensures)
