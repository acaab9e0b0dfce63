use Rattle.std.proofs.Common.{refl}
use Rattle.planner.specs.Promises.Reprices.{idle, refused, accepted}
use Rattle.planner.proofs.Stepping.{answered_err, answered_ok, left}
use Rattle.planner.proofs.planner.Planner.reprice.Goals as goal

pub returns-in_err-tariff : goal.returns-in_err-tariff
returns-in_err-tariff g c =
    rw (left c.from_residual.result c.in_err-tariff.field-0.0 c.from_residual.ensures.1) (idle _ (answered_err _ _ _ c.in_err-tariff.ensures))

pub returns-in_err-set : goal.returns-in_err-set
returns-in_err-set g c =
    let fit = answered_ok _ _ _ c.in_ok-tariff.ensures in
    rw (left c.from_residual-in_err-set.result c.in_err-set.field-0.0 c.from_residual-in_err-set.ensures.1)
    (refused c.in_ok-tariff.tariff c.set.new.arg2 _ fit.0 fit.1 (record { shown = _; shows = refl; left = _; met = c.in_err-set.ensures; leaves = refl }))

pub returns : goal.returns
returns g c =
    let fit = answered_ok _ _ _ c.in_ok-tariff.ensures in
    accepted c.in_ok-tariff.tariff c.set.new.arg2 _ fit.0 fit.1 (record { shown = _; shows = refl; left = _; met = c.in_ok-set.ensures; leaves = refl }) refl
