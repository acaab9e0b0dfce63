use Rattle.std.proofs.Common.{rules}
use borrow.Author.Tests.{tests}
use Rattle.std.proofs.lemmas.Iterator.{YieldsList-from_slice, cases_from_any}
use Rattle.jobs.specs.Sets.{bits, Part}
use Rattle.master.specs.Tables.{held}
use Rattle.master.proofs.Breaking.{none_broken}
use Rattle.master.proofs.table.CutTable.allows_start.Goals as goal

pub returns : goal.returns
returns c =
    let cuts = held c.args.self.now in
    none_broken cuts c.any.result
    (cases_from_any _ _ c.any.result (λ d. Part (bits d.set) 0) (λ d. Part (bits d.set) 0 → ⊥) c.any.ensures.ran (YieldsList-from_slice cuts cc) (λ x q k. search (rules, tests)) (λ x q k. search (rules, tests)))
