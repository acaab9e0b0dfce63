use Rattle.std.proofs.Common.{◌≡◌, ℕ, ◌⊎◌, rules}
use Rattle.jobs.specs.Sets.{bits, Has}
use Rattle.jobs.specs.Words.{Same, Exactly}
use Rattle.master.specs.Cuts.{cut_of, Covers}
use Rattle.master.specs.Tables.{held}
use Rattle.master.proofs.Breaking.{with_taken, whole_group, still_obeys}
use Rattle.master.proofs.table.CutTable.allows.Goals as goal

pub returns-in-Ok-clause-begun : goal.returns-in-Ok-clause-begun
returns-in-Ok-clause-begun c = λ l row e g ok.
    let job = c.args.job in
    let place = c.args.place in
    let old = c.args.so_far in
    let new = c.in-Ok.set in
    let members : (j : ℕ) → Same (Has (bits new) j) (Has (bits old) j ⊎ (j ≡ job)) =
    (with_taken job new (λ s. (j : ℕ) → Same (Has (bits s) j) (Has (bits old) j ⊎ (j ≡ job))) c.in-Ok.ensures.members).1 in
    let covers : Exactly c.covers.result (Covers (cut_of place new) (held c.args.self.now)) = search rules in
    still_obeys row place new (whole_group row place job (bits old) (bits new) e members g) (held c.args.self.now) c.covers.result covers ok
