-- A stand's rows stay fed as rows are entered.
use Rattle.std.proofs.Common.{◌≡◌, ℕ, ◌<◌, ◌≤◌, ◌≢◌, List, length, set, Some, None, Option, sym, ap, ◌∙◌, subst, ⊎_elim}
use Rattle.std.proofs.lemmas.List.{get_or-set_same, get_or-set_other, set_past}
use Rattle.std.proofs.lemmas.Bool.{cases_eq, cases_lt}
use Rattle.facilities.specs.declared.stand.row.StandRow.{StandRow}
use Rattle.facilities.specs.Draws.{Fed, Overdrawn}
use Rattle.facilities.specs.Rows.{row}

-- one more fed row
pub fed_set : (supply : ℕ) (rows : List (Option StandRow)) (job : ℕ) (new : StandRow) →
    (Overdrawn supply rows → ⊥) → Fed supply new → Overdrawn supply (set rows job (Some new)) → ⊥
fed_set supply rows job new kept fed o = ⊎_elim
    (λ (l : job < length rows). ⊎_elim
    (λ (e : o.job ≡ job).
    let same : Some new ≡ Some o.held = sym (get_or-set_same rows job (Some new) None l) ∙ ap (row (set rows job (Some new))) (sym e) ∙ o.is in
    let is : new ≡ o.held = cc in
    o.unfed (subst (Fed supply) is fed))
    (λ (ne : o.job ≢ job). kept (record { job = o.job; held = o.held; is = sym (get_or-set_other rows job o.job (Some new) None ne) ∙ o.is; unfed = o.unfed }))
    (cases_eq o.job job))
    (λ (l : length rows ≤ job). kept (subst (Overdrawn supply) (set_past rows job (Some new) l) o))
    (cases_lt job (length rows))
