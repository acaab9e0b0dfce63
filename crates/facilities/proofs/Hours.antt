-- A table of all hours after a job's hours in it were changed.
use Rattle.std.proofs.Common.{◌≡◌, ℕ, ◌+◌, ◌-◌, ◌<◌, ◌≤◌, List, length, sym, subst, arith}
use Rattle.std.proofs.lemmas.List.{places}
use borrow.Rule.Slice.PartMut.{put_mid, mid_of}
use Rattle.facilities.specs.Drawing.{drawn_inside, drawn_outside, hour_cases}
use Rattle.facilities.specs.Draws.{drawn}
use Rattle.facilities.specs.Usages.{at}

-- P says what an hour holds before, what the job draws then, and what the hour holds after
pub hours_changed : (P : ℕ → ℕ → ℕ → Type 0) (draw : ℕ → ℕ) (all part : List ℕ) (from end s takes : ℕ) → from ≡ s → end ≡ s + takes → end ≤ length all → length part ≡ takes →
    ((k : ℕ) → k < takes → P (at (mid_of from (end - from) all) k) (draw k) (at part k)) → ((n : ℕ) → P n 0 n) →
    (h : ℕ) → P (at all h) (drawn draw takes s h) (at (put_mid from (end - from) all part) h)
hours_changed P draw all part from end s takes low high fits n inside outside h =
    hour_cases s (s + takes) h (P (at all h) (drawn draw takes s h) (at (put_mid from (end - from) all part) h))
    (λ l m.
    let old : at (mid_of from (end - from) all) (h - s) ≡ at all h = grind (arith, places) in
    let new : at part (h - s) ≡ at (put_mid from (end - from) all part) h = grind (arith, places) in
    subst (λ b. P b (drawn draw takes s h) (at (put_mid from (end - from) all part) h)) old
    (subst (λ d. P (at (mid_of from (end - from) all) (h - s)) d (at (put_mid from (end - from) all part) h)) (sym (drawn_inside draw takes s h l m))
    (subst (λ a. P (at (mid_of from (end - from) all) (h - s)) (draw (h - s)) a) new (inside (h - s) (omega arith)))))
    (λ o.
    let same : at all h ≡ at (put_mid from (end - from) all part) h = grind (arith, places) in
    subst (λ a. P (at all h) (drawn draw takes s h) a) same (subst (λ d. P (at all h) d (at all h)) (sym (drawn_outside draw takes s h o)) (outside (at all h))))
