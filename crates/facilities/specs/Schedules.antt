-- A bench can schedule a set exactly where its jobs can be lined up.
use Rattle.std.specs.Prelude.{◌≡◌, ℕ, zero, suc, ◌^◌, ◌<◌, ◌≤◌, cond, ◌⊎◌, List, [], ◌∷◌, length, Some, None, Option, ◌==◌, ◌≢◌, refl}
use Rattle.std.proofs.Common.{sym, ap, subst, ◌∙◌, inl, inr, ⊎_elim, arith}
use Rattle.std.proofs.lemmas.Bool.{cases_eq, cases_lt, eq-eqb, ne_eqb, cond-true, cond-false}
use Rattle.jobs.specs.Sets.{width, Has, Part, without, jobs_of}
use Rattle.jobs.proofs.Bits.{bit_fits}
use Rattle.jobs.proofs.Members.{has_or_not, without_members}
use Rattle.facilities.specs.declared.rows.Window.{Window}
use Rattle.facilities.specs.Benches.{MayStart, end, Schedule, Schedulable}
use Rattle.facilities.specs.Lines.{Lined}
use Rattle.facilities.specs.Orders.{earliest, end_from, start_from}
use Rattle.facilities.specs.Rows.{row}
use Rattle.facilities.specs.Trials.{Within}
use Rattle.facilities.specs.Counts.{count_without, count_none, none_count, without_fits}

-- one row
earliest_late : (o : Option Window) (t : ℕ) → t ≤ earliest o t
earliest_late None t = omega arith
earliest_late (Some w) t = omega arith

end_late : (o : Option Window) (s : ℕ) → s ≤ end o s
end_late None s = omega arith
end_late (Some w) s = omega arith

end_later : (o : Option Window) (s : ℕ) → MayStart o s → s < end o s
end_later None s h = absurd h
end_later (Some w) s h = omega (arith, w.ok)

end_mono : (o : Option Window) (a s : ℕ) → a ≤ s → end o a ≤ end o s
end_mono None a s l = l
end_mono (Some w) a s l = omega arith

earliest_least : (o : Option Window) (t s : ℕ) → MayStart o s → t ≤ s → earliest o t ≤ s
earliest_least None t s h l = l
earliest_least (Some w) t s h l = omega arith

starts_earlier : (o : Option Window) (t s : ℕ) → MayStart o s → t ≤ s → MayStart o (earliest o t)
starts_earlier None t s h l = h
starts_earlier (Some w) t s h l = (omega arith, omega arith)

-- a part of a set that has a schedule has one
pub part_schedule : (rows : List (Option Window)) (part whole : ℕ) → Part part whole → Schedulable rows whole → Schedulable rows part
part_schedule rows part whole p (s, h) = (s, record { fits = λ i a. h.fits i (p i a); apart = λ i j a b n. h.apart i j (p i a) (p j b) n })

module _ (rows : List (Option Window)) where
  -- job x starts at a, and the others as s says
  abbrev also : ℕ → ℕ → (ℕ → ℕ) → ℕ → ℕ
  also x a s i = cond (i == x) a (s i)

  also_this : (x a : ℕ) (s : ℕ → ℕ) (i : ℕ) → i ≡ x → also x a s i ≡ a
  also_this x a s i e = cond-true (i == x) a (s i) (eq-eqb i x e)

  also_other : (x a : ℕ) (s : ℕ → ℕ) (i : ℕ) → (i ≢ x) → also x a s i ≡ s i
  also_other x a s i n = cond-false (i == x) a (s i) (ne_eqb i x n)

  -- one job before the others, all of which start once it has ended
  module _ (set x a : ℕ) (s : ℕ → ℕ) (here : MayStart (row rows x) a) (later : Schedule rows (without set x) s)
      (low : (i : ℕ) → Has (without set x) i → end (row rows x) a ≤ s i) where
    others : (i : ℕ) → Has set i → (i ≢ x) → Has (without set x) i
    others i h n = (without_members set x i).1 (h, n)

    pub ends_first : (i : ℕ) → Has set i → (i ≢ x) → end (row rows x) a ≤ also x a s i
    ends_first i h n = subst (λ m. end (row rows x) a ≤ m) (sym (also_other x a s i n)) (low i (others i h n))

    first_apart : (i j : ℕ) → Has set j → i ≡ x → (j ≢ x) → end (row rows i) (also x a s i) ≤ also x a s j
    first_apart i j k e n =
        subst (λ m. end (row rows m) (also x a s m) ≤ also x a s j) (sym e)
        (subst (λ m. end (row rows x) m ≤ also x a s j) (sym (also_this x a s x refl)) (ends_first j k n))

    pub first_then : Schedule rows set (also x a s)
    first_then = record {
      fits = λ i h. ⊎_elim
          (λ e. subst (MayStart (row rows i)) (sym (also_this x a s i e)) (subst (λ m. MayStart (row rows m) a) (sym e) here))
          (λ n. subst (MayStart (row rows i)) (sym (also_other x a s i n)) (later.fits i (others i h n)))
          (cases_eq i x);
      apart = λ i j h k d. ⊎_elim
          (λ e. inl (first_apart i j k e (λ f. d (e ∙ sym f))))
          (λ n. ⊎_elim
          (λ e. inr (first_apart j i h e n))
          (λ m. subst (λ z. (end (row rows i) z ≤ also x a s j) ⊎ (end (row rows j) (also x a s j) ≤ z)) (sym (also_other x a s i n))
          (subst (λ z. (end (row rows i) (s i) ≤ z) ⊎ (end (row rows j) z ≤ s i)) (sym (also_other x a s j m))
          (later.apart i j (others i h n) (others j k m) d)))
          (cases_eq j x))
          (cases_eq i x);
    }

  -- the hours of a line of all jobs are a schedule
  pub scheduled : (xs : List ℕ) (set t : ℕ) → set < 2 ^ width → Lined rows set t xs → length xs ≡ length (jobs_of set) →
      Schedule rows set (start_from rows t xs) × ((i : ℕ) → Has set i → t ≤ start_from rows t xs i)
  scheduled [] set t b l n =
      let none : (i : ℕ) → Has set i → ⊥ = λ i. count_none set i b (sym n) in
      (record { fits = λ i h. absurd (none i h); apart = λ i j h. absurd (none i h) }, λ i h. absurd (none i h))
  scheduled (x ∷ xs) set t b l n =
      let a = earliest (row rows x) t in
      let s = start_from rows (end_from (row rows x) t) xs in
      let later = scheduled xs (without set x) (end_from (row rows x) t) (without_fits set x b) l.1 (omega (arith, n, count_without set x b l.0.waits)) in (
        first_then set x a s l.0.fits later.0 later.1,
        λ i h. ⊎_elim
            (λ e. subst (λ m. t ≤ m) (sym (also_this x a s i e)) (earliest_late (row rows x) t))
            (λ n. omega (arith, ends_first set x a s l.0.fits later.0 later.1 i h n, earliest_late (row rows x) t, end_late (row rows x) a))
            (cases_eq i x),
      )

-- of the jobs below n, one that starts first, if there is any
least : (set : ℕ) (start : ℕ → ℕ) (n : ℕ) →
    ((i : ℕ) → i < n → Has set i → ⊥) ⊎ ((m : ℕ) × (m < n) × Has set m × ((j : ℕ) → j < n → Has set j → start m ≤ start j))
least set start zero = inl (λ i l h. omega arith)
least set start (suc n) =
    ⊎_elim
    (λ h. ⊎_elim
    (λ none. inr (n, omega arith, h, λ j l k. ⊎_elim (λ e. omega (arith, ap start e)) (λ d. absurd (none j (omega arith) k)) (cases_eq j n)))
    (λ best. ⊎_elim
    (λ b. inr (n, omega arith, h, λ j l k. ⊎_elim (λ e. omega (arith, ap start e)) (λ d. omega (arith, best.3 j (omega arith) k)) (cases_eq j n)))
    (λ b. inr (best.0, omega (arith, best.1), best.2, λ j l k. ⊎_elim (λ e. omega (arith, ap start e)) (λ d. best.3 j (omega arith) k) (cases_eq j n)))
    (cases_lt (start n) (start best.0)))
    (least set start n))
    (λ no_n. ⊎_elim
    (λ none. inl (λ i l h. ⊎_elim (λ e. no_n (subst (Has set) e h)) (λ d. none i (omega arith) h) (cases_eq i n)))
    (λ best. inr (best.0, omega (arith, best.1), best.2, λ j l k. ⊎_elim (λ e. absurd (no_n (subst (Has set) e k))) (λ d. best.3 j (omega arith) k) (cases_eq j n)))
    (least set start n))
    (has_or_not set n)

-- where there is a schedule, the jobs can be lined up as they start
pub lined_up : (n : ℕ) (rows : List (Option Window)) (set t : ℕ) (start : ℕ → ℕ) → set < 2 ^ width → length (jobs_of set) ≡ n → Schedule rows set start →
    ((i : ℕ) → Has set i → t ≤ start i) → (xs : List ℕ) × (length xs ≡ n) × Within width xs × Lined rows set t xs
lined_up zero rows set t start b e h low = ([], refl, tt, tt)
lined_up (suc n) rows set t start b e h low =
    ⊎_elim
    (λ none. let z : ⊥ = omega (arith, none_count set none) in absurd z)
    (λ best.
    let m = best.0 in
    let o = row rows m in
    let here = h.fits m best.2 in
    let al : earliest o t ≤ start m = earliest_least o t (start m) here (low m best.2) in
    let in_set : (j : ℕ) → Has (without set m) j → Has set j × (j ≢ m) = λ j. (without_members set m j).0 in
    let next : (j : ℕ) → Has (without set m) j → end_from o t ≤ start j = λ j k.
    let k' = in_set j k in
    ⊎_elim
    (λ l. omega (arith, l, end_mono o (earliest o t) (start m) al))
    (λ l. omega (arith, l, end_later (row rows j) (start j) (h.fits j k'.0), best.3 j (bit_fits width set j b k'.0) k'.0))
    (h.apart m j best.2 k'.0 (λ f. k'.1 (sym f))) in
    let rest = lined_up n rows (without set m) (end_from o t) start (without_fits set m b) (omega (arith, count_without set m b best.2))
    (record { fits = λ i k. h.fits i (in_set i k).0; apart = λ i j k l d. h.apart i j (in_set i k).0 (in_set j l).0 d }) next in
    (m ∷ rest.0, ap suc rest.1, (best.1, rest.2), (record { waits = best.2; fits = starts_earlier o t (start m) here (low m best.2) }, rest.3)))
    (least set start width)
