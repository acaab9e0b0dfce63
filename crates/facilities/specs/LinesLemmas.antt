-- A line as it grows by one job and gives one back.
use Rattle.std.specs.Prelude.{◌≡◌, ℕ, List, [], ◌∷◌, ◌++◌, Some, None, Option, refl}
use Rattle.std.proofs.Common.{sym, ap, subst, ◌∙◌}
use Rattle.std.specs.Coded.{×_prop, le_prop, Coded-set, coded_ℕ}
use Rattle.jobs.specs.Sets.{bits, without}
use Rattle.facilities.specs.declared.bench.line.Moment.{Moment}
use Rattle.facilities.specs.declared.bench.line.Step.{Step}
use Rattle.facilities.specs.declared.rows.Window.{Window}
use Rattle.facilities.specs.Lines.{Next, Lined, Later, chosen, Leads}
use Rattle.facilities.specs.Benches.{MayStart}
use Rattle.facilities.specs.Orders.{earliest, end_from}
use Rattle.facilities.specs.Rows.{row}

module _ (rows : List (Option Window)) where
  pub lined_front : (set t : ℕ) (xs ys : List ℕ) → Lined rows set t (xs ++ ys) → Lined rows set t xs
  lined_front set t [] ys l = tt
  lined_front set t (x ∷ xs) ys l = (l.0, lined_front (without set x) (end_from (row rows x) t) xs ys l.1)

  -- the jobs that can run once x has run are those that can run from the moment after x on
  same_lined : (m : Moment) (x : ℕ) (n : Moment) (xs : List ℕ) → Later rows m x n →
      Lined rows (bits n.left) n.hour xs ≡ Lined rows (without (bits m.left) x) (end_from (row rows x) m.hour) xs
  same_lined m x n xs l = ap (λ s. Lined rows s n.hour xs) l.rest ∙ ap (λ t. Lined rows (without (bits m.left) x) t xs) l.hour

  -- one step more
  pub leads_on : (m : Moment) (ss : List Step) (at : Moment) (x : ℕ) (n : Moment) → Leads rows m ss at → Later rows at x n →
      Leads rows m (ss ++ record { job = x; before = at } ∷ []) n
  leads_on m [] at x n e later = (n, e, subst (λ a. Later rows a x n) e later, refl)
  leads_on m (s ∷ ss) at x n (k, e, first, rest) later = (k, e, first, leads_on k ss at x n rest later)

  -- and one less
  pub leads_back : (m : Moment) (ss : List Step) (s : Step) (at : Moment) → Leads rows m (ss ++ s ∷ []) at → Leads rows m ss s.before
  leads_back m [] s at l = l.1
  leads_back m (r ∷ ss) s at (k, e, first, rest) = (k, e, first, leads_back k ss s at rest)

  -- what can be next at the moment to which the steps lead can run after their jobs
  pub lined_on : (m : Moment) (ss : List Step) (at : Moment) (x : ℕ) → Leads rows m ss at → Next rows (bits at.left) at.hour x →
      Lined rows (bits m.left) m.hour (chosen ss ++ x ∷ [])
  lined_on m [] at x e n = (subst (λ (a : Moment). Next rows (bits a.left) a.hour x) e n, tt)
  lined_on m (s ∷ ss) at x (k, e, first, rest) n =
      (first.can, subst (λ T. T) (same_lined m s.job k (chosen ss ++ x ∷ []) first) (lined_on k ss at x rest n))

  pub lined_last : (m : Moment) (ss : List Step) (at : Moment) (x : ℕ) → Leads rows m ss at → Lined rows (bits m.left) m.hour (chosen ss ++ x ∷ []) →
      Next rows (bits at.left) at.hour x
  lined_last m [] at x e l = subst (λ (a : Moment). Next rows (bits a.left) a.hour x) (sym e) l.0
  lined_last m (s ∷ ss) at x (k, e, first, rest) l =
      lined_last k ss at x rest (subst (λ T. T) (sym (same_lined m s.job k (chosen ss ++ x ∷ []) first)) l.1)

-- that steps lead somewhere has one proof at most
moment_set : IsSet Moment
moment_set a b p q = λ j i. record {
  left = record { bits = Coded-set coded_ℕ (bits a.left) (bits b.left) (ap (λ (m : Moment). bits m.left) p) (ap (λ (m : Moment). bits m.left) q) j i };
  hour = Coded-set coded_ℕ a.hour b.hour (ap (λ (m : Moment). m.hour) p) (ap (λ (m : Moment). m.hour) q) j i;
}

one_prop : (P : Moment → Type 0) → ((m : Moment) → IsProp (P m)) → ((m n : Moment) → P m → P n → m ≡ n) → IsProp ((m : Moment) × P m)
one_prop P prop same x y = subst (λ (n : Moment). (q : P n) → x ≡ (n, q)) (same x.0 y.0 x.1 y.1) (λ q i. (x.0, prop x.0 x.1 q i)) y.1

may_start_prop : (o : Option Window) (t : ℕ) → IsProp (MayStart o t)
may_start_prop None t = λ a b. absurd a
may_start_prop (Some w) t = ×_prop le_prop le_prop

module _ (rows : List (Option Window)) where
  next_prop : (set t x : ℕ) → IsProp (Next rows set t x)
  next_prop set t x a b = λ i. record {
    waits = Coded-set coded_ℕ _ _ a.waits b.waits i;
    fits = may_start_prop (row rows x) (earliest (row rows x) t) a.fits b.fits i;
  }

  later_prop : (m : Moment) (x : ℕ) (n : Moment) → IsProp (Later rows m x n)
  later_prop m x n a b = λ i. record {
    can = next_prop (bits m.left) m.hour x a.can b.can i;
    rest = Coded-set coded_ℕ _ _ a.rest b.rest i;
    hour = Coded-set coded_ℕ _ _ a.hour b.hour i;
  }

  same_later : (m : Moment) (x : ℕ) (k n : Moment) → Later rows m x k → Later rows m x n → k ≡ n
  same_later m x k n a b =
      let rest : bits k.left ≡ bits n.left = a.rest ∙ sym b.rest in
      let hour : k.hour ≡ n.hour = a.hour ∙ sym b.hour in
      λ i. record { left = record { bits = rest i }; hour = hour i }

  pub leads_prop : (m : Moment) (ss : List Step) (n : Moment) → IsProp (Leads rows m ss n)
  leads_prop m [] n x y = moment_set n m x y
  leads_prop m (s ∷ ss) n x y =
      let p = one_prop
      (λ k. (s.before ≡ m) × Later rows m s.job k × Leads rows k ss n)
      (λ k a b i. (moment_set s.before m a.0 b.0 i, later_prop m s.job k a.1 b.1 i, leads_prop k ss n a.2 b.2 i))
      (λ k l a b. same_later m s.job k l a.1 b.1)
      (x.0, (x.1, x.2, x.3)) (y.0, (y.1, y.2, y.3)) in
      λ i. ((p i).0, (p i).1.0, (p i).1.1, (p i).1.2)
