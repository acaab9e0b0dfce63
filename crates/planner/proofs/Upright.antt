-- What every planner that was made and then only called keeps true of itself, whatever the calls were.
use Rattle.std.proofs.Common.{◌≡◌, ℕ, ◌≤◌, Bool, true, false, ◌&&◌, leb, List, length, Some, None, Option, sym, refl, ap, ◌∙◌, subst, arith}
use Rattle.std.specs.List.{All}
use Rattle.std.proofs.lemmas.List.Elements.{All-nil}
use Rattle.std.proofs.lemmas.Bool.{leb-true, and_parts}
use Rattle.jobs.specs.Sets.{width}
use Rattle.jobs.specs.declared.refusal.Refusal.TheVariants.{JobsOutOfRange, PlacesOutOfRange}
use Rattle.workshops.specs.Workshops.{Meaning, Lawful}
use Rattle.master.specs.Master.{Best}
use Rattle.master.specs.Refused.{most_places, or_else, refused_unless, tariff_refusal}
use Rattle.master.specs.declared.cut.Cut.{Cut}
use Rattle.judging.specs.Judging.{Ends}
use Rattle.judging.specs.declared.outcome.Outcome.{Outcome}
use Rattle.planner.specs.Calls.{Call, Answer}
use Rattle.planner.specs.States.{State, fresh}
use Rattle.planner.specs.Steps.{places, sizes_refusal, BestOf, Accepts, Step}
use Rattle.planner.specs.Steps.Accepts.{price, bar, grant, proposal, none, judgement}
use Rattle.planner.specs.Steps.Step.{refused, accepted}
use Rattle.planner.specs.Laws.{Minimal}
use Rattle.planner.proofs.Keeping.{Faithful, faithful_same, faithful_granted}
use Rattle.planner.proofs.Judged.{Ended, ended}

-- nothing is pending, and something is
pub no_some : {X : Type 0} (x : X) → None ≡ Some x → ⊥
no_some x e = cc

pub same_pair : (row other : List ℕ) (cost cost' : ℕ) → ◌≡◌ {A = Option (List ℕ × ℕ)} (Some (row, cost)) (Some (other, cost')) → (row ≡ other) × (cost ≡ cost')
same_pair row other cost cost' e =
    let pair : ◌≡◌ {A = List ℕ × ℕ} (row, cost) (other, cost') = cc in
    (ap (λ (p : List ℕ × ℕ). p.0) pair, ap (λ (p : List ℕ × ℕ). p.1) pair)

-- a planner that is not idle has no more jobs than there are
pub few_jobs : (n places : ℕ) → tariff_refusal n places ≡ None → n ≤ width
few_jobs n places e = leb-true n width (and_parts (leb 1 n) (leb n width) (fine (leb 1 n && leb n width) e)).1
  where
    fine : (b : Bool) → or_else (refused_unless b JobsOutOfRange) (refused_unless (leb 1 places && leb places most_places) PlacesOutOfRange) ≡ None → b ≡ true
    fine true h = refl
    fine false h = absurd (no_some JobsOutOfRange (sym h))

module _ {W J : Type 0} (m : Meaning W) (joins : J → ℕ → ℕ → ℕ) (w : W) (measure : J) (n : ℕ) where
  pub record Upright (s : State W J) : Type 0 where
    pub faithful : Faithful m w s.workshop
    pub minimal : All (Minimal m joins w measure n) s.cuts
    -- what is pending is the best at the prices, bars and cuts held
    pub best : (row : List ℕ) (cost : ℕ) → s.pending ≡ Some (row, cost) → BestOf m joins s row cost

module _ {W J : Type 0} (m : Meaning W) (joins : J → ℕ → ℕ → ℕ) (laws : Lawful m) (w : W) (measure : J) (n : ℕ) where
  pub upright_fresh : m.invariant w → Upright m joins w measure n (fresh w measure n)
  upright_fresh good = record { faithful = faithful_same m w good; minimal = All-nil _; best = λ row cost e. absurd (no_some (row, cost) e) }

  -- how the judgement of the pending proposal ends
  pub judged_end : (s : State W J) (row : List ℕ) (cost : ℕ) (o : Outcome) (v : W) (cuts : List Cut) → Upright m joins w measure n s → sizes_refusal m s ≡ None
      → s.pending ≡ Some (row, cost) → Ends m s.workshop s.cuts row (places m joins s) o v cuts → Ended m joins w measure n row s.cuts o v cuts
  judged_end s row cost o v cuts u busy pend e =
      let b : BestOf m joins s row cost = u.best row cost pend in
      let short : length row ≤ width = omega (arith, b.candidate.assigns.jobs, few_jobs s.jobs (places m joins s) busy) in
      ended m joins laws w measure n row short s.workshop s.cuts u.faithful u.minimal b.candidate.obeys o v cuts
      (subst (λ (k : ℕ). Ends m s.workshop s.cuts row k o v cuts) u.faithful.kept.count e)

  upright_accepted : (s t : State W J) (c : Call) (a : Answer) → Upright m joins w measure n s → sizes_refusal m s ≡ None → Accepts m joins s c a t → Upright m joins w measure n t
  upright_accepted s t c a u busy (price job place amount e) = record { faithful = u.faithful; minimal = u.minimal; best = λ row cost z. absurd (no_some (row, cost) z) }
  upright_accepted s t c a u busy (bar job place b e) = record { faithful = u.faithful; minimal = u.minimal; best = λ row cost z. absurd (no_some (row, cost) z) }
  upright_accepted s t c a u busy (grant amount v g) =
      let f = faithful_granted m laws w s.workshop v amount u.faithful g in
      let same : m.count s.workshop ≡ m.count v = u.faithful.kept.count ∙ sym f.kept.count in
      record {
        faithful = f;
        minimal = u.minimal;
        best = λ row cost z. subst (λ (k : ℕ). Best s.jobs k (joins s.measure) s.price s.barred s.cuts row cost) same (u.best row cost z);
      }
  upright_accepted s t c a u busy (proposal row cost some b) = record {
    faithful = u.faithful;
    minimal = u.minimal;
    best = λ other cost' z.
        let same = same_pair row other cost cost' z in
        subst (λ (k : ℕ). BestOf m joins s other k) same.1 (subst (λ (r : List ℕ). BestOf m joins s r cost) same.0 b);
  }
  upright_accepted s t c a u busy (none some h) = record { faithful = u.faithful; minimal = u.minimal; best = λ row cost z. absurd (no_some (row, cost) z) }
  upright_accepted s t c a u busy (judgement row cost o v cuts pend e) =
      let k = judged_end s row cost o v cuts u busy pend e in
      record { faithful = k.faithful; minimal = k.minimal; best = λ other cost' z. absurd (no_some (other, cost') z) }

  pub upright_step : (s t : State W J) (c : Call) (a : Answer) → Upright m joins w measure n s → Step m joins s c a t → Upright m joins w measure n t
  upright_step s t c a u (refused e r) = u
  upright_step s t c a u (accepted b s' busy h) = upright_accepted s t c a u busy h
