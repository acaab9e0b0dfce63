-- Each answer of a planner is right, given what it keeps true of itself and what its list says.
use Rattle.std.proofs.Common.{◌≡◌, ℕ, ◌+◌, ◌<◌, ◌≤◌, Bool, List, Some, None, sym, refl, ap, subst, ⊎_elim, arith}
use Rattle.std.specs.List.{All}
use Rattle.std.proofs.lemmas.List.Elements.{All-weaker, recursion_from_All}
use Rattle.jobs.specs.Sets.{bits}
use Rattle.jobs.specs.Words.{Same}
use Rattle.workshops.specs.Workshops.{Meaning, Lawful}
use Rattle.master.specs.Cuts.{Breaks}
use Rattle.master.specs.Master.{Candidate, Best, Earlier, NoCandidate}
use Rattle.master.specs.Rows.{Group, Before, costs}
use Rattle.master.specs.declared.cut.Cut.{Cut}
use Rattle.judging.specs.declared.outcome.Outcome.{Outcome}
use Rattle.judging.specs.declared.outcome.Outcome.TheVariants.{Agreed, Cut as Cutting, Stopped as Stopping, Full as Filling}
use Rattle.planner.specs.Calls.{Call, Judge, Answer, Refused, Done, Proposed, Nothing, Planned, CutOff, StoppedAt, TableFull, Event, Ending}
use Rattle.planner.specs.States.{State, judged}
use Rattle.planner.specs.Steps.{places, sizes_refusal, BestOf, end_of, Accepts, Step}
use Rattle.planner.specs.Steps.Accepts.{price, bar, grant, proposal, none, judgement}
use Rattle.planner.specs.Steps.Step.{refused, accepted}
use Rattle.planner.specs.Runs.{price_now, barred_now}
use Rattle.planner.specs.Laws.{Feasible, Optimal, Minimal, Says}
use Rattle.planner.proofs.Groups.{group, grouped}
use Rattle.planner.proofs.Judged.{Tells}
use Rattle.planner.proofs.Upright.{Upright, judged_end}
use Rattle.planner.proofs.Logged.{Logged}

same_judged : (row other : List ℕ) (cost cost' : ℕ) → Judge row cost ≡ Judge other cost' → row ≡ other
same_judged row other cost cost' e = cc

planned_something : (row : List ℕ) (cost round : ℕ) → Planned row cost round ≡ Nothing → ⊥
planned_something row cost round e = cc

-- the best costs no more than any other candidate
best_least : (n m : ℕ) (joined prices : ℕ → ℕ → ℕ) (barred : ℕ → ℕ → Bool) (cuts : List Cut) (row : List ℕ) (cost : ℕ) → Best n m joined prices barred cuts row cost
    → (other : List ℕ) → Candidate n m barred cuts other → cost ≤ costs joined prices other
best_least n m joined prices barred cuts row cost b other c = ⊎_elim
    (λ (same : row ≡ other). omega (arith, b.priced, ap (costs joined prices) same))
    (λ (earlier : Earlier cost row (costs joined prices other) other). ⊎_elim
    (λ (less : cost < costs joined prices other). omega arith)
    (λ (tie : (cost ≡ costs joined prices other) × Before row other). omega (arith, tie.0))
    earlier)
    (b.first other c)

module _ {W J : Type 0} (m : Meaning W) (joins : J → ℕ → ℕ → ℕ) (laws : Lawful m) (w : W) (measure : J) (n : ℕ) where
  -- what all places can schedule breaks no minimal cut
  feasible_candidate : (barred : ℕ → ℕ → Bool) (cuts : List Cut) → All (Minimal m joins w measure n) cuts → (row : List ℕ) → Feasible m joins w measure n barred row
      → Candidate n (m.count w) barred cuts row
  feasible_candidate barred cuts minimal row f = record {
    assigns = f.assigns;
    permitted = f.permitted;
    obeys = recursion_from_All (λ c. Breaks row c → ⊥) cuts (All-weaker (Minimal m joins w measure n) (λ c. Breaks row c → ⊥)
        (λ c min breaks.
        let whole = group c.place row in
        min.fails (laws.parts w c.place (bits c.set) whole min.place
        (λ job has. (grouped c.place row job).1 (breaks job has))
        (f.scheduled c.place whole min.place (grouped c.place row))))
        cuts minimal);
  }

  module _ (log : List Event) (s : State W J) (u : Upright m joins w measure n s) (l : Logged m joins w measure n log s) where
    -- what is best at the planner's own prices and bars is best at those of the list
    best_listed : (row : List ℕ) (cost : ℕ) → BestOf m joins s row cost → Best n (m.count w) (joins measure) (price_now log) (barred_now log) s.cuts row cost
    best_listed row cost b =
        let b₁ = subst (λ (k : ℕ). Best k (places m joins s) (joins s.measure) s.price s.barred s.cuts row cost) l.jobs b in
        let b₂ = subst (λ (k : ℕ). Best n k (joins s.measure) s.price s.barred s.cuts row cost) u.faithful.kept.count b₁ in
        let b₃ = subst (λ (k : J). Best n (m.count w) (joins k) s.price s.barred s.cuts row cost) l.measured b₂ in
        let b₄ = subst (λ (k : ℕ → ℕ → ℕ). Best n (m.count w) (joins measure) k s.barred s.cuts row cost) l.prices b₃ in
        subst (λ (k : ℕ → ℕ → Bool). Best n (m.count w) (joins measure) (price_now log) k s.cuts row cost) l.bars b₄

    none_listed : NoCandidate s.jobs (places m joins s) s.barred s.cuts → NoCandidate n (m.count w) (barred_now log) s.cuts
    none_listed h =
        let h₁ = subst (λ (k : ℕ). NoCandidate k (places m joins s) s.barred s.cuts) l.jobs h in
        let h₂ = subst (λ (k : ℕ). NoCandidate n k s.barred s.cuts) u.faithful.kept.count h₁ in
        subst (λ (k : ℕ → ℕ → Bool). NoCandidate n (m.count w) k s.cuts) l.bars h₂

    -- a proposal that every place can schedule is the best there is
    optimal : (row : List ℕ) (cost : ℕ) → s.pending ≡ Some (row, cost) → ((q set : ℕ) → q < m.count w → Group row q set → m.family w q set)
        → Optimal m joins w measure n (price_now log) (barred_now log) row cost
    optimal row cost pend scheduled =
        let b = best_listed row cost (u.best row cost pend) in
        record {
          feasible = record { assigns = b.candidate.assigns; permitted = b.candidate.permitted; scheduled = scheduled };
          bears = b.priced;
          least = λ other f. best_least n (m.count w) (joins measure) (price_now log) (barred_now log) s.cuts row cost b other (feasible_candidate (barred_now log) s.cuts u.minimal other f);
        }

    says_judged : (row : List ℕ) (cost : ℕ) (o : Outcome) (v : W) (cuts : List Cut) → s.pending ≡ Some (row, cost) → Tells m joins w measure n row o v cuts
        → Says m joins w measure n log (Judge row cost) (end_of row cost (s.round + 1) o) (judged s v cuts)
    says_judged row cost Agreed v cuts pend t = (refl, ap (λ (i : ℕ). i + 1) l.round, optimal row cost pend t)
    says_judged row cost (Cutting added) v cuts pend t = t
    says_judged row cost (Stopping fault added) v cuts pend t = (ap (λ (i : ℕ). i + 1) l.round, t.0, t.1)
    says_judged row cost (Filling place added) v cuts pend t =
        (t.0, t.1, λ other cost' set e g y. t.2 set (subst (λ (r : List ℕ). Group r place set) (sym (same_judged row other cost cost' e)) g) y)

    says_accepted : (t : State W J) (c : Call) (a : Answer) → sizes_refusal m s ≡ None → Accepts m joins s c a t → Says m joins w measure n log c a t
    says_accepted t c a busy (price job place amount e) = tt
    says_accepted t c a busy (bar job place b e) = tt
    says_accepted t c a busy (grant amount v g) = tt
    says_accepted t c a busy (proposal row cost some b) = best_listed row cost b
    says_accepted t c a busy (none some h) = λ row f. none_listed h row (feasible_candidate (barred_now log) s.cuts u.minimal row f)
    says_accepted t c a busy (judgement row cost o v cuts pend e) = says_judged row cost o v cuts pend (judged_end m joins laws w measure n s row cost o v cuts u busy pend e).tells

    pub says_step : (t : State W J) (c : Call) (a : Answer) → Step m joins s c a t → Says m joins w measure n log c a t
    says_step t c a (refused e r) = tt
    says_step t c a (accepted b s' busy h) = says_accepted t c a busy h

  -- what an ending says is right in both directions
  pub ends_rightly : (log : List Event) (t : State W J) (c : Call) (a : Answer) → Says m joins w measure n log c a t → Ending a
      → Same (a ≡ Nothing) ((row : List ℕ) → Feasible m joins w measure n (barred_now log) row → ⊥)
  ends_rightly log t c (Refused e) says end = absurd end
  ends_rightly log t c Done says end = absurd end
  ends_rightly log t c (Proposed row cost) says end = absurd end
  ends_rightly log t c Nothing says end = (λ e. says, λ h. refl)
  ends_rightly log t c (Planned row cost round) says end = (λ e. absurd (planned_something row cost round e), λ h. absurd (h row says.2.feasible))
  ends_rightly log t c (CutOff added) says end = absurd end
  ends_rightly log t c (StoppedAt fault round added) says end = absurd end
  ends_rightly log t c (TableFull place added) says end = absurd end
