-- What each call does is what a call promises.
use Rattle.std.proofs.Common.{◌≡◌, ℕ, ◌+◌, Bool, true, false, ◌&&◌, eqb, List, [], Some, None, Ok, Err, Option, Result, ◌≢◌, Decides, sym, refl, ap, ◌∙◌, subst}
use Rattle.std.proofs.lemmas.Bool.{false≢true}
use Rattle.std.proofs.lemmas.Bool.Decides.{Decides-eqb}
use Rattle.std.specs.Option.{option_eq, MatchOption, IsSomeAnd}
use Rattle.std.specs.Result.{IsErrAnd}
use Rattle.std.specs.Str.{bytes_eq}
use mathlib.Core.Path.{fun_ext}
use Rattle.jobs.specs.declared.refusal.Refusal.{Refusal}
use Rattle.jobs.specs.Refusals.{Answered}
use Rattle.jobs.specs.Words.{Exactly}
use Rattle.workshops.specs.Workshops.{Meaning, Lawful}
use Rattle.master.specs.Refused.{pair_refusal, price_refusal}
use Rattle.master.specs.Tables.{held}
use Rattle.master.specs.Tariffs.{job_count, place_count, price_of, barred_in, replaced, Alike, Blank, PricedAt, BarredAt}
use Rattle.master.specs.Master.{Best, NoCandidate, Finds}
use Rattle.master.specs.Rows.{row_places}
use Rattle.master.specs.declared.priced.Priced.{Priced}
use Rattle.master.specs.declared.tariff.Tariff.{Tariff}
use Rattle.master.specs.declared.cut.Cut.{Cut}
use Rattle.master.proofs.SameRows.{row_eq}
use Rattle.judging.specs.declared.outcome.Outcome.{Outcome}
use Rattle.judging.specs.declared.outcome.Outcome.TheVariants.{Agreed, Cut as Cutting, Stopped as Stopping, Full as Filling}
use Rattle.planner.specs.declared.answers.Proposal.{Proposal}
use Rattle.planner.specs.declared.planner.Planner.{Planner}
use Rattle.planner.specs.Views.{offer, state, done, proposing}
use Rattle.planner.specs.Calls.{Call, Price, Bar, Propose, Answer, Refused, Done, Proposed, Nothing}
use Rattle.planner.specs.States.{State, repriced, with_price, with_bar, with_pending, fresh}
use Rattle.planner.specs.Steps.{last_round, sizes_refusal, end_of, Refuses, Accepts, Step, refused, accepted}
use Rattle.planner.specs.Steps.Refuses.{idle, price as price_refused, bar as bar_refused}
use Rattle.planner.specs.Steps.Accepts.{price as price_accepted, bar as bar_accepted, grant as grant_accepted, proposal as proposal_accepted, none as none_accepted, judgement as judgement_accepted}
use Rattle.planner.specs.Promises.{Serves, Sized, Reprices}
use Rattle.planner.specs.Promises.Reprices.{idle as idle_repriced, refused as refused_repriced, accepted as accepted_repriced}
use Rattle.planner.proofs.RunLaw.{runs_on}
use Rattle.planner.proofs.Upright.{no_some, same_pair}

-- a refused answer says which refusal it was, and an accepted one that there was none
pub answered_err : {T : Type 0} (o : Option Refusal) (e : Refusal) (P : T → Type 0) → Answered o (Err e) P → o ≡ Some e
answered_err (Some d) e P h = cc
answered_err None e P h = absurd h

pub answered_ok : {T : Type 0} (o : Option Refusal) (x : T) (P : T → Type 0) → Answered o (Ok x) P → (o ≡ None) × P x
answered_ok (Some d) x P h = cc
answered_ok None x P h = (refl, h)

pub answered_map : {T : Type 0} (o : Option Refusal) (r : Result T Refusal) (P Q : T → Type 0) → ((x : T) → P x → Q x) → Answered o r P → Answered o r Q
answered_map (Some e) r P Q f h = h
answered_map None (Ok x) P Q f h = f x h
answered_map None (Err e) P Q f h = h

-- what a `?` returns
pub left : {T : Type 0} (r : Result T Refusal) (e : Refusal) → IsErrAnd r (λ d. d ≡ e) → r ≡ Err e
left (Ok x) e h = absurd h
left (Err d) e h = ap Err h

-- tables with the same entries are the same
pub same_table : {X : Type 0} (a b : ℕ → ℕ → X) → Alike a b → a ≡ b
same_table a b h = fun_ext (λ j. fun_ext (λ p. h j p))

-- an answer that is exact of one thing and decides another is exact of both
module _ (R : Type 0) {P Q : Type 0} (f : P → Q → R) (g : R → P) (h : R → Q) where
  exactly_and : (a b : Bool) → Exactly a P → Decides b Q → Exactly (a && b) R
  exactly_and true true p q = f p (q.0 refl)
  exactly_and true false p q = λ r. false≢true (q.1 (h r))
  exactly_and false b p q = λ r. p (g r)

-- what == of the pending row with its cost and another says
pub pending_eq : (eq : Priced → Priced → Bool) → ((x y : Priced) → eq x y ≡ ((bytes_eq x.row.places y.row.places && eqb x.row.jobs y.row.jobs) && eqb x.cost y.cost))
    → (o : Option Priced) (y : Priced) (r : Bool) → r ≡ option_eq eq o (Some y) → Exactly r (offer o ≡ Some (row_places y.row, y.cost))
pending_eq eq means None y r e = subst (λ (b : Bool). Exactly b (offer None ≡ Some (row_places y.row, y.cost))) (sym e) (no_some (row_places y.row, y.cost))
pending_eq eq means (Some x) y r e =
    let both = exactly_and (offer (Some x) ≡ Some (row_places y.row, y.cost)) (λ p q. cc)
    (λ k. (same_pair _ _ _ _ k).0) (λ k. (same_pair _ _ _ _ k).1)
    (bytes_eq x.row.places y.row.places && eqb x.row.jobs y.row.jobs) (eqb x.cost y.cost) (row_eq x.row y.row _ refl) (Decides-eqb x.cost y.cost) in
    subst (λ (b : Bool). Exactly b (offer (Some x) ≡ Some (row_places y.row, y.cost))) (sym (e ∙ means x y)) both

-- an accepted call answers no refusal
never_refused : {W J : Type 0} (m : Meaning W) (joins : J → ℕ → ℕ → ℕ) (s t : State W J) (c : Call) (a : Answer) (e : Refusal) → Accepts m joins s c a t → a ≡ Refused e → ⊥
never_refused m joins s t c a e (price_accepted job place amount h) is = cc
never_refused m joins s t c a e (bar_accepted job place b h) is = cc
never_refused m joins s t c a e (grant_accepted amount v h) is = cc
never_refused m joins s t c a e (proposal_accepted row cost some h) is = cc
never_refused m joins s t c a e (none_accepted some h) is = cc
never_refused m joins s t c a e (judgement_accepted row cost o v cuts pend h) is = of o is
  where
    of : (o : Outcome) → end_of row cost (s.round + 1) o ≡ Refused e → ⊥
    of Agreed k = cc
    of (Cutting added) k = cc
    of (Stopping fault added) k = cc
    of (Filling place added) k = cc

module _ {W J : Type 0} (m : Meaning W) (joins : J → ℕ → ℕ → ℕ) (laws : Lawful m) (p : Planner W J) where
  -- a call that is refused
  pub refused_serves : (c : Call) (a : Answer) (e : Refusal) → a ≡ Refused e → Refuses m joins (state p) c e → Serves m joins p c a p
  refused_serves c a e is why =
      let step : Step m joins (state p) c a (state p) = subst (λ (b : Answer). Step m joins (state p) c b (state p)) (sym is) (refused e why) in
      record {
        step = step;
        law = λ w measure n log run. runs_on m joins laws w measure n log (state p) (state p) c a run step;
        same = λ d f. refl;
      }

  -- a call that is accepted
  pub accepted_serves : (q : Planner W J) (t : State W J) (c : Call) (a b : Answer) → state q ≡ t → a ≡ b → sizes_refusal m (state p) ≡ None → Accepts m joins (state p) c b t → Serves m joins p c a q
  accepted_serves q t c a b e is none h =
      let at_t : Step m joins (state p) c a t = subst (λ (x : Answer). Step m joins (state p) c x t) (sym is) (accepted b t none h) in
      let step : Step m joins (state p) c a (state q) = subst (λ (x : State W J). Step m joins (state p) c a x) (sym e) at_t in
      record {
        step = step;
        law = λ w measure n log run. runs_on m joins laws w measure n log (state p) (state q) c a run step;
        same = λ d f. absurd (never_refused m joins (state p) t c b d h (sym is ∙ f));
      }

  -- a call of an idle planner
  pub idle_serves : {U : Type 0} (c : Call) (e : Refusal) (P : U → Type 0) → Answered (sizes_refusal m (state p)) (Err e) P → Serves m joins p c (Refused e) p
  idle_serves c e P h = refused_serves c (Refused e) e refl (idle c e (answered_err (sizes_refusal m (state p)) e P h))

  -- what holds at the sizes and tables of the planner's tariff at its sizes holds at its own
  at_tables : (t : Tariff) → Sized m p t → (P : ℕ → ℕ → (ℕ → ℕ → ℕ) → (ℕ → ℕ → Bool) → Type 0)
      → P (job_count t) (place_count t) (price_of t) (barred_in t) → P p.jobs (m.count p.workshop) (price_of p.tariff) (barred_in p.tariff)
  at_tables t z P h =
      subst (λ (n : ℕ). P n (m.count p.workshop) (price_of p.tariff) (barred_in p.tariff)) z.jobs_are
      (subst (λ (n : ℕ). P (job_count t) n (price_of p.tariff) (barred_in p.tariff)) z.places_are
      (subst (λ (x : ℕ → ℕ → ℕ). P (job_count t) (place_count t) x (barred_in p.tariff)) (same_table (price_of t) (price_of p.tariff) z.prices_are)
      (subst (λ (x : ℕ → ℕ → Bool). P (job_count t) (place_count t) (price_of t) x) (same_table (barred_in t) (barred_in p.tariff) z.bars_are) h)))

  -- a call that changes the tariff, refused there as `why` says
  module _ (c : Call) (why : ℕ → ℕ → Option Refusal) (t : State W J) (sets : Tariff → Result (Unit {0}) Refusal → Tariff → Type 0)
      (refuses : (e : Refusal) → sizes_refusal m (state p) ≡ None → why p.jobs (m.count p.workshop) ≡ Some e → Refuses m joins (state p) c e)
      (accepts : why p.jobs (m.count p.workshop) ≡ None → Accepts m joins (state p) c Done t)
      (means : (a b : Tariff) (r : Result (Unit {0}) Refusal) → Sized m p a → sets a r b → Answered (why (job_count a) (place_count a)) r (λ _. repriced (state p) (price_of b) (barred_in b) ≡ t)) where
    repriced_serves : (r : Result (Unit {0}) Refusal) (q : Planner W J) → Reprices m sets p r q → Serves m joins p c (done r) q
    repriced_serves r q (idle_repriced e h) = refused_serves c (Refused e) e refl (idle c e h)
    repriced_serves r q (refused_repriced a b e none z h) =
        refused_serves c (Refused e) e refl (refuses e none
        (at_tables a z (λ n k x y. why n k ≡ Some e) (answered_err _ e _ (means a b (Err e) z h))))
    repriced_serves r q (accepted_repriced a b q' none z h is) =
        let fine = answered_ok (why (job_count a) (place_count a)) tt (λ _. repriced (state p) (price_of b) (barred_in b) ≡ t) (means a b (Ok tt) z h) in
        accepted_serves q t c Done Done (is ∙ fine.1) refl none (accepts (at_tables a z (λ n k x y. why n k ≡ None) fine.0))

  pub price_serves : (job place amount : ℕ) (sets : Tariff → Result (Unit {0}) Refusal → Tariff → Type 0)
      → ((a b : Tariff) (r : Result (Unit {0}) Refusal) → sets a r b → Answered (price_refusal (job_count a) (place_count a) job place amount) r (λ _. PricedAt a job place amount b))
      → (r : Result (Unit {0}) Refusal) (q : Planner W J) → Reprices m sets p r q → Serves m joins p (Price job place amount) (done r) q
  price_serves job place amount sets post =
      repriced_serves (Price job place amount) (λ n k. price_refusal n k job place amount) (with_price (state p) job place amount) sets
      (price_refused job place amount)
      (price_accepted job place amount)
      (λ a b r z k. answered_map _ r _ _
      (λ _ set.
      let x : price_of b ≡ replaced (price_of p.tariff) job place amount =
      same_table _ _ set.prices_are ∙ ap (λ (old : ℕ → ℕ → ℕ). replaced old job place amount) (same_table _ _ z.prices_are) in
      let y : barred_in b ≡ barred_in p.tariff = same_table _ _ set.bars_are ∙ same_table _ _ z.bars_are in
      λ i. repriced (state p) (x i) (y i))
      (post a b r k))

  pub bar_serves : (job place : ℕ) (bar : Bool) (sets : Tariff → Result (Unit {0}) Refusal → Tariff → Type 0)
      → ((a b : Tariff) (r : Result (Unit {0}) Refusal) → sets a r b → Answered (pair_refusal (job_count a) (place_count a) job place) r (λ _. BarredAt a job place bar b))
      → (r : Result (Unit {0}) Refusal) (q : Planner W J) → Reprices m sets p r q → Serves m joins p (Bar job place bar) (done r) q
  bar_serves job place bar sets post =
      repriced_serves (Bar job place bar) (λ n k. pair_refusal n k job place) (with_bar (state p) job place bar) sets
      (bar_refused job place bar)
      (bar_accepted job place bar)
      (λ a b r z k. answered_map _ r _ _
      (λ _ set.
      let x : price_of b ≡ price_of p.tariff = same_table _ _ set.prices_are ∙ same_table _ _ z.prices_are in
      let y : barred_in b ≡ replaced (barred_in p.tariff) job place bar =
      same_table _ _ set.bars_are ∙ ap (λ (old : ℕ → ℕ → Bool). replaced old job place bar) (same_table _ _ z.bars_are) in
      λ i. repriced (state p) (x i) (y i))
      (post a b r k))

  pub propose_serves : (q : Planner W J) (t : Tariff) (found : Option Priced) (r : Option Proposal) → state q ≡ with_pending (state p) (offer found)
      → sizes_refusal m (state p) ≡ None → (p.round ≢ last_round) → Sized m p t → Finds (job_count t) (place_count t) (joins p.measure) (price_of t) (barred_in t) (held p.cuts) found
      → (makes : Priced → Proposal → Type 0) → ((x : Priced) (y : Proposal) → makes x y → y ≡ record { priced = x })
      → MatchOption found (r ≡ None) (λ x. IsSomeAnd r (makes x)) → Serves m joins p Propose (proposing (Ok r)) q
  propose_serves q t None r e none fresh z h makes made is =
      accepted_serves q (with_pending (state p) None) Propose (proposing (Ok r)) Nothing e (ap (λ (o : Option Proposal). proposing (Ok o)) is) none
      (none_accepted fresh (at_tables t z (λ n k price barred. NoCandidate n k barred (held p.cuts)) h))
  propose_serves q t (Some x) None e none fresh z h makes made is = absurd is
  propose_serves q t (Some x) (Some y) e none fresh z h makes made is =
      accepted_serves q (with_pending (state p) (offer (Some x))) Propose (proposing (Ok (Some y))) (Proposed (row_places x.row) x.cost) e
      (ap (λ (w : Proposal). proposing (Ok (Some w))) (made x y is)) none
      (proposal_accepted (row_places x.row) x.cost fresh
      (at_tables t z (λ n k price barred. Best n k (joins p.measure) price barred (held p.cuts) (row_places x.row) x.cost) h))

-- a planner just made is fresh
pub made_fresh : {W J : Type 0} (w : W) (measure : J) (n jobs places : ℕ) (t : Tariff) (cuts : List Cut) → Blank jobs places t → cuts ≡ []
    → ◌≡◌ {A = State W J}
    (record { workshop = w; measure = measure; jobs = n; price = price_of t; barred = barred_in t; cuts = cuts; pending = None; round = 0 })
    (fresh w measure n)
made_fresh w measure n jobs places t cuts blank e =
    let p = same_table (price_of t) (λ _ _. 0) blank.prices_are in
    let b = same_table (barred_in t) (λ _ _. false) blank.bars_are in
    λ i. record { workshop = w; measure = measure; jobs = n; price = p i; barred = b i; cuts = e i; pending = None; round = 0 }
