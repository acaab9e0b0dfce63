-- A planner is as the list of its calls says.
use Rattle.std.proofs.Common.{◌≡◌, ℕ, ◌+◌, Bool, List, [], ◌∷◌, length, None, Option, sym, refl, ap, ◌∙◌, arith}
use Rattle.jobs.specs.declared.refusal.Refusal.{Refusal}
use Rattle.workshops.specs.Workshops.{Meaning, Lawful}
use Rattle.master.specs.Tariffs.{replaced}
use Rattle.judging.specs.declared.outcome.Outcome.{Outcome}
use Rattle.judging.specs.declared.outcome.Outcome.TheVariants.{Agreed, Cut as Cutting, Stopped as Stopping, Full as Filling}
use Rattle.planner.specs.Calls.{Call, Price, Bar, Grant, Propose, Judge, Answer, Refused, Event, event, if_refused, reports}
use Rattle.planner.specs.States.{State, fresh}
use Rattle.planner.specs.Steps.{sizes_refusal, end_of, Accepts, Step}
use Rattle.planner.specs.Steps.Accepts.{price, bar, grant, proposal, none, judgement}
use Rattle.planner.specs.Steps.Step.{refused, accepted}
use Rattle.planner.specs.Runs.{price_after, price_now, barred_after, barred_now, pending_after, pending_now, judgements_after, judgements, reported}
use Rattle.planner.proofs.Judged.{tallied}
use Rattle.planner.proofs.Upright.{Upright, judged_end}

-- a refused call says nothing new
price_refused : (c : Call) (e : Refusal) (old : ℕ → ℕ → ℕ) → price_after c (Refused e) old ≡ old
price_refused (Price job place amount) e old = refl
price_refused (Bar job place b) e old = refl
price_refused (Grant amount) e old = refl
price_refused Propose e old = refl
price_refused (Judge row cost) e old = refl

barred_refused : (c : Call) (e : Refusal) (old : ℕ → ℕ → Bool) → barred_after c (Refused e) old ≡ old
barred_refused (Price job place amount) e old = refl
barred_refused (Bar job place b) e old = refl
barred_refused (Grant amount) e old = refl
barred_refused Propose e old = refl
barred_refused (Judge row cost) e old = refl

pending_refused : (c : Call) (e : Refusal) (old : Option (List ℕ × ℕ)) → pending_after c (Refused e) old ≡ old
pending_refused (Price job place amount) e old = refl
pending_refused (Bar job place b) e old = refl
pending_refused (Grant amount) e old = refl
pending_refused Propose e old = refl
pending_refused (Judge row cost) e old = refl

judgements_refused : (c : Call) (e : Refusal) (old : ℕ) → judgements_after c (Refused e) old ≡ old
judgements_refused (Price job place amount) e old = refl
judgements_refused (Bar job place b) e old = refl
judgements_refused (Grant amount) e old = refl
judgements_refused Propose e old = refl
judgements_refused (Judge row cost) e old = refl

-- the end of a judgement is no refusal
end_accepted : {X : Type 0} (row : List ℕ) (cost round : ℕ) (o : Outcome) (x y : X) → if_refused (end_of row cost round o) x y ≡ y
end_accepted row cost round Agreed x y = refl
end_accepted row cost round (Cutting added) x y = refl
end_accepted row cost round (Stopping fault added) x y = refl
end_accepted row cost round (Filling place added) x y = refl

end_reports : (row : List ℕ) (cost round : ℕ) (o : Outcome) → reports (end_of row cost round o) ≡ tallied o
end_reports row cost round Agreed = refl
end_reports row cost round (Cutting added) = refl
end_reports row cost round (Stopping fault added) = refl
end_reports row cost round (Filling place added) = refl

module _ {W J : Type 0} (m : Meaning W) (joins : J → ℕ → ℕ → ℕ) (w : W) (measure : J) (n : ℕ) where
  pub record Logged (log : List Event) (s : State W J) : Type 0 where
    pub measured : s.measure ≡ measure
    pub jobs : s.jobs ≡ n
    pub prices : s.price ≡ price_now log
    pub bars : s.barred ≡ barred_now log
    pub pending : s.pending ≡ pending_now log
    pub round : s.round ≡ judgements log
    pub number : length s.cuts ≡ reported log

module _ {W J : Type 0} (m : Meaning W) (joins : J → ℕ → ℕ → ℕ) (laws : Lawful m) (w : W) (measure : J) (n : ℕ) where
  pub logged_fresh : Logged m joins w measure n [] (fresh w measure n)
  logged_fresh = record { measured = refl; jobs = refl; prices = refl; bars = refl; pending = refl; round = refl; number = refl }

  logged_accepted : (log : List Event) (s t : State W J) (c : Call) (a : Answer) → Upright m joins w measure n s → Logged m joins w measure n log s
      → sizes_refusal m s ≡ None → Accepts m joins s c a t → Logged m joins w measure n (event c a ∷ log) t
  logged_accepted log s t c a u l busy (price job place amount e) = record {
    measured = l.measured;
    jobs = l.jobs;
    bars = l.bars;
    pending = refl;
    round = l.round;
    number = omega (arith, l.number);
    prices = ap (λ (old : ℕ → ℕ → ℕ). replaced old job place amount) l.prices;
  }
  logged_accepted log s t c a u l busy (bar job place b e) = record {
    measured = l.measured;
    jobs = l.jobs;
    prices = l.prices;
    pending = refl;
    round = l.round;
    number = omega (arith, l.number);
    bars = ap (λ (old : ℕ → ℕ → Bool). replaced old job place b) l.bars;
  }
  logged_accepted log s t c a u l busy (grant amount v g) = record {
    measured = l.measured;
    jobs = l.jobs;
    prices = l.prices;
    bars = l.bars;
    pending = l.pending;
    round = l.round;
    number = omega (arith, l.number);
  }
  logged_accepted log s t c a u l busy (proposal row cost some b) = record {
    measured = l.measured;
    jobs = l.jobs;
    prices = l.prices;
    bars = l.bars;
    pending = refl;
    round = l.round;
    number = omega (arith, l.number);
  }
  logged_accepted log s t c a u l busy (none some h) = record {
    measured = l.measured;
    jobs = l.jobs;
    prices = l.prices;
    bars = l.bars;
    pending = refl;
    round = l.round;
    number = omega (arith, l.number);
  }
  logged_accepted log s t c a u l busy (judgement row cost o v cuts pend e) =
      let k = judged_end m joins laws w measure n s row cost o v cuts u busy pend e in
      record {
        measured = l.measured;
        jobs = l.jobs;
        prices = l.prices;
        bars = l.bars;
        pending = sym (end_accepted row cost (s.round + 1) o (pending_now log) None);
        round = ap (λ (i : ℕ). i + 1) l.round ∙ sym (end_accepted row cost (s.round + 1) o (judgements log) (judgements log + 1));
        number = omega (arith, k.number, l.number, end_reports row cost (s.round + 1) o);
      }

  pub logged_step : (log : List Event) (s t : State W J) (c : Call) (a : Answer) → Upright m joins w measure n s → Logged m joins w measure n log s → Step m joins s c a t → Logged m joins w measure n (event c a ∷ log) t
  logged_step log s t c a u l (refused e r) = record {
    measured = l.measured;
    jobs = l.jobs;
    prices = l.prices ∙ sym (price_refused c e (price_now log));
    bars = l.bars ∙ sym (barred_refused c e (barred_now log));
    pending = l.pending ∙ sym (pending_refused c e (pending_now log));
    round = l.round ∙ sym (judgements_refused c e (judgements log));
    number = omega (arith, l.number);
  }
  logged_step log s t c a u l (accepted b s' busy h) = logged_accepted log s t c a u l busy h
