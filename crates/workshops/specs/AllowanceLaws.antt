-- The laws of an allowance, from those of the workshop below.
use Rattle.std.specs.Prelude.{◌≡◌, ℕ, zero, suc, ◌<◌, ◌≤◌, Bool, Some, None, Option, refl}
use Rattle.std.proofs.Common.{sym, ap, subst, ◌∙◌, arith}
use Rattle.workshops.specs.Stances.{Stance, Ready, Stopped, deeper}
use Rattle.workshops.specs.Replies.{True}
use Rattle.workshops.specs.Workshops.{Meaning, Kept, Unmoved, Lawful}
use Rattle.workshops.specs.Allowances.{topped_up, paid, Charged, allowance}
use Rattle.workshops.specs.declared.allowance.Allowance.{Allowance}
use Rattle.workshops.specs.StanceFacts.{deeper_ready, deeper_bytes}
use Rattle.workshops.specs.KeptFacts.{kept_same, unmoved_same}

module _ {W : Type 0} (m : Meaning W) (law : Lawful m) where
  lift : (w v : Allowance W) → Kept m w.below v.below → Kept (allowance m) w v
  lift w v k = record { count = k.count; family = k.family }

  bytes_at : (left : ℕ) (st : Stance) → ((c d : ℕ) → st ≡ Stopped c d → (c ≤ 255) × (d ≤ 255)) → (c d : ℕ) → paid left st ≡ Stopped c d → (c ≤ 255) × (d ≤ 255)
  bytes_at zero st f c d h = let ec : 1 ≡ c = cc in let ed : 0 ≡ d = cc in (omega arith, omega arith)
  bytes_at (suc n) st f c d h = deeper_bytes st f c d h

  -- with something left the question was asked below
  below_at : (n : ℕ) (a : Option Bool) (w v : Allowance W) (p s : ℕ) → Charged (suc n) a (m.asks w.below p s a) p w v → m.asks w.below p s a v.below
  below_at n (Some y) w v p s h = h.0
  below_at n None w v p s h = h.0

  asked_at : (left : ℕ) (a : Option Bool) (w v : Allowance W) (p s : ℕ) → p < m.count w.below
      → Charged left a (m.asks w.below p s a) p w v → Kept (allowance m) w v
  asked_at zero a w v p s l h = kept_same (allowance m) w v h.1
  asked_at (suc n) a w v p s l h = lift w v (law.asked w.below v.below p s a l (below_at n a w v p s h))

  stopped_at : (left : ℕ) (w v : Allowance W) (p s : ℕ) → w.left ≡ left → p < m.count w.below
      → Charged left None (m.asks w.below p s None) p w v → Unmoved (allowance m) w v
  stopped_at zero w v p s e l h q t lq = unmoved_same (allowance m) w v h.1 q t lq
  stopped_at (suc n) w v p s e l h q t lq =
      let below = law.stopped w.below v.below p s l h.0 q t lq in
      let same : v.left ≡ w.left = h.1 ∙ sym e in
      cc

  sound_at : (left : ℕ) (a : Option Bool) (w v : Allowance W) (p s : ℕ) → p < m.count w.below
      → Charged left a (m.asks w.below p s a) p w v → True a (m.family w.below p s) → m.invariant w.below → m.invariant v.below
  sound_at zero a w v p s l h t i = subst (λ (x : Allowance W). m.invariant x.below) (sym h.1) i
  sound_at (suc n) a w v p s l h t i = law.sound w.below v.below p s a l (below_at n a w v p s h) t i

  ready_at : (left : ℕ) (st : Stance) → 0 < left → st ≡ Ready → paid left st ≡ Ready
  ready_at zero st l r = absurd (omega arith)
  ready_at (suc n) st l r = ap deeper r

  eased_at : (left : ℕ) (w v : Allowance W) (n p s : ℕ) → w.left ≡ left → m.grants w.below n v.below → v.left ≡ topped_up w.left n
      → p < m.count w.below → paid left (m.stance w.below p s) ≡ Ready → paid v.left (m.stance v.below p s) ≡ Ready
  eased_at zero w v n p s e g f l h = cc
  eased_at (suc k) w v n p s e g f l h =
      ready_at v.left (m.stance v.below p s) (omega arith) (law.eased w.below v.below n g p s l (deeper_ready _ h))

  pub allowance_lawful : Lawful (allowance m)
  allowance_lawful = record {
    few = λ w. law.few w.below;
    bytes = λ w p s c d l. bytes_at w.left (m.stance w.below p s) (λ c d. law.bytes w.below p s c d l) c d;
    parts = λ w. law.parts w.below;
    asked = λ w v p s a. asked_at w.left a w v p s;
    stopped = λ w v p s. stopped_at w.left w v p s refl;
    sound = λ w v p s a. sound_at w.left a w v p s;
    granted = λ w v n g. lift w v (law.granted w.below v.below n g.0);
    eased = λ w v n g p s. eased_at w.left w v n p s refl g.0 (g.1 p);
    carried = λ w v n g. law.carried w.below v.below n g.0;
  }
