-- What keeps count and families.
use Rattle.std.specs.Prelude.{◌≡◌, refl}
use Rattle.std.proofs.Common.{sym, ap, subst, ◌∙◌}
use Rattle.workshops.specs.Workshops.{Meaning, Kept, Unmoved}

-- the same value
pub kept_same : {W : Type 0} (m : Meaning W) (w v : W) → v ≡ w → Kept m w v
kept_same {W} m w v e = subst (λ (x : W). Kept m w x) (sym e) (record { count = refl; family = λ p s l. (λ f. f, λ f. f) })

pub kept_trans : {W : Type 0} (m : Meaning W) (w u v : W) → Kept m w u → Kept m u v → Kept m w v
kept_trans m w u v k l = record {
  count = l.count ∙ k.count;
  family = λ p s lt.
      let next = l.family p s (subst (λ n. Prim.Native.Nat.◌<◌ p n) (sym k.count) lt) in
      (λ f. next.0 ((k.family p s lt).0 f), λ f. (k.family p s lt).1 (next.1 f));
}

pub unmoved_same : {W : Type 0} (m : Meaning W) (w v : W) → v ≡ w → Unmoved m w v
unmoved_same {W} m w v e p s l = ap (λ (x : W). m.stance x p s) e
