-- Where nothing is refused, the job and the place are there.
use Rattle.std.proofs.Common.{◌≡◌, ℕ, ◌<◌, Bool, true, false, ltb, leb, Some, None, Option, refl, arith, ltb-true}
use Rattle.jobs.specs.declared.refusal.Refusal.{Refusal}
use Rattle.jobs.specs.declared.refusal.Refusal.TheVariants.{NoSuchJob, NoSuchPlace, AmountTooLarge}
use Rattle.master.specs.Refused.{top_price, refused_unless, or_else, pair_refusal, price_refusal}

-- where nothing is refused, no check failed
unless_fine : (b : Bool) (e : Refusal) → None ≡ refused_unless b e → b ≡ true
unless_fine true e h = refl
unless_fine false e h = let z : ◌≡◌ {A = ℕ} 0 1 = cc in absurd (omega arith)

or_else_fine : (a b : Option Refusal) → None ≡ or_else a b → (None ≡ a) × (None ≡ b)
or_else_fine (Some e) b h = let z : ◌≡◌ {A = ℕ} 0 1 = cc in absurd (omega arith)
or_else_fine None b h = (refl, h)

pub pair_fine : (n m j p : ℕ) → None ≡ pair_refusal n m j p → (j < n) × (p < m)
pair_fine n m j p h =
    let both = or_else_fine (refused_unless (ltb j n) NoSuchJob) (refused_unless (ltb p m) NoSuchPlace) h in
    (ltb-true j n (unless_fine (ltb j n) NoSuchJob both.0), ltb-true p m (unless_fine (ltb p m) NoSuchPlace both.1))

pub price_fine : (n m j p a : ℕ) → None ≡ price_refusal n m j p a → (j < n) × (p < m)
price_fine n m j p a h = pair_fine n m j p (or_else_fine (pair_refusal n m j p) (refused_unless (leb a top_price) AmountTooLarge) h).0
