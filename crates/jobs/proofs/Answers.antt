-- How an answer is shown to be the one defined.
use Rattle.std.proofs.Common.{◌≡◌, ℕ, ◌<◌, Bool, true, false, eqb, None, Ok, sym, refl, subst, lt-ltb, eqb-true}
use borrow.Author.Tests.{eqb-false}
use Rattle.jobs.specs.declared.refusal.Refusal.TheVariants.{NoSuchJob}
use Rattle.jobs.specs.Refusals.{Answered, unless}
use Rattle.jobs.specs.Sets.{width, job_refusal}
use Rattle.jobs.specs.Words.{Same, Exactly}

-- of a job below the width
pub accepted : {T : Type 0} (job : ℕ) (v : T) (P : T → Type 0) → job < width → P v → Answered (job_refusal job) (Ok v) P
accepted job v P l p = subst (λ b. Answered (unless b NoSuchJob None) (Ok v) P) (sym (lt-ltb job width l)) p

-- a test of numbers that holds exactly where P does
pub exactly_eqb : {P : Type 0} (a b : ℕ) → (a ≡ b → P) → (P → a ≡ b) → Exactly (eqb a b) P
exactly_eqb {P} a b f g = go (eqb a b) (eqb-true a b) (eqb-false a b)
  where
    go : (t : Bool) → (t ≡ true → a ≡ b) → (t ≡ false → a ≡ b → ⊥) → Exactly t P
    go true y n = f (y refl)
    go false y n = λ p. n refl (g p)

-- what holds of the jobs of one number holds of those of an equal one
pub changed : (P : ℕ → Type 0) {Q : Type 0} {a b : ℕ} → a ≡ b → Same (P a) Q → Same (P b) Q
changed P e both = (λ h. both.0 (subst P (sym e) h), λ q. subst P e (both.1 q))
