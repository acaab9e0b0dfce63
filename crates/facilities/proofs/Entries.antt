-- What a call that enters a row answers, step by step.
use Rattle.std.proofs.Common.{◌≡◌, ℕ, ◌<◌, Bool, true, ltb, Some, None, Ok, Option, Result, sym, refl, subst, lt-ltb}
use Rattle.jobs.specs.declared.refusal.Refusal.{Refusal}
use Rattle.jobs.specs.declared.refusal.Refusal.TheVariants.{NoSuchJob}
use Rattle.jobs.specs.Refusals.{Answered, unless}
use Rattle.jobs.specs.Sets.{width}
use Rattle.facilities.specs.Rows.{Entry}

-- a check that passes leaves the rest to the checks that follow
pub checked : {F : Type 0} (test : Bool) (e : Refusal) (rest : Option Refusal) (r : Result (Unit {0}) Refusal) (before after : F) (done : Type 0) → test ≡ true →
    Entry rest r before after done → Entry (unless test e rest) r before after done
checked test e rest r before after done t x = subst (λ b. Entry (unless b e rest) r before after done) (sym t) x

pub job_checked : {F : Type 0} (job : ℕ) (rest : Option Refusal) (r : Result (Unit {0}) Refusal) (before after : F) (done : Type 0) → job < width →
    Entry rest r before after done → Entry (unless (ltb job width) NoSuchJob rest) r before after done
job_checked job rest r before after done l x = checked (ltb job width) NoSuchJob rest r before after done (lt-ltb job width l) x

-- where the row is made, it is entered
pub entered : {F T : Type 0} (o : Option Refusal) (v : T) (P : T → Type 0) (before after : F) (done : Type 0) → Answered o (Ok v) P → (P v → done) →
    Entry o (Ok tt) before after done
entered (Some d) v P before after done a f = let z : ⊥ = cc in absurd z
entered None v P before after done a f = (refl, f a)
