-- Facts on stances, and on replies passed on.
use Rattle.std.specs.Prelude.{◌≡◌, ℕ, ◌≤◌, Bool, Ok, Err, ◌≢◌, refl}
use Rattle.std.proofs.Common.{sym, ap, subst, arith}
use Rattle.jobs.specs.declared.set.JobSet.{JobSet}
use Rattle.workshops.specs.Stances.{Stance, Ready, Stopped, deep, deeper}
use Rattle.workshops.specs.Replies.{raised, Allowed}
use Rattle.workshops.specs.declared.reply.Fault.{Fault}

pub never : {c d : ℕ} → Ready ≢ Stopped c d
never h = grind arith

-- a deeper stop was a stop
pub deeper_stop : (st : Stance) (c d : ℕ) → deeper st ≡ Stopped c d → (e : ℕ) × (st ≡ Stopped c e) × (d ≡ deep e)
deeper_stop Ready c d h = absurd (never h)
deeper_stop (Stopped a e) c d h = (e, cc, cc)

pub deeper_ready : (st : Stance) → deeper st ≡ Ready → st ≡ Ready
deeper_ready Ready h = refl
deeper_ready (Stopped a e) h = cc

-- a deeper stop has bytes where the stop had
pub deeper_bytes : (st : Stance) → ((c d : ℕ) → st ≡ Stopped c d → (c ≤ 255) × (d ≤ 255)) → (c d : ℕ) → deeper st ≡ Stopped c d → (c ≤ 255) × (d ≤ 255)
deeper_bytes st f c d h = let s = deeper_stop st c d h in ((f c s.0 s.1).0, omega (arith, s.2))

-- an answer that the stance below allows is allowed by the deeper stance
pub allowed_answered : (st : Stance) (p q : ℕ) (set : JobSet) (y : Bool) → Allowed st q set (Ok (Ok y)) → Allowed (deeper st) p set (Ok (Ok y))
allowed_answered st p q set y h = ap deeper h

-- and so is a stop, passed on
pub allowed_passed : (st : Stance) (p q : ℕ) (set : JobSet) (f g : Fault) → g ≡ raised p f → Allowed st q set (Ok (Err f)) → Allowed (deeper st) p set (Ok (Err g))
allowed_passed st p q set f g e h = subst (λ (x : Fault). Allowed (deeper st) p set (Ok (Err x))) (sym e) (ap deeper h.0, refl, h.2)
