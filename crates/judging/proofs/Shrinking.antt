-- Leaving out one job after the other on trial.
use Rattle.std.proofs.Common.{◌≡◌, ℕ, List, [], ◌∷◌, ◌++◌, Err, sym, ◌∙◌, append_assoc}
use Rattle.jobs.specs.Sets.{without, jobs_of}
use Rattle.workshops.specs.Workshops.{Meaning}
use Rattle.workshops.specs.declared.reply.Fault.{Fault}
use Rattle.judging.specs.Judging.{Asked, Tries}
use Rattle.judging.specs.Judging.Tries.{needed, spared}
use Rattle.judging.specs.Trials.{LeftOut, Halts}
use Rattle.judging.specs.Trials.LeftOut.{stays, goes}

-- the jobs js were tried, and rest are still to be
pub record Trying {W : Type 0} (m : Meaning W) (place set : ℕ) (w : W) (js rest : List ℕ) (t : ℕ) (v : W) : Type 0 where
  pub order : jobs_of set ≡ js ++ rest
  pub tries : Tries m place set w js t v

module _ {W : Type 0} {m : Meaning W} {place set : ℕ} {w : W} {js : List ℕ} {j : ℕ} {rest : List ℕ} {t : ℕ} {v v' : W} (h : Trying m place set w js (j ∷ rest) t v) where
  tries_more : (left : ℕ) → LeftOut m place t j v left v' → Tries m place set w (js ++ j ∷ []) left v'
  tries_more left (stays a e) = rw e (needed js j t v v' h.tries a)
  tries_more left (goes a e) = rw e (spared js j t v v' h.tries a)

  -- one job more was tried
  pub trying_more : (left : ℕ) → LeftOut m place t j v left v' → Trying m place set w (js ++ j ∷ []) rest left v'
  trying_more left d = record { order = h.order ∙ sym (append_assoc js (j ∷ []) rest); tries = tries_more left d }

  -- or the trial stopped
  pub trying_halts : (f : Fault) → Asked m v place (without t j) (Err f) v' → Halts m place set w f v'
  trying_halts f a = record { js = js; j = j; rest = rest; t = t; u = v; order = h.order; tries = h.tries; asked = a }
