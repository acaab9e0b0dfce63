-- Inner: what the private functions promise. No public contract cites this file.
use Rattle.std.specs.Prelude.{◌≡◌, ℕ, ◌<◌, true, false, List, ◌∷◌, ◌++◌, length, Ok, Err, Result}
use Rattle.jobs.specs.Sets.{bits, without, jobs_of}
use Rattle.jobs.specs.declared.set.JobSet.{JobSet}
use Rattle.workshops.specs.Workshops.{Meaning}
use Rattle.workshops.specs.declared.reply.Fault.{Fault}
use Rattle.master.specs.Cuts.{room, cut_of, Adds}
use Rattle.master.specs.Rows.{Group}
use Rattle.master.specs.declared.cut.Cut.{Cut}
use Rattle.judging.specs.Judging.{Asked, Tries, Puts}
use Rattle.judging.specs.declared.outcome.Turn.{Turn}
use Rattle.judging.specs.declared.outcome.Turn.TheVariants.{Passed, Added, Stopped, Full as Filled}

module _ {W : Type 0} (m : Meaning W) where
  -- job j was left out of t on trial: it stays on a yes, and stays out on a no
  pub data LeftOut (place t j : ℕ) (w : W) (left : ℕ) (v : W) : Type 0 where
    stays : Asked m w place (without t j) (Ok true) v → left ≡ t → LeftOut place t j w left v
    goes : Asked m w place (without t j) (Ok false) v → left ≡ without t j → LeftOut place t j w left v

  -- the trial: what is left, or the stop
  abbrev pub Tried : ℕ → ℕ → ℕ → W → Result JobSet Fault → W → Type 0
  Tried place t j w (Ok left) v = LeftOut place t j w (bits left) v
  Tried place t j w (Err f) v = Asked m w place (without t j) (Err f) v

  -- the shrinking of the set was stopped, with the jobs js tried
  pub record Halts (place set : ℕ) (w : W) (f : Fault) (v : W) : Type 0 where
    pub js : List ℕ
    pub j : ℕ
    pub rest : List ℕ
    pub t : ℕ
    pub u : W
    pub order : jobs_of set ≡ js ++ j ∷ rest
    pub tries : Tries m place set w js t u
    pub asked : Asked m u place (without t j) (Err f) v

  -- the shrinking of the set: what is left, or the stop
  abbrev pub Shrinks : ℕ → ℕ → W → Result JobSet Fault → W → Type 0
  Shrinks place set w (Ok t) v = Tries m place set w (jobs_of set) (bits t) v
  Shrinks place set w (Err f) v = Halts place set w f v

  -- what comes of a set that the place refused, with the workshop at w then
  abbrev pub CutOff : ℕ → ℕ → W → List Cut → Turn → W → List Cut → Type 0
  CutOff place set w cuts Passed v after = ⊥
  CutOff place set w cuts (Added a) v after = (length cuts < room) × ((t : JobSet) × Tries m place set w (jobs_of set) (bits t) v × Adds cuts (cut_of place t) a after)
  CutOff place set w cuts (Stopped f) v after = (length cuts < room) × Halts place set w f v × (after ≡ cuts)
  CutOff place set w cuts Filled v after = (length cuts ≡ room) × (v ≡ w) × (after ≡ cuts)

  -- the set that the row gives the place was put to it
  pub record Turned (row : List ℕ) (place : ℕ) (w : W) (cuts : List Cut) (turn : Turn) (v : W) (after : List Cut) : Type 0 where
    pub set : ℕ
    pub group : Group row place set
    pub puts : Puts m place set w cuts turn v after
