-- A workshop through its questions and grants: what it was made with stays, and its replies are true.
use Rattle.std.proofs.Common.{◌≡◌, ℕ, Bool, true, false, Ok, Err, Result, ◌<◌, sym, refl, ap, ◌∙◌, subst}
use Rattle.jobs.specs.Sets.{bits}
use Rattle.jobs.specs.declared.set.JobSet.{JobSet}
use Rattle.workshops.specs.Stances.{Stopped}
use Rattle.workshops.specs.Replies.{given}
use Rattle.workshops.specs.Workshops.{Meaning, Kept, Lawful}
use Rattle.workshops.specs.declared.reply.Fault.{Fault}
use Rattle.workshops.specs.KeptFacts.{kept_same, kept_trans}
use Rattle.judging.specs.Judging.{Asked}

-- v has the count and the families of w, and keeps its word
pub record Faithful {W : Type 0} (m : Meaning W) (w v : W) : Type 0 where
  pub kept : Kept m w v
  pub sound : m.invariant v

pub faithful_same : {W : Type 0} (m : Meaning W) (w : W) → m.invariant w → Faithful m w w
faithful_same m w good = record { kept = kept_same m w w refl; sound = good }

module _ {W : Type 0} (m : Meaning W) (laws : Lawful m) (w : W) where
  -- a place of w is one of v
  within : (v : W) (place : ℕ) → Kept m w v → place < m.count w → place < m.count v
  within v place k lt = subst (λ (c : ℕ). place < c) (sym k.count) lt

  pub faithful_granted : (v v' : W) (amount : ℕ) → Faithful m w v → m.grants v amount v' → Faithful m w v'
  faithful_granted v v' amount f g = record {
    kept = kept_trans m w v v' f.kept (laws.granted v v' amount g);
    sound = laws.carried v v' amount g f.sound;
  }

  module _ (v v' : W) (place set : ℕ) (f : Faithful m w v) (lt : place < m.count w) where
    pub faithful_asked : (r : Result Bool Fault) → Asked m v place set r v' → Faithful m w v'
    faithful_asked r ask =
        let here : place < m.count v = within v place f.kept lt in
        record {
          kept = kept_trans m w v v' f.kept (laws.asked v v' place set (given r) here ask.asks);
          sound = laws.sound v v' place set (given r) here ask.asks (ask.truth f.sound) f.sound;
        }

    pub said_yes : Asked m v place set (Ok true) v' → m.family w place set
    said_yes ask = (f.kept.family place set lt).1 (ask.truth f.sound)

    pub said_no : Asked m v place set (Ok false) v' → m.family w place set → ⊥
    said_no ask h = ask.truth f.sound ((f.kept.family place set lt).0 h)

    -- a workshop that stopped would stop that question again, with the same fault
    pub stops_again : (x : Fault) → Asked m v place set (Err x) v'
        → (x.place < m.count w) × (m.stance v' x.place (bits x.set) ≡ Stopped x.cause x.depth)
    stops_again x ask =
        let a = ask.answers in
        let still : m.stance v' place set ≡ m.stance v place set = laws.stopped v v' place set (within v place f.kept lt) ask.asks place set (within v place f.kept lt) in (
          subst (λ (p : ℕ). p < m.count w) (sym a.1) lt,
          ap (λ (p : ℕ). m.stance v' p (bits x.set)) a.1 ∙ ap (λ (s : JobSet). m.stance v' place (bits s)) a.2 ∙ still ∙ a.0,
        )
