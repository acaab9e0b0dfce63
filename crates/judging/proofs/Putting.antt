-- Putting a set to one place, and the places of a row one after the other.
use Rattle.std.proofs.Common.{ℕ, ◌+◌, ◌<◌, ◌≤◌, false, List, Some, None, Option, Ok, refl, add-one, arith}
use Rattle.workshops.specs.Workshops.{Meaning, Lawful, Kept}
use Rattle.workshops.specs.declared.reply.Fault.{Fault}
use Rattle.workshops.specs.KeptFacts.{kept_same, kept_trans}
use Rattle.std.specs.Option.{unwrap_or, is_none}
use Rattle.jobs.specs.Sets.{bits}
use Rattle.master.specs.declared.cut.Addition.{Addition}
use Rattle.master.specs.declared.cut.Cut.{Cut}
use Rattle.judging.specs.declared.outcome.Outcome.TheVariants.{Stopped as Stopping, Full as Filling}
use Rattle.judging.specs.declared.outcome.Turn.{Turn}
use Rattle.judging.specs.declared.outcome.Turn.TheVariants.{Passed, Added, Stopped, Full as Filled}
use Rattle.judging.specs.Judging.{Asked, Puts, Judges, Ends, tally}
use Rattle.judging.specs.Judging.Ends.{stops, fills}
use Rattle.judging.specs.Judging.Judges.{start, passes, adds}
use Rattle.judging.specs.Judging.Puts.{full, halted, added}
use Rattle.judging.specs.Trials.{CutOff, Turned}
use Rattle.judging.proofs.Keeping.{puts_follows, kept_below}

-- of a set that the place refused, a cut was made or not
pub said_no : {W : Type 0} {m : Meaning W} {place set : ℕ} {w v u : W} {cuts after : List Cut} (turn : Turn) → Asked m w place set (Ok false) v
    → CutOff m place set v cuts turn u after → Puts m place set w cuts turn u after
said_no Passed a h = absurd h
said_no {v = v} {u} {after = after} (Added x) a h = added (bits h.1.0) x v u after a h.0 h.1.1 h.1.2
said_no {v = v} {u} (Stopped f) a h = let halt = h.1 in
    rw h.2 (halted halt.js halt.j halt.rest halt.t f v halt.u u a h.0 halt.order halt.tries halt.asked)
said_no {v = v} Filled a h = rw (h.1, h.2) (full v a h.0)

-- the judgement so far: count and families are kept, and at most one cut was added for each place
pub record Judged {W : Type 0} (m : Meaning W) (w : W) (cuts : List Cut) (row : List ℕ) (place : ℕ) (v : W) (cs : List Cut) (cut : Option ℕ) : Type 0 where
  pub kept : Kept m w v
  pub few : unwrap_or cut 0 ≤ place
  pub judges : Judges m w cuts row place v cs (unwrap_or cut 0) (is_none cut)

module _ {W : Type 0} {m : Meaning W} {w : W} {cuts : List Cut} {row : List ℕ} where
  pub none_judged : Judged m w cuts row 0 w cuts None
  none_judged = record { kept = kept_same m w w refl; few = omega arith; judges = start }

  module _ {place : ℕ} {v : W} {cs : List Cut} {cut : Option ℕ} (h : Judged m w cuts row place v cs cut) where
    pub judged_within : (places : ℕ) → place < places → places ≤ m.count w → place < m.count v
    judged_within places l le = omega (arith, h.kept.count)

    module _ {v' : W} {cs' : List Cut} where
      then_kept : {turn : Turn} → Lawful m → place < m.count w → Turned m row place v cs turn v' cs' → Kept m w v'
      then_kept laws l t = kept_trans m w v v' h.kept (puts_follows laws (kept_below laws l h.kept) t.puts).kept

      pub judged_passed : Lawful m → place < m.count w → Turned m row place v cs Passed v' cs' → Judged m w cuts row (place + 1) v' cs' cut
      judged_passed laws l t = record {
        kept = then_kept laws l t;
        few = omega (arith, h.few);
        judges = rw add-one (passes place t.set v v' cs cs' _ _ h.judges t.group t.puts);
      }

      pub judged_added : Lawful m → place < m.count w → (a : Addition) → tally a ≤ 1 → Turned m row place v cs (Added a) v' cs' → Judged m w cuts row (place + 1) v' cs' (Some (unwrap_or cut 0 + tally a))
      judged_added laws l a one t = record {
        kept = then_kept laws l t;
        few = omega (arith, h.few);
        judges = rw add-one (adds place t.set v v' cs cs' _ _ a h.judges t.group t.puts);
      }

      pub judged_stopped : {places : ℕ} (f : Fault) → place < places → Turned m row place v cs (Stopped f) v' cs' → Ends m w cuts row places (Stopping f (unwrap_or cut 0)) v' cs'
      judged_stopped f l t = stops place t.set v v' cs cs' _ _ f l h.judges t.group t.puts

      pub judged_full : {places : ℕ} → place < places → Turned m row place v cs Filled v' cs' → Ends m w cuts row places (Filling place (unwrap_or cut 0)) v' cs'
      judged_full l t = fills place t.set v v' cs cs' _ _ l h.judges t.group t.puts
