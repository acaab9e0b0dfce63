-- Asking, shrinking and putting keep count and families, and the workshop's word.
use Rattle.std.proofs.Common.{◌≡◌, ℕ, ◌<◌, Bool, List, Result, sym, refl, subst}
use Rattle.workshops.specs.Workshops.{Meaning, Lawful, Kept}
use Rattle.workshops.specs.Replies.{given}
use Rattle.workshops.specs.declared.reply.Fault.{Fault}
use Rattle.workshops.specs.KeptFacts.{kept_same, kept_trans}
use Rattle.master.specs.declared.cut.Cut.{Cut}
use Rattle.judging.specs.declared.outcome.Turn.{Turn}
use Rattle.judging.specs.Judging.{Asked, Tries, Puts}
use Rattle.judging.specs.Judging.Tries.{start, needed, spared}
use Rattle.judging.specs.Judging.Puts.{passed, stopped, full, halted, added}
use Rattle.judging.specs.Truths.{Follows}

pub follows_same : {W : Type 0} {m : Meaning W} {w v : W} → v ≡ w → Follows m w v
follows_same {m = m} {w} {v} e = record { kept = kept_same m w v e; sound = λ i. subst m.invariant (sym e) i }

pub follows_trans : {W : Type 0} {m : Meaning W} {w u v : W} → Follows m w u → Follows m u v → Follows m w v
follows_trans {m = m} {w} {u} {v} f g = record { kept = kept_trans m w u v f.kept g.kept; sound = λ i. g.sound (f.sound i) }

module _ {W : Type 0} {m : Meaning W} (laws : Lawful m) {place : ℕ} where
  -- the place is still one of the workshop's
  pub kept_below : {w v : W} → place < m.count w → Kept m w v → place < m.count v
  kept_below l k = rw k.count l

  pub asked_follows : {set : ℕ} {reply : Result Bool Fault} {w v : W} → place < m.count w → Asked m w place set reply v → Follows m w v
  asked_follows {set} {reply} {w} {v} l a = record {
    kept = laws.asked w v place set (given reply) l a.asks;
    sound = λ i. laws.sound w v place set (given reply) l a.asks (a.truth i) i;
  }

  then_asked : {set : ℕ} {reply : Result Bool Fault} {w u v : W} → place < m.count w → Follows m w u → Asked m u place set reply v → Follows m w v
  then_asked l f a = follows_trans f (asked_follows (kept_below l f.kept) a)

  pub tries_follows : {set : ℕ} {w : W} {js : List ℕ} {t : ℕ} {v : W} → place < m.count w → Tries m place set w js t v → Follows m w v
  tries_follows l start = follows_same refl
  tries_follows l (needed ks j s u u' h a) = then_asked l (tries_follows l h) a
  tries_follows l (spared ks j s u u' h a) = then_asked l (tries_follows l h) a

  pub then_tries : {set : ℕ} {w u : W} {js : List ℕ} {t : ℕ} {v : W} → place < m.count w → Follows m w u → Tries m place set u js t v → Follows m w v
  then_tries l f h = follows_trans f (tries_follows (kept_below l f.kept) h)

  pub puts_follows : {set : ℕ} {w : W} {cuts : List Cut} {turn : Turn} {v : W} {after : List Cut} → place < m.count w → Puts m place set w cuts turn v after → Follows m w v
  puts_follows l (passed v' a) = asked_follows l a
  puts_follows l (stopped f v' a) = asked_follows l a
  puts_follows l (full v' a whole) = asked_follows l a
  puts_follows l (halted js j rest t f u u₁ u₂ a few order h b) = then_asked l (then_tries l (asked_follows l a) h) b
  puts_follows l (added t addition u u₁ cs a few h adds) = then_tries l (asked_follows l a) h

  pub then_puts : {set : ℕ} {w u : W} {cuts : List Cut} {turn : Turn} {v : W} {after : List Cut} → place < m.count w → Follows m w u → Puts m place set u cuts turn v after → Follows m w v
  then_puts l f h = follows_trans f (puts_follows (kept_below l f.kept) h)
