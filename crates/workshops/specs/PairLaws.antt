-- The laws of a pair, from those of its two workshops.
use Rattle.std.specs.Prelude.{◌≡◌, ℕ, ◌+◌, ◌-◌, ◌<◌, ◌≤◌, min, Bool, true, false, cond, None, Option, nat_lt, refl}
use Rattle.std.proofs.Common.{sym, ap, subst, ◌∙◌, arith}
use Rattle.std.proofs.lemmas.Bool.{cond-true, cond-false, lt-ltb, le-ltb, ltb-true, ltb-false}
use Rattle.jobs.specs.Sets.{Part}
use Rattle.jobs.specs.Words.{Same}
use Rattle.workshops.specs.Stances.{Ready, Stopped, deeper}
use Rattle.workshops.specs.Replies.{True}
use Rattle.workshops.specs.Workshops.{Meaning, Kept, Unmoved, Lawful}
use Rattle.workshops.specs.Pairs.{Side, in_first, in_second, side, family_at, stance_at, AsksAt, pair}
use Rattle.workshops.specs.declared.pair.Pair.{Pair}
use Rattle.workshops.specs.StanceFacts.{deeper_ready, deeper_bytes}
use Rattle.workshops.specs.KeptFacts.{kept_same, unmoved_same}

pub side_first : (before p : ℕ) → p < before → side before p ≡ in_first p
side_first before p l = cond-true _ _ _ (lt-ltb _ _ l)

pub side_second : (before p : ℕ) → before ≤ p → side before p ≡ in_second (p - before)
side_second before p l = cond-false _ _ _ (le-ltb _ _ l)

-- the place lies below the count of its side
abbrev Inside : ℕ → ℕ → Side → Type 0
Inside before after (in_first q) = q < before
Inside before after (in_second q) = q < after

inside_at : (x : Bool) (before after p : ℕ) → nat_lt p before ≡ x → p < min 255 (before + after) → Inside before after (cond x (in_first p) (in_second (p - before)))
inside_at true before after p e l = ltb-true _ _ e
inside_at false before after p e l = let k = ltb-false _ _ e in omega arith

module _ {V W : Type 0} (m : Meaning V) (n : Meaning W) (one : Lawful m) (two : Lawful n) where
  inside : (w : Pair V W) (p : ℕ) → p < (pair m n).count w → Inside (m.count w.first) (n.count w.second) (side (m.count w.first) p)
  inside w p = inside_at (nat_lt p (m.count w.first)) (m.count w.first) (n.count w.second) p refl

  bytes_at : (z : Side) (w : Pair V W) (s c d : ℕ) → Inside (m.count w.first) (n.count w.second) z → stance_at m n z w s ≡ Stopped c d → (c ≤ 255) × (d ≤ 255)
  bytes_at (in_first q) w s c d l h = deeper_bytes (m.stance w.first q s) (λ c d. one.bytes w.first q s c d l) c d h
  bytes_at (in_second q) w s c d l h = deeper_bytes (n.stance w.second q s) (λ c d. two.bytes w.second q s c d l) c d h

  parts_at : (z : Side) (w : Pair V W) (part whole : ℕ) → Inside (m.count w.first) (n.count w.second) z → Part part whole → family_at m n z w whole → family_at m n z w part
  parts_at (in_first q) w part whole l = one.parts w.first q part whole l
  parts_at (in_second q) w part whole l = two.parts w.second q part whole l

  family_kept : (z : Side) (w v : Pair V W) (s : ℕ) → Kept m w.first v.first → Kept n w.second v.second → Inside (m.count w.first) (n.count w.second) z
      → Same (family_at m n z w s) (family_at m n z v s)
  family_kept (in_first q) w v s k j l = k.family q s l
  family_kept (in_second q) w v s k j l = j.family q s l

  both_kept : (w v : Pair V W) → Kept m w.first v.first → Kept n w.second v.second → Kept (pair m n) w v
  both_kept w v k j = record {
    count = let e = k.count in let f = j.count in cc;
    family = λ p s l.
        let F : ℕ → Type 0 = λ c. Same (family_at m n (side (m.count w.first) p) w s) (family_at m n (side c p) v s) in
        subst F (sym k.count) (family_kept (side (m.count w.first) p) w v s k j (inside w p l));
  }

  asked_at : (z : Side) (w v : Pair V W) (s : ℕ) (a : Option Bool) → Inside (m.count w.first) (n.count w.second) z → AsksAt m n z w s a v → Kept (pair m n) w v
  asked_at (in_first q) w v s a l h = both_kept w v (one.asked w.first v.first q s a l h.0) (kept_same n _ _ h.1)
  asked_at (in_second q) w v s a l h = both_kept w v (kept_same m _ _ h.1) (two.asked w.second v.second q s a l h.0)

  stance_kept : (z : Side) (w v : Pair V W) (s : ℕ) → Unmoved m w.first v.first → Unmoved n w.second v.second → Inside (m.count w.first) (n.count w.second) z
      → stance_at m n z v s ≡ stance_at m n z w s
  stance_kept (in_first q) w v s f g l = ap deeper (f q s l)
  stance_kept (in_second q) w v s f g l = ap deeper (g q s l)

  both_unmoved : (w v : Pair V W) → m.count v.first ≡ m.count w.first → Unmoved m w.first v.first → Unmoved n w.second v.second → Unmoved (pair m n) w v
  both_unmoved w v e f g p s l =
      ap (λ c. stance_at m n (side c p) v s) e ∙ stance_kept (side (m.count w.first) p) w v s f g (inside w p l)

  stopped_at : (z : Side) (w v : Pair V W) (s : ℕ) → Inside (m.count w.first) (n.count w.second) z → AsksAt m n z w s None v → Unmoved (pair m n) w v
  stopped_at (in_first q) w v s l h =
      both_unmoved w v (one.asked w.first v.first q s None l h.0).count (one.stopped w.first v.first q s l h.0) (unmoved_same n _ _ h.1)
  stopped_at (in_second q) w v s l h =
      both_unmoved w v (ap m.count h.1) (unmoved_same m _ _ h.1) (two.stopped w.second v.second q s l h.0)

  sound_at : (z : Side) (w v : Pair V W) (s : ℕ) (a : Option Bool) → Inside (m.count w.first) (n.count w.second) z → AsksAt m n z w s a v → True a (family_at m n z w s)
      → (pair m n).invariant w → (pair m n).invariant v
  sound_at (in_first q) w v s a l h t i = (one.sound w.first v.first q s a l h.0 t i.0, subst n.invariant (sym h.1) i.1)
  sound_at (in_second q) w v s a l h t i = (subst m.invariant (sym h.1) i.0, two.sound w.second v.second q s a l h.0 t i.1)

  eased_at : (z : Side) (w v : Pair V W) (k s : ℕ) → m.grants w.first k v.first → n.grants w.second k v.second → Inside (m.count w.first) (n.count w.second) z
      → stance_at m n z w s ≡ Ready → stance_at m n z v s ≡ Ready
  eased_at (in_first q) w v k s g h l r = ap deeper (one.eased w.first v.first k g q s l (deeper_ready _ r))
  eased_at (in_second q) w v k s g h l r = ap deeper (two.eased w.second v.second k h q s l (deeper_ready _ r))

  pub pair_lawful : Lawful (pair m n)
  pair_lawful = record {
    few = λ w. omega arith;
    bytes = λ w p s c d l. bytes_at (side (m.count w.first) p) w s c d (inside w p l);
    parts = λ w p part whole l. parts_at (side (m.count w.first) p) w part whole (inside w p l);
    asked = λ w v p s a l. asked_at (side (m.count w.first) p) w v s a (inside w p l);
    stopped = λ w v p s l. stopped_at (side (m.count w.first) p) w v s (inside w p l);
    sound = λ w v p s a l. sound_at (side (m.count w.first) p) w v s a (inside w p l);
    granted = λ w v k g. both_kept w v (one.granted _ _ k g.0) (two.granted _ _ k g.1);
    eased = λ w v k g p s l r.
        let e = (one.granted w.first v.first k g.0).count in
        ap (λ c. stance_at m n (side c p) v s) e ∙ eased_at (side (m.count w.first) p) w v k s g.0 g.1 (inside w p l) r;
    carried = λ w v k g i. (one.carried _ _ k g.0 i.0, two.carried _ _ k g.1 i.1);
  }
