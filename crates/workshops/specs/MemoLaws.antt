-- The laws of a memo, from those of the workshop below.
use Rattle.std.specs.Prelude.{◌≡◌, ℕ, ◌<◌, ◌≤◌, Bool, true, false, cond, List, [], ◌∷◌, ◌++◌, length, drop, Some, None, Option, nat_lt, refl}
use Rattle.std.proofs.Common.{sym, ap, subst, ◌∙◌, ⊎_elim}
use Rattle.jobs.specs.Sets.{bits}
use Rattle.jobs.specs.Words.{Same}
use Rattle.workshops.specs.Stances.{Stance, Ready, Stopped, deeper}
use Rattle.workshops.specs.Replies.{True}
use Rattle.workshops.specs.Workshops.{Meaning, Kept, Unmoved, Lawful}
use Rattle.workshops.specs.Remembered.{remembered, room, Settles, Knows, known}
use Rattle.workshops.specs.Memos.{note, AllTrue, recalled, Recalls, memo}
use Rattle.workshops.specs.declared.memo.Memo.{Memo}
use Rattle.workshops.specs.declared.notes.Note.{Note}
use Rattle.workshops.specs.StanceFacts.{never, deeper_ready, deeper_bytes}
use Rattle.workshops.specs.KeptFacts.{kept_same, unmoved_same}
use Rattle.workshops.specs.KnownFacts.{known_knows}

true_same : (y : Bool) {F G : Type 0} → Same F G → True (Some y) F → True (Some y) G
true_same true e t = e.0 t
true_same false e t = λ g. t (e.1 g)

module _ {W : Type 0} (m : Meaning W) where
  all_append : (w : W) (xs ys : List Note) → AllTrue m w xs → AllTrue m w ys → AllTrue m w (xs ++ ys)
  all_append w [] ys f g = g
  all_append w (x ∷ xs) ys f g = (f.0, f.1, all_append w xs ys f.2 g)

  all_rest : (w : W) (xs : List Note) → AllTrue m w xs → AllTrue m w (drop 1 xs)
  all_rest w [] f = tt
  all_rest w (x ∷ xs) f = f.2

  all_room : (w : W) (b : Bool) (xs : List Note) → AllTrue m w xs → AllTrue m w (cond b xs (drop 1 xs))
  all_room w true xs f = f
  all_room w false xs f = all_rest w xs f

  -- notes that were true are true of a workshop with the same count and families
  all_kept : (w v : W) → Kept m w v → (xs : List Note) → AllTrue m w xs → AllTrue m v xs
  all_kept w v k [] f = tt
  all_kept w v k (x ∷ xs) f = (
    subst (λ n. x.place < n) (sym k.count) f.0,
    true_same x.yes (k.family x.place (bits x.set) f.0) f.1,
    all_kept w v k xs f.2,
  )

module _ {W : Type 0} (m : Meaning W) (law : Lawful m) where
  -- a true note says what is true
  one_true : (w : W) (p s : ℕ) → p < m.count w → (y : Bool) (n : Note) → True (Some n.yes) (m.family w n.place (bits n.set)) → Settles y p s n → True (Some y) (m.family w p s)
  one_true w p s l true n t h =
      let here : m.family w n.place (bits n.set) = subst (λ b. True (Some b) (m.family w n.place (bits n.set))) h.0 t in
      law.parts w p s (bits n.set) l h.2 (subst (λ q. m.family w q (bits n.set)) h.1 here)
  one_true w p s l false n t h =
      let none : m.family w n.place (bits n.set) → ⊥ = subst (λ b. True (Some b) (m.family w n.place (bits n.set))) h.0 t in
      λ f. none (subst (λ q. m.family w q (bits n.set)) (sym h.1) (law.parts w p (bits n.set) s l h.2 f))

  -- and so do many
  knows_true : (w : W) (p s : ℕ) → p < m.count w → (y : Bool) (xs : List Note) → AllTrue m w xs → Knows y xs p s → True (Some y) (m.family w p s)
  knows_true w p s l y [] f h = absurd h
  knows_true w p s l y (x ∷ xs) f h = ⊎_elim (one_true w p s l y x f.1) (knows_true w p s l y xs f.2) h

  -- what is known is true where what is remembered is
  pub known_true : (w : Memo W) (p s : ℕ) (a : Option Bool) → a ≡ known (remembered w.notes) p s → (memo m).invariant w → p < m.count w.below → True a (m.family w.below p s)
  known_true w p s (Some y) e i l = knows_true w.below p s l y (remembered w.notes) i.1 (known_knows p s (remembered w.notes) y (sym e))
  known_true w p s None e i l = tt

  lift : (w v : Memo W) → Kept m w.below v.below → Kept (memo m) w v
  lift w v k = record { count = k.count; family = k.family }

  bytes_at : (k : Option Bool) (st : Stance) → ((c d : ℕ) → st ≡ Stopped c d → (c ≤ 255) × (d ≤ 255)) → (c d : ℕ) → recalled k st ≡ Stopped c d → (c ≤ 255) × (d ≤ 255)
  bytes_at (Some y) st f c d h = absurd (never h)
  bytes_at None st f c d h = deeper_bytes st f c d h

  -- what is not known was asked below
  below_at : (a : Option Bool) (w v : Memo W) (p s : ℕ) → Recalls None a (m.asks w.below p s a) p s w v → m.asks w.below p s a v.below
  below_at (Some y) w v p s h = h.0
  below_at None w v p s h = h.0

  asked_at : (k a : Option Bool) (w v : Memo W) (p s : ℕ) → p < m.count w.below → Recalls k a (m.asks w.below p s a) p s w v → Kept (memo m) w v
  asked_at (Some y) a w v p s l h = kept_same (memo m) w v h.1
  asked_at None a w v p s l h = lift w v (law.asked w.below v.below p s a l (below_at a w v p s h))

  stopped_at : (k : Option Bool) (w v : Memo W) (p s : ℕ) → p < m.count w.below → Recalls k None (m.asks w.below p s None) p s w v → Unmoved (memo m) w v
  stopped_at (Some y) w v p s l h q t lq = unmoved_same (memo m) w v h.1 q t lq
  stopped_at None w v p s l h q t lq =
      let notes = ap (λ n. known (remembered n) q t) h.1 in
      let below = law.stopped w.below v.below p s l h.0 q t lq in
      cc

  lift_sound : (w v : Memo W) → Kept m w.below v.below → v.notes ≡ w.notes → AllTrue m w.below (remembered w.notes) → AllTrue m v.below (remembered v.notes)
  lift_sound w v k e f = subst (λ n. AllTrue m v.below (remembered n)) (sym e) (all_kept m w.below v.below k (remembered w.notes) f)

  sound_at : (k a : Option Bool) (w v : Memo W) (p s : ℕ) → p < m.count w.below → Recalls k a (m.asks w.below p s a) p s w v → True a (m.family w.below p s)
      → (memo m).invariant w → (memo m).invariant v
  sound_at (Some y) a w v p s l h t i = subst (λ (x : Memo W). (memo m).invariant x) (sym h.1) i
  sound_at None (Some y) w v p s l h t i =
      let k = law.asked w.below v.below p s (Some y) l h.0 in
      let old = all_room m v.below (nat_lt (length (remembered w.notes)) room) (remembered w.notes) (all_kept m w.below v.below k (remembered w.notes) i.1) in
      let new : AllTrue m v.below (note p s y ∷ []) = (subst (λ n. p < n) (sym k.count) l, true_same y (k.family p s l) t, tt) in
      (law.sound w.below v.below p s (Some y) l h.0 t i.0, subst (λ z. AllTrue m v.below z) (sym h.1) (all_append m v.below _ _ old new))
  sound_at None None w v p s l h t i =
      (law.sound w.below v.below p s None l h.0 t i.0, lift_sound w v (law.asked w.below v.below p s None l h.0) h.1 i.1)

  eased_at : (k : Option Bool) (w v : Memo W) (n p s : ℕ) → m.grants w.below n v.below → p < m.count w.below
      → recalled k (m.stance w.below p s) ≡ Ready → recalled k (m.stance v.below p s) ≡ Ready
  eased_at (Some y) w v n p s g l h = refl
  eased_at None w v n p s g l h = ap deeper (law.eased w.below v.below n g p s l (deeper_ready _ h))

  pub memo_lawful : Lawful (memo m)
  memo_lawful = record {
    few = λ w. law.few w.below;
    bytes = λ w p s c d l. bytes_at (known (remembered w.notes) p s) (m.stance w.below p s) (λ c d. law.bytes w.below p s c d l) c d;
    parts = λ w. law.parts w.below;
    asked = λ w v p s a. asked_at (known (remembered w.notes) p s) a w v p s;
    stopped = λ w v p s. stopped_at (known (remembered w.notes) p s) w v p s;
    sound = λ w v p s a. sound_at (known (remembered w.notes) p s) a w v p s;
    granted = λ w v n g. lift w v (law.granted w.below v.below n g.0);
    eased = λ w v n g p s l h.
        ap (λ z. recalled (known (remembered z) p s) (m.stance v.below p s)) g.1 ∙ eased_at (known (remembered w.notes) p s) w v n p s g.0 l h;
    carried = λ w v n g i. (law.carried w.below v.below n g.0 i.0, lift_sound w v (law.granted w.below v.below n g.0) g.1 i.1);
  }
