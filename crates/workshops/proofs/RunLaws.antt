-- What follows from the laws of a workshop over any list of its calls.
use Rattle.std.proofs.Common.{◌≡◌, ℕ, ◌<◌, Bool, true, false, List, [], ◌∷◌, ◌++◌, Some, None, Ok, Err, Option, Result, sym, refl, ◌∙◌, subst, ⊎_elim, arith}
use Rattle.std.proofs.lemmas.Bool.{cases_lt}
use Rattle.jobs.specs.Sets.{bits}
use Rattle.jobs.specs.Words.{Same}
use Rattle.jobs.specs.declared.refusal.Refusal.{Refusal}
use Rattle.jobs.specs.declared.set.JobSet.{JobSet}
use Rattle.workshops.specs.declared.reply.Fault.{Fault}
use Rattle.workshops.specs.Replies.{True, given_by}
use Rattle.workshops.specs.Runs.{Event, asked, granted, Runs, AllTold, Steady}
use Rattle.workshops.specs.Stances.{Stopped}
use Rattle.workshops.specs.Verdicts.{Verdict}
use Rattle.workshops.specs.Workshops.{Meaning, Kept, Lawful}
use Rattle.workshops.specs.KeptFacts.{kept_same, kept_trans}

true_back : (a : Option Bool) {F G : Type 0} → Same F G → True a G → True a F
true_back (Some true) e t = e.1 t
true_back (Some false) e t = λ f. t (e.0 f)
true_back None e t = tt

refused_true : (r : Result (Result Bool Fault) Refusal) {e : Refusal} (F : Type 0) → r ≡ Err e → True (given_by r) F
refused_true r F h = subst (λ x. True (given_by x) F) (sym h) tt

pub runs_append : {W : Type 0} (m : Meaning W) (es fs : List Event) (w u v : W) → Runs m es w u → Runs m fs u v → Runs m (es ++ fs) w v
runs_append {W} m [] fs w u v e h = subst (λ (x : W). Runs m fs x v) e h
runs_append m (asked p set r ∷ es) fs w u v g h = (g.0, g.1, runs_append m es fs g.0 u v g.2 h)
runs_append m (granted n ∷ es) fs w u v g h = (g.0, g.1, runs_append m es fs g.0 u v g.2 h)

module _ {W : Type 0} (m : Meaning W) (law : Lawful m) where
  -- a question keeps count and families, at any place
  pub verdict_kept : (w v : W) (p : ℕ) (set : JobSet) (r : Result (Result Bool Fault) Refusal) → Verdict m w p set r v → Kept m w v
  verdict_kept w v p set r h =
      ⊎_elim (λ l. law.asked w v p (bits set) (given_by r) l (h.asks l)) (λ g. kept_same m w v (h.refuses g).1) (cases_lt p (m.count w))

  -- and the invariant
  pub verdict_sound : (w v : W) (p : ℕ) (set : JobSet) (r : Result (Result Bool Fault) Refusal) → Verdict m w p set r v → m.invariant w → m.invariant v
  verdict_sound w v p set r h i = ⊎_elim
      (λ l. law.sound w v p (bits set) (given_by r) l (h.asks l) (h.truth i l) i)
      (λ g. subst m.invariant (sym (h.refuses g).1) i)
      (cases_lt p (m.count w))

  -- and its answer is true of any workshop with the same count and families
  pub verdict_told : (base w v : W) (p : ℕ) (set : JobSet) (r : Result (Result Bool Fault) Refusal) → Kept m base w → Verdict m w p set r v → m.invariant w → True (given_by r) (m.family base p (bits set))
  verdict_told base w v p set r k h i = ⊎_elim
      (λ l. true_back (given_by r) (k.family p (bits set) (subst (λ n. p < n) k.count l)) (h.truth i l))
      (λ g. refused_true r (m.family base p (bits set)) (h.refuses g).0)
      (cases_lt p (m.count w))

  runs_kept : (es : List Event) (w v : W) → Runs m es w v → Kept m w v
  runs_kept [] w v h = kept_same m w v h
  runs_kept (asked p set r ∷ es) w v h = kept_trans m w h.0 v (verdict_kept w h.0 p set r h.1) (runs_kept es h.0 v h.2)
  runs_kept (granted n ∷ es) w v h = kept_trans m w h.0 v (law.granted w h.0 n h.1.grants) (runs_kept es h.0 v h.2)

  runs_sound : (es : List Event) (w v : W) → Runs m es w v → m.invariant w → m.invariant v
  runs_sound [] w v h i = subst m.invariant (sym h) i
  runs_sound (asked p set r ∷ es) w v h i = runs_sound es h.0 v h.2 (verdict_sound w h.0 p set r h.1 i)
  runs_sound (granted n ∷ es) w v h i = runs_sound es h.0 v h.2 (law.carried w h.0 n h.1.grants i)

  runs_told : (es : List Event) (base w v : W) → Kept m base w → Runs m es w v → m.invariant w → AllTold m base es
  runs_told [] base w v k h i = tt
  runs_told (asked p set r ∷ es) base w v k h i = (
    verdict_told base w h.0 p set r k h.1 i,
    runs_told es base h.0 v (kept_trans m base w h.0 k (verdict_kept w h.0 p set r h.1)) h.2 (verdict_sound w h.0 p set r h.1 i),
  )
  runs_told (granted n ∷ es) base w v k h i =
      runs_told es base h.0 v (kept_trans m base w h.0 k (law.granted w h.0 n h.1.grants)) h.2 (law.carried w h.0 n h.1.grants i)

  pub stops_again : (w v : W) (p : ℕ) (set : JobSet) (f : Fault) → Verdict m w p set (Ok (Err f)) v → (p < m.count v) × (m.stance v p (bits set) ≡ Stopped f.cause f.depth)
  stops_again w v p set f h = ⊎_elim
      (λ l. let e = (law.asked w v p (bits set) None l (h.asks l)).count in
      (subst (λ n. p < n) (sym e) l, law.stopped w v p (bits set) l (h.asks l) p (bits set) l ∙ (h.answers l).0))
      (λ g. let no = (h.refuses g).0 in grind arith)
      (cases_lt p (m.count w))

  pub all_steady : Steady m
  all_steady = record {
    kept = runs_kept;
    sound = runs_sound;
    told = λ es w v. runs_told es w w v (kept_same m w w refl);
    again = stops_again;
  }
