-- What a turn and a judgement tell of a workshop that keeps its word.
use Rattle.std.proofs.Common.{◌≡◌, ℕ, ◌^◌, ◌<◌, ◌≤◌, Bool, true, false, ◌≢◌, List, length, Ok, Err, sym, refl, ap, ◌∙◌, subst, ⊎_elim, arith}
use Rattle.std.proofs.lemmas.Bool.{cases_eq}
use Rattle.jobs.specs.Sets.{width, bits, Part, without}
use Rattle.jobs.specs.declared.set.JobSet.{JobSet}
use Rattle.jobs.proofs.Members.{by_members, part_refl, part_trans, without_part}
use Rattle.facilities.specs.Shrinking.{Shrinks, Shrunk}
use Rattle.facilities.specs.Shrinking.Tried.{stays, goes}
use Rattle.facilities.proofs.Shrinking.{shrinks_more, shrinks_part, shrunk_once, shrunk_minimal}
use Rattle.workshops.specs.Workshops.{Meaning, Lawful}
use Rattle.workshops.specs.declared.reply.Fault.{Fault}
use Rattle.master.specs.Cuts.{room}
use Rattle.master.specs.Rows.{Group}
use Rattle.master.specs.declared.cut.Cut.{Cut}
use Rattle.judging.specs.declared.outcome.Outcome.{Outcome}
use Rattle.judging.specs.declared.outcome.Turn.{Turn}
use Rattle.judging.specs.declared.outcome.Turn.TheVariants.{Passed, Added, Stopped, Full as Filled}
use Rattle.judging.specs.Judging.{Asked, Tries, Puts, Judges, Ends}
use Rattle.judging.specs.Judging.Ends.{agreed, refused, stops, fills}
use Rattle.judging.specs.Judging.Judges.{start as judges_start, passes, adds}
use Rattle.judging.specs.Judging.Puts.{passed, stopped, full, halted, added}
use Rattle.judging.specs.Judging.Tries.{start, needed, spared}
use Rattle.judging.specs.Truths.{Follows, StopsAt, Tells, TellsAll}
use Rattle.judging.proofs.Keeping.{follows_same, kept_below, asked_follows, then_tries, then_puts}

-- each place below can schedule its jobs
abbrev CanBelow : {W : Type 0} → Meaning W → W → List ℕ → ℕ → Type 0
CanBelow m w row place = (p set : ℕ) → p < place → Group row p set → m.family w p set

module _ {W : Type 0} {m : Meaning W} (laws : Lawful m) where
  -- a stop, and where it stands
  stops_there : {place set : ℕ} {f : Fault} {w v : W} → place < m.count w → Asked m w place set (Err f) v → StopsAt m v f
  stops_there {place} {set} {f} {w} {v} l a =
      let at = a.answers in
      let same : m.stance v place set ≡ m.stance w place set = laws.stopped w v place set l a.asks place set l in
      record {
        place = rw at.1 (kept_below laws l (asked_follows laws l a).kept);
        stance = ap (λ (p : ℕ). m.stance v p (bits f.set)) at.1 ∙ ap (λ (s : JobSet). m.stance v place (bits s)) at.2 ∙ same ∙ at.0;
      }

  stopped_part : {place : ℕ} (set : ℕ) {t : ℕ} {f : Fault} {w v : W} → Part t set → Asked m w place t (Err f) v → Part (bits f.set) set
  stopped_part set p a = subst (λ (s : ℕ). Part s set) (sym (ap bits a.answers.2)) p

  module _ {w : W} (good : m.invariant w) {place : ℕ} (l : place < m.count w) where
    told_yes : {set : ℕ} {u v : W} → Follows m w u → Asked m u place set (Ok true) v → m.family w place set
    told_yes {set} f a = (f.kept.family place set l).1 (a.truth (f.sound good))

    told_no : {set : ℕ} {u v : W} → Follows m w u → Asked m u place set (Ok false) v → m.family w place set → ⊥
    told_no {set} f a y = a.truth (f.sound good) ((f.kept.family place set l).0 y)

    -- the trials are those of the place's family
    tries_shrinks : {set : ℕ} {u : W} {js : List ℕ} {t : ℕ} {v : W} → Follows m w u → Tries m place set u js t v → Shrinks (m.family w place) js set t
    tries_shrinks f start = refl
    tries_shrinks {set} f (needed ks j s x x' h a) =
        shrinks_more (m.family w place) ks set s j s (tries_shrinks f h) (stays (told_yes (then_tries laws l f h) a) refl)
    tries_shrinks {set} f (spared ks j s x x' h a) =
        shrinks_more (m.family w place) ks set s j (without s j) (tries_shrinks f h) (goes (told_no (then_tries laws l f h) a) refl)

    -- what a turn tells, but of the cut that it made
    abbrev pub Told : ℕ → Turn → W → List Cut → Type 0
    Told set Passed v after = m.family w place set
    Told set (Added a) v after = m.family w place set → ⊥
    Told set (Stopped f) v after = (f.place ≡ place) × Part (bits f.set) set × StopsAt m v f
    Told set Filled v after = (m.family w place set → ⊥) × (length after ≡ room)

    pub puts_told : {set : ℕ} {cuts : List Cut} {turn : Turn} {v : W} {after : List Cut} → Puts m place set w cuts turn v after → Told set turn v after
    puts_told (passed v' a) = a.truth good
    puts_told {set} (stopped f v' a) = (a.answers.1, stopped_part set (part_refl set) a, stops_there l a)
    puts_told (full v' a whole) = (a.truth good, whole)
    puts_told {set} (halted js j rest t f u u₁ u₂ a few order h b) =
        let fu = asked_follows laws l a in
        let part = part_trans (without t j) t set (without_part t j) (shrinks_part (m.family w place) js set t (tries_shrinks fu h)) in
        (b.answers.1, stopped_part set part b, stops_there (kept_below laws l (then_tries laws l fu h).kept) b)
    puts_told (added t addition u u₁ cs a few h handed) = a.truth good

    pub puts_tells : {set : ℕ} {cuts : List Cut} (turn : Turn) {v : W} {after : List Cut} → set < 2 ^ width → Puts m place set w cuts turn v after → Tells m w place set cuts turn v after
    puts_tells Passed small h = puts_told h
    puts_tells {set} (Added x) small (added t addition u u₁ cs a few h handed) =
        let family = m.family w place in
        let shrunk : Shrunk family set t = record { fails = a.truth good; shrinks = tries_shrinks (asked_follows laws l a) h } in
        (t, record { shrunk = shrunk; only = shrunk_once family set; minimal = shrunk_minimal family (λ part whole. laws.parts w place part whole l) set t small shrunk }, handed)
    puts_tells (Stopped f) small h = puts_told h
    puts_tells Filled small h = puts_told h

  -- the set that the row gives the place is one
  same_group : (row : List ℕ) (place s t : ℕ) → Group row place s → Group row place t → s ≡ t
  same_group row place s t g h = by_members s t (λ j x. (h j).1 ((g j).0 x)) (λ j x. (g j).1 ((h j).0 x))

  module _ {w : W} {cuts : List Cut} {row : List ℕ} where
    judges_follows : {place : ℕ} {v : W} {cs : List Cut} {n : ℕ} {all : Bool} → place ≤ m.count w → Judges m w cuts row place v cs n all → Follows m w v
    judges_follows le judges_start = follows_same refl
    judges_follows le (passes k set u u' ds ds' n' all' h g p) = then_puts laws (omega arith) (judges_follows (omega arith) h) p
    judges_follows le (adds k set u u' ds ds' n' all' a h g p) = then_puts laws (omega arith) (judges_follows (omega arith) h) p

    pub ends_follow : {o : Outcome} {v : W} {after : List Cut} → Ends m w cuts row (m.count w) o v after → Follows m w v
    ends_follow (agreed v' cs n h) = judges_follows (omega arith) h
    ends_follow (refused v' cs n h) = judges_follows (omega arith) h
    ends_follow (stops k set u u' ds ds' n all f l h g p) = then_puts laws l (judges_follows (omega arith) h) p
    ends_follow (fills k set u u' ds ds' n all l h g p) = then_puts laws l (judges_follows (omega arith) h) p

    module _ (good : m.invariant w) where
      all_can : {place : ℕ} {v : W} {cs : List Cut} {n : ℕ} {all : Bool} → all ≡ true → place ≤ m.count w → Judges m w cuts row place v cs n all → CanBelow m w row place
      all_can e le judges_start = λ p s l g. absurd (omega arith)
      all_can e le (passes k set u u' ds ds' n' all' h grp puts) = λ p s l g.
          let lk : k < m.count w = omega arith in
          let f = judges_follows (omega arith) h in
          ⊎_elim
          (λ (same : p ≡ k).
          let gk = subst (λ (q : ℕ). Group row q s) same g in
          let here = (f.kept.family k set lk).1 (puts_told (f.sound good) (kept_below laws lk f.kept) puts) in
          subst (λ (q : ℕ). m.family w q s) (sym same) (subst (λ (t : ℕ). m.family w k t) (same_group row k set s grp gk) here))
          (λ (ne : p ≢ k). all_can e (omega arith) h p s (omega arith) g)
          (cases_eq p k)
      all_can e le (adds k set u u' ds ds' n' all' a h grp puts) = absurd cc

      one_cannot : {place : ℕ} {v : W} {cs : List Cut} {n : ℕ} {all : Bool} → all ≡ false → place ≤ m.count w → Judges m w cuts row place v cs n all → CanBelow m w row place → ⊥
      one_cannot e le judges_start can = absurd cc
      one_cannot e le (passes k set u u' ds ds' n' all' h grp puts) can = one_cannot e (omega arith) h (λ p s l g. can p s (omega arith) g)
      one_cannot e le (adds k set u u' ds ds' n' all' a h grp puts) can =
          let lk : k < m.count w = omega arith in
          let f = judges_follows (omega arith) h in
          puts_told (f.sound good) (kept_below laws lk f.kept) puts ((f.kept.family k set lk).0 (can k set (omega arith) grp))

      pub ends_tell : {o : Outcome} {v : W} {after : List Cut} → Ends m w cuts row (m.count w) o v after → TellsAll m w row o v after
      ends_tell (agreed v' cs n h) = all_can refl (omega arith) h
      ends_tell (refused v' cs n h) = one_cannot refl (omega arith) h
      ends_tell (stops k set u u' ds ds' n all f l h g p) = let fo = judges_follows (omega arith) h in (puts_told (fo.sound good) (kept_below laws l fo.kept) p).2
      ends_tell (fills k set u u' ds ds' n all l h g p) =
          let fo = judges_follows (omega arith) h in
          let told = puts_told (fo.sound good) (kept_below laws l fo.kept) p in
          (l, λ s gs y. told.0 ((fo.kept.family k set l).0 (subst (λ (t : ℕ). m.family w k t) (same_group row k s set gs g) y)), told.1)
