-- What a judgement comes to, place by place.
use Rattle.std.proofs.Common.{◌≡◌, ℕ, suc, ◌+◌, ◌^◌, ◌<◌, ◌≤◌, Bool, true, false, Ok, Err, ◌≢◌, List, length, sym, refl, ap, subst, inl, inr, ⊎_elim, arith}
use Rattle.std.specs.List.{All}
use Rattle.std.proofs.lemmas.List.Elements.{All-weaker, All-push, All-from_recursion}
use Rattle.std.proofs.lemmas.List.{length_push}
use Rattle.std.proofs.lemmas.Bool.{cases_eq, false≢true}
use Rattle.jobs.specs.Sets.{width, bits, Part, without, jobs_of}
use Rattle.facilities.specs.Shrinking.{Shrinks, Minimal as Smallest}
use Rattle.facilities.specs.Shrinking.Tried.{stays, goes}
use Rattle.facilities.proofs.Shrinking.{shrinks_more, shrunk_minimal}
use Rattle.workshops.specs.Stances.{Stopped}
use Rattle.workshops.specs.Workshops.{Meaning, Lawful}
use Rattle.workshops.specs.declared.reply.Fault.{Fault}
use Rattle.master.specs.Cuts.{room, cut_of, Breaks, Obeys}
use Rattle.master.specs.Rows.{Group}
use Rattle.master.specs.declared.cut.Addition.{Addition}
use Rattle.master.specs.declared.cut.Cut.{Cut}
use Rattle.judging.specs.Judging.{set_of, tally, Asked, Tries, Puts, Judges, Ends}
use Rattle.judging.specs.Judging.Tries.{start as tries_start, needed, spared}
use Rattle.judging.specs.Judging.Puts.{passed, stopped, full, halted, added}
use Rattle.judging.specs.Judging.Judges.{start as judges_start, passes, adds}
use Rattle.judging.specs.Judging.Ends.{agreed, refused, stops, fills}
use Rattle.judging.specs.declared.outcome.Turn.TheVariants.{Passed, Added, Stopped as StoppingTurn, Full as FullTurn}
use Rattle.judging.specs.declared.outcome.Outcome.{Outcome}
use Rattle.judging.specs.declared.outcome.Outcome.TheVariants.{Agreed, Cut as Cutting, Stopped as Stopping, Full as Filling}
use Rattle.planner.specs.Laws.{Minimal}
use Rattle.planner.proofs.Groups.{group_once, group_fits}
use Rattle.planner.proofs.Keeping.{Faithful, faithful_asked, said_yes, said_no, stops_again}
use Rattle.planner.proofs.Placing.{Fresh, PutLast, never_covered, put_last}

-- how many cuts the judgement says that it added
abbrev pub tallied : Outcome → ℕ
tallied Agreed = 0
tallied (Cutting count) = count
tallied (Stopping x count) = count
tallied (Filling place count) = count

module _ {W J : Type 0} (m : Meaning W) (joins : J → ℕ → ℕ → ℕ) (w : W) (measure : J) (n : ℕ) where
  -- a set that was put to a place and refused, shrunk
  pub record Refines (place set t : ℕ) (v : W) : Type 0 where
    pub faithful : Faithful m w v
    pub part : Part t set
    pub minimal : Minimal m joins w measure n (cut_of place (set_of t))

  module _ (row : List ℕ) where
    -- with the places below the given one judged
    pub record Progress (old : List Cut) (place : ℕ) (v : W) (cs : List Cut) (count : ℕ) (all : Bool) : Type 0 where
      pub faithful : Faithful m w v
      pub minimal : All (Minimal m joins w measure n) cs
      pub fresh : All (Fresh row place) cs
      pub number : length cs ≡ length old + count
      pub unanimous : all ≡ true → count ≡ 0
      pub opposed : all ≡ false → 0 < count
      pub scheduled : all ≡ true → (q set : ℕ) → q < place → Group row q set → m.family w q set

    -- what the outcome says, v being the workshop and cs the cuts then
    abbrev pub Tells : Outcome → W → List Cut → Type 0
    Tells Agreed v cs = (q set : ℕ) → q < m.count w → Group row q set → m.family w q set
    Tells (Cutting count) v cs = 0 < count
    Tells (Stopping x count) v cs = (x.place < m.count w) × (m.stance v x.place (bits x.set) ≡ Stopped x.cause x.depth)
    Tells (Filling place count) v cs = (place < m.count w) × (length cs ≡ room) × ((set : ℕ) → Group row place set → m.family w place set → ⊥)

    pub record Ended (old : List Cut) (o : Outcome) (v : W) (cs : List Cut) : Type 0 where
      pub faithful : Faithful m w v
      pub minimal : All (Minimal m joins w measure n) cs
      pub number : length cs ≡ length old + tallied o
      pub tells : Tells o v cs

module _ {W J : Type 0} (m : Meaning W) (joins : J → ℕ → ℕ → ℕ) (laws : Lawful m) (w : W) (measure : J) (n : ℕ) where
  -- the trials shrink the set in the family of w
  pub tried : (place set : ℕ) (u : W) → place < m.count w → Faithful m w u → (js : List ℕ) (t : ℕ) (v : W) → Tries m place set u js t v
      → Faithful m w v × Shrinks (m.family w place) js set t
  tried place set u lt f js t v tries_start = (f, refl)
  tried place set u lt f js t v (needed ks j t' v₀ v₁ before ask) =
      let h = tried place set u lt f ks t v₀ before in (
        faithful_asked m laws w v₀ v place (without t j) h.0 lt (Ok true) ask,
        shrinks_more (m.family w place) ks set t j t h.1 (stays (said_yes m laws w v₀ v place (without t j) h.0 lt ask) refl),
      )
  tried place set u lt f js t v (spared ks j t' v₀ v₁ before ask) =
      let h = tried place set u lt f ks t' v₀ before in (
        faithful_asked m laws w v₀ v place (without t' j) h.0 lt (Ok false) ask,
        shrinks_more (m.family w place) ks set t' j (without t' j) h.1 (goes (said_no m laws w v₀ v place (without t' j) h.0 lt ask) refl),
      )

  refines : (place set t : ℕ) (v v₁ u : W) → place < m.count w → set < 2 ^ width → Faithful m w v → Asked m v place set (Ok false) v₁ → Tries m place set v₁ (jobs_of set) t u
      → Refines m joins w measure n place set t u
  refines place set t v v₁ u lt small f ask tries =
      let h = tried place set v₁ lt (faithful_asked m laws w v v₁ place set f lt (Ok false) ask) (jobs_of set) t u tries in
      let s : Smallest (m.family w place) set t =
      shrunk_minimal (m.family w place) (λ part whole p y. laws.parts w place part whole lt p y) set t small (record { fails = said_no m laws w v v₁ place set f lt ask; shrinks = h.1 }) in
      record { faithful = h.0; part = s.part; minimal = record { place = lt; fails = s.fails; nearly = s.tight } }

  module _ (row : List ℕ) where
    fresh_next : (place : ℕ) (cs : List Cut) → All (Fresh row place) cs → All (Fresh row (suc place)) cs
    fresh_next place cs h = All-weaker (Fresh row place) (Fresh row (suc place)) (λ d f. ⊎_elim inl (λ (lt : d.place < place). inr (omega arith)) f) cs h

    -- the place said yes
    next_passed : (old : List Cut) (place set : ℕ) (v v' : W) (cs cs' : List Cut) (count : ℕ) (all : Bool) → place < m.count w → Progress m joins w measure n row old place v cs count all
        → Group row place set → Puts m place set v cs Passed v' cs' → Progress m joins w measure n row old (suc place) v' cs' count all
    next_passed old place set v v' cs cs' count all lt h g (passed v'' ask) = record {
      faithful = faithful_asked m laws w v v' place set h.faithful lt (Ok true) ask;
      minimal = h.minimal;
      fresh = fresh_next place cs h.fresh;
      number = h.number;
      unanimous = h.unanimous;
      opposed = h.opposed;
      scheduled = λ e q s l k. ⊎_elim
          (λ (same : q ≡ place).
          let is : set ≡ s = group_once row place set s g (subst (λ (p : ℕ). Group row p s) same k) in
          subst (λ (p : ℕ). m.family w p s) (sym same) (subst (λ (x : ℕ). m.family w place x) is (said_yes m laws w v v' place set h.faithful lt ask)))
          (λ (ne : q ≢ place). h.scheduled e q s (omega arith) k)
          (cases_eq q place);
    }

    -- the place said no, and a cut was put
    next_added : length row ≤ width → (old : List Cut) (place set : ℕ) (v v' : W) (cs cs' : List Cut) (count : ℕ) (all : Bool) (a : Addition) → place < m.count w → Progress m joins w measure n row old place v cs count all
        → Group row place set → Puts m place set v cs (Added a) v' cs' → Progress m joins w measure n row old (suc place) v' cs' (count + tally a) false
    next_added short old place set v v' cs cs' count all a lt h g (added t b v₁ u after ask few tries ad) =
        let c = cut_of place (set_of t) in
        let r : Refines m joins w measure n place set t v' = refines place set t v v₁ v' lt (group_fits row place set short g) h.faithful ask tries in
        let l : PutLast cs c a cs' =
        put_last m joins laws w measure n c r.minimal.fails cs cs' a h.minimal (never_covered row place set t cs g r.part h.fresh) few ad in
        record {
          faithful = r.faithful;
          minimal = subst (λ (xs : List Cut). All (Minimal m joins w measure n) xs) (sym l.cuts) (All-push (Minimal m joins w measure n) cs c h.minimal r.minimal);
          fresh = subst (λ (xs : List Cut). All (Fresh row (suc place)) xs) (sym l.cuts) (All-push (Fresh row (suc place)) cs c (fresh_next place cs h.fresh) (inr (omega arith)));
          number = omega (arith, ap length l.cuts, length_push cs c, ap tally l.answer, h.number);
          unanimous = λ e. absurd (false≢true e);
          opposed = λ e. omega (arith, ap tally l.answer);
          scheduled = λ e q s x k. absurd (false≢true e);
        }

    pub progress : length row ≤ width → (u : W) (old : List Cut) → Faithful m w u → All (Minimal m joins w measure n) old → Obeys row old
        → (place : ℕ) (v : W) (cs : List Cut) (count : ℕ) (all : Bool) → place ≤ m.count w → Judges m u old row place v cs count all → Progress m joins w measure n row old place v cs count all
    progress short u old f min obeys place v cs count all le judges_start = record {
      faithful = f;
      minimal = min;
      fresh = All-weaker (λ d. Breaks row d → ⊥) (Fresh row 0) (λ d h. inl h) old (All-from_recursion _ old obeys);
      number = omega arith;
      unanimous = λ e. refl;
      opposed = λ e. absurd (false≢true (sym e));
      scheduled = λ e q s l k. absurd (omega arith);
    }
    progress short u old f min obeys place v cs count all le (passes p set v₀ v' ds ds' k a before g puts) =
        next_passed old p set v₀ v ds cs count all (omega arith) (progress short u old f min obeys p v₀ ds count all (omega arith) before) g puts
    progress short u old f min obeys place v cs count all le (adds p set v₀ v' ds ds' k a b before g puts) =
        next_added short old p set v₀ v ds cs k a b (omega arith) (progress short u old f min obeys p v₀ ds k a (omega arith) before) g puts

    ends_stopped : (old : List Cut) (place set : ℕ) (v v' : W) (cs cs' : List Cut) (count : ℕ) (all : Bool) (x : Fault) → place < m.count w → Progress m joins w measure n row old place v cs count all
        → Puts m place set v cs (StoppingTurn x) v' cs' → Ended m joins w measure n row old (Stopping x count) v' cs'
    ends_stopped old place set v v' cs cs' count all x lt h (stopped y v₁ ask) = record {
      faithful = faithful_asked m laws w v v' place set h.faithful lt (Err x) ask;
      minimal = h.minimal;
      number = h.number;
      tells = stops_again m laws w v v' place set h.faithful lt x ask;
    }
    ends_stopped old place set v v' cs cs' count all x lt h (halted js j rest t y v₁ v₂ v₃ ask few split tries stop) =
        let k = tried place set v₁ lt (faithful_asked m laws w v v₁ place set h.faithful lt (Ok false) ask) js t v₂ tries in
        record {
          faithful = faithful_asked m laws w v₂ v' place (without t j) k.0 lt (Err x) stop;
          minimal = h.minimal;
          number = h.number;
          tells = stops_again m laws w v₂ v' place (without t j) k.0 lt x stop;
        }

    ends_full : (old : List Cut) (place set : ℕ) (v v' : W) (cs cs' : List Cut) (count : ℕ) (all : Bool) → place < m.count w → Progress m joins w measure n row old place v cs count all
        → Group row place set → Puts m place set v cs FullTurn v' cs' → Ended m joins w measure n row old (Filling place count) v' cs'
    ends_full old place set v v' cs cs' count all lt h g (full v₁ ask whole) = record {
      faithful = faithful_asked m laws w v v' place set h.faithful lt (Ok false) ask;
      minimal = h.minimal;
      number = h.number;
      tells = (lt, whole, λ s k y. said_no m laws w v v' place set h.faithful lt ask (subst (λ (i : ℕ). m.family w place i) (group_once row place s set k g) y));
    }

    pub ended : length row ≤ width → (u : W) (old : List Cut) → Faithful m w u → All (Minimal m joins w measure n) old → Obeys row old
        → (o : Outcome) (v : W) (cs : List Cut) → Ends m u old row (m.count w) o v cs → Ended m joins w measure n row old o v cs
    ended short u old f min obeys o v cs (agreed v₁ cs₁ count j) =
        let h = progress short u old f min obeys (m.count w) v cs count true (omega arith) j in
        record { faithful = h.faithful; minimal = h.minimal; number = omega (arith, h.number, h.unanimous refl); tells = h.scheduled refl }
    ended short u old f min obeys o v cs (refused v₁ cs₁ count j) =
        let h = progress short u old f min obeys (m.count w) v cs count false (omega arith) j in
        record { faithful = h.faithful; minimal = h.minimal; number = h.number; tells = h.opposed refl }
    ended short u old f min obeys o v cs (stops place set v₀ v₁ ds ds₁ count all x lt j g puts) =
        ends_stopped old place set v₀ v ds cs count all x lt (progress short u old f min obeys place v₀ ds count all (omega arith) j) puts
    ended short u old f min obeys o v cs (fills place set v₀ v₁ ds ds₁ count all lt j g puts) =
        ends_full old place set v₀ v ds cs count all lt (progress short u old f min obeys place v₀ ds count all (omega arith) j) g puts
