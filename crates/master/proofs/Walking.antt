-- The turns of the search, on its arrays.
use Rattle.std.proofs.Common.{◌≡◌, ℕ, zero, suc, ◌+◌, ◌^◌, ◌<◌, ◌≤◌, Bool, true, false, ◌≢◌, ◌⊎◌, List, [], ◌∷◌, ◌++◌, length, get_or, take, set, replicate, Some, None, Option, sym, refl, ap, ◌∙◌, subst, ⊎_elim, add-one, arith}
use Rattle.std.proofs.ByRecursion.{All-push}
use Rattle.std.proofs.lemmas.List.{take_more, take-set, take-set-le, get_or-set_same, get_or-set_other, length-set, length-take-le}
use Rattle.std.proofs.lemmas.Bool.{cases_eq, true≢false}
use Rattle.std.specs.List.{AllByRecursion}
use Rattle.jobs.specs.Sets.{width, Has}
use Rattle.jobs.specs.Words.{Same}
use Rattle.jobs.proofs.Members.{none_in_zero}
use Rattle.master.specs.Cuts.{Obeys}
use Rattle.master.specs.Master.{Candidate, Finds, NoCandidate}
use Rattle.master.specs.Rows.{row_places, Group, Permits, costs}
use Rattle.master.specs.Walks.{Starts, Spare, Sofar, Walks, ahead, left_of, Matched, Cheaper, group_at, JoinsGroup, QuitsGroup}
use Rattle.master.specs.declared.cut.Cut.{Cut}
use Rattle.master.specs.declared.groups.Groups.{Groups}
use Rattle.master.specs.declared.priced.Priced.{Priced}
use Rattle.master.proofs.Breaking.{obeys_shorter}
use Rattle.master.proofs.Climbing.{Climbs}
use Rattle.master.proofs.Giving.{gives_still, gives_last, group_more, group_other, group_less, group_front, group_none, permits_push, permits_front, joins_push}
use Rattle.master.proofs.Passing.{starts_gives, starts_more}
use Rattle.master.proofs.Searching.{sofar_down, sofar_back, sofar_skip, sofar_take, sofar_start, sofar_end, ahead_skip, ahead_down, ahead_back}

all_front : {X : Type 0} (P : X → Type 0) (xs : List X) (y : X) → AllByRecursion P (xs ++ y ∷ []) → AllByRecursion P xs × P y
all_front P [] y h = (tt, h.0)
all_front P (x ∷ xs) y h = let k = all_front P xs y h.1 in ((h.0, k.0), k.1)

-- a write at one of the first n jobs
spare_set : (n : ℕ) (row : List ℕ) (d v : ℕ) → d < n → Spare n row → Spare n (set row d v)
spare_set n row d v l h k le = let ne : k ≢ d = omega arith in get_or-set_other row d k v 0 ne ∙ h k le

module _ (n m : ℕ) (joined price : ℕ → ℕ → ℕ) (barred : ℕ → ℕ → Bool) (cuts : List Cut) (row totals : List ℕ) (groups : Groups) (d : ℕ) (best : Option Priced)
    (h : Walks n m joined price barred cuts row totals groups d best) where
  abbrev x : ℕ
  x = get_or row d 0

  -- the next place for the same job
  pub walk_next : (best' : Option Priced) → x < m → Sofar n m joined price barred cuts (take d row) (suc x) best' → Walks n m joined price barred cuts (set row d (x + 1)) totals groups d best'
  walk_next best' lt s =
      let in_row : d < length row = omega (arith, h.row_long, h.deep, h.few) in
      let same : take d (set row d (x + 1)) ≡ take d row = take-set row d (x + 1) in
      let here : get_or (set row d (x + 1)) d 0 ≡ x + 1 = get_or-set_same row d (x + 1) 0 in_row in
      record {
        deep = h.deep;
        few = h.few;
        next = omega (arith, here, lt);
        row_long = length-set row d (x + 1) ∙ h.row_long;
        totals_long = h.totals_long;
        within = subst (λ (r : List ℕ). AllByRecursion (λ y. y < m) r) (sym same) h.within;
        permitted = subst (λ (r : List ℕ). Permits barred r) (sym same) h.permitted;
        obeying = subst (λ (r : List ℕ). Obeys r cuts) (sym same) h.obeying;
        grouped = λ p l. subst (λ (r : List ℕ). Group r p (group_at groups p)) (sym same) (h.grouped p l);
        noted = λ k l. h.noted k l ∙ ap (λ (r : List ℕ). costs joined price r) (sym (take-set-le k row d (x + 1) l));
        spare = spare_set n row d (x + 1) h.deep h.spare;
        sofar = subst (λ (r : List ℕ). Sofar n m joined price barred cuts r (get_or (set row d (x + 1)) d 0) best') (sym same)
            (subst (λ (i : ℕ). Sofar n m joined price barred cuts (take d row) i best') (sym (here ∙ add-one x)) s);
      }

  -- on to the next job
  pub walk_down : (total : ℕ) (groups' : Groups) → x < m → d + 1 < n → barred d x ≡ false → Obeys (take d row ++ x ∷ []) cuts → JoinsGroup groups x d groups' → total ≡ joined (get_or totals d 0) (price d x)
      → Walks n m joined price barred cuts (set row (d + 1) 0) (set totals (d + 1) total) groups' (d + 1) best
  walk_down total groups' lt deeper free ok put is =
      let in_row : d + 1 < length row = omega (arith, h.row_long, h.few) in
      let in_totals : d + 1 < length totals = omega (arith, h.totals_long, h.few) in
      let here : get_or (set row (d + 1) 0) (d + 1) 0 ≡ 0 = get_or-set_same row (d + 1) 0 0 in_row in
      let same : take (d + 1) (set row (d + 1) 0) ≡ take d row ++ x ∷ [] = take-set row (d + 1) 0 ∙ take_more row d 0 (omega arith) in
      let long : d ≡ length (take d row) = sym (length-take-le d row (omega arith)) in
      record {
        deep = deeper;
        few = h.few;
        next = omega (arith, here);
        row_long = length-set row (d + 1) 0 ∙ h.row_long;
        totals_long = length-set totals (d + 1) total ∙ h.totals_long;
        within = subst (λ (r : List ℕ). AllByRecursion (λ y. y < m) r) (sym same) (All-push (λ y. y < m) (take d row) x h.within lt);
        permitted = subst (λ (r : List ℕ). Permits barred r) (sym same) (permits_push barred (take d row) x d long h.permitted free);
        obeying = subst (λ (r : List ℕ). Obeys r cuts) (sym same) ok;
        grouped = λ p l. subst (λ (r : List ℕ). Group r p (group_at groups' p)) (sym same) (⊎_elim
            (λ (e : p ≡ x). subst (λ (i : ℕ). Group (take d row ++ x ∷ []) i (group_at groups' i)) (sym e)
            (group_more (take d row) x x (group_at groups x) (group_at groups' x) refl (subst (λ (k : ℕ). (j : ℕ) → Same (Has (group_at groups' x) j) (Has (group_at groups x) j ⊎ (j ≡ k))) long put.here) (h.grouped x lt)))
            (λ (ne : p ≢ x). subst (λ (i : ℕ). Group (take d row ++ x ∷ []) p i) (sym (put.others p ne)) (group_other (take d row) x p (group_at groups p) (λ e. ne (sym e)) (h.grouped p l)))
            (cases_eq p x));
        noted = λ k l. ⊎_elim
            (λ (e : k ≡ d + 1).
            subst (λ (i : ℕ). get_or (set totals (d + 1) total) i 0 ≡ costs joined price (take i (set row (d + 1) 0))) (sym e)
            (get_or-set_same totals (d + 1) total 0 in_totals ∙ is ∙ ap (λ (i : ℕ). joined i (price d x)) (h.noted d (omega arith))
            ∙ sym (joins_push joined price 0 0 d (take d row) x (omega arith)) ∙ ap (λ (r : List ℕ). costs joined price r) (sym same)))
            (λ (ne : k ≢ d + 1).
            get_or-set_other totals (d + 1) k total 0 ne ∙ h.noted k (omega arith) ∙ ap (λ (r : List ℕ). costs joined price r) (sym (take-set-le k row (d + 1) 0 l)))
            (cases_eq k (d + 1));
        spare = spare_set n row (d + 1) 0 deeper h.spare;
        sofar = subst (λ (r : List ℕ). Sofar n m joined price barred cuts r (get_or (set row (d + 1) 0) (d + 1) 0) best) (sym same)
            (subst (λ (i : ℕ). Sofar n m joined price barred cuts (take d row ++ x ∷ []) i best) (sym here) (sofar_down n m joined price barred cuts (take d row) x best h.sofar));
      }

  -- back to the job before
  pub walk_back : (e : ℕ) (groups' : Groups) → d ≡ e + 1 → x ≡ m → QuitsGroup groups (get_or row e 0) e groups' → Walks n m joined price barred cuts (set row e (get_or row e 0 + 1)) totals groups' e best
  walk_back e groups' q last quit =
      let y : ℕ = get_or row e 0 in
      let in_row : e < length row = omega (arith, h.row_long, h.deep, h.few) in
      let here : get_or (set row e (y + 1)) e 0 ≡ y + 1 = get_or-set_same row e (y + 1) 0 in_row in
      let same : take e (set row e (y + 1)) ≡ take e row = take-set row e (y + 1) in
      let split : take d row ≡ take e row ++ y ∷ [] = ap (λ (i : ℕ). take i row) q ∙ take_more row e 0 in_row in
      let parts = all_front (λ z. z < m) (take e row) y (subst (λ (r : List ℕ). AllByRecursion (λ z. z < m) r) split h.within) in
      let s₁ : Sofar n m joined price barred cuts (take e row ++ y ∷ []) m best =
      subst (λ (i : ℕ). Sofar n m joined price barred cuts (take e row ++ y ∷ []) i best) last (subst (λ (r : List ℕ). Sofar n m joined price barred cuts r x best) split h.sofar) in
      let s₂ = sofar_back n m joined price barred cuts (take e row) y best (omega (arith, length-take-le e row (omega arith), h.deep)) s₁ in
      record {
        deep = omega (arith, h.deep);
        few = h.few;
        next = omega (arith, here, parts.1);
        row_long = length-set row e (y + 1) ∙ h.row_long;
        totals_long = h.totals_long;
        within = subst (λ (r : List ℕ). AllByRecursion (λ z. z < m) r) (sym same) parts.0;
        permitted = subst (λ (r : List ℕ). Permits barred r) (sym same) (permits_front barred (take e row) y (subst (λ (r : List ℕ). Permits barred r) split h.permitted));
        obeying = subst (λ (r : List ℕ). Obeys r cuts) (sym same) (obeys_shorter (take e row) (take e row ++ y ∷ []) cuts (gives_still (take e row) y) (subst (λ (r : List ℕ). Obeys r cuts) split h.obeying));
        grouped = λ p l. subst (λ (r : List ℕ). Group r p (group_at groups' p)) (sym same) (
            let was : Group (take e row ++ y ∷ []) p (group_at groups p) = subst (λ (r : List ℕ). Group r p (group_at groups p)) split (h.grouped p l) in
            ⊎_elim
            (λ (f : p ≡ y). subst (λ (i : ℕ). Group (take e row) i (group_at groups' i)) (sym f)
            (group_less (take e row) y (group_at groups y) (group_at groups' y) (subst (λ (k : ℕ). (j : ℕ) → Same (Has (group_at groups' y) j) (Has (group_at groups y) j × (j ≡ k → ⊥))) (sym (length-take-le e row (omega arith))) quit.here)
            (subst (λ (i : ℕ). Group (take e row ++ y ∷ []) i (group_at groups i)) f was)))
            (λ (ne : p ≢ y). subst (λ (i : ℕ). Group (take e row) p i) (sym (quit.others p ne)) (group_front (take e row) y p (group_at groups p) (λ f. ne (sym f)) was))
            (cases_eq p y));
        noted = λ k l. h.noted k (omega arith) ∙ ap (λ (r : List ℕ). costs joined price r) (sym (take-set-le k row e (y + 1) l));
        spare = spare_set n row e (y + 1) (omega (arith, h.deep)) h.spare;
        sofar = subst (λ (r : List ℕ). Sofar n m joined price barred cuts r (get_or (set row e (y + 1)) e 0) best) (sym same)
            (subst (λ (i : ℕ). Sofar n m joined price barred cuts (take e row) i best) (sym (here ∙ add-one y)) s₂);
      }

  long : d ≡ length (take d row)
  long = sym (length-take-le d row (omega (arith, h.row_long, h.deep, h.few)))

  -- what may be passed over: a barred place
  pub skip_barred : barred d x ≡ true → (r : List ℕ) → Candidate n m barred cuts r → Starts (take d row) x r → Matched (costs joined price r) best
  skip_barred e r c s =
      let given = starts_gives (take d row) x r s (length (take d row)) x (gives_last (take d row) x) in
      let free : barred d x ≡ false = ap (λ (i : ℕ). barred i x) long ∙ c.permitted (length (take d row)) x given in
      absurd (true≢false (sym e ∙ free))

  -- the total with the next place
  pub total_is : (total : ℕ) → total ≡ joined (get_or totals d 0) (price d x) → total ≡ costs joined price (take d row ++ x ∷ [])
  total_is total is =
      is ∙ ap (λ (i : ℕ). joined i (price d x)) (h.noted d (omega arith)) ∙ sym (joins_push joined price 0 0 d (take d row) x (omega (arith, long)))

  -- or what costs too much already
  pub skip_dear : Climbs joined → ((j k : ℕ) → price j k < 2 ^ 32)
      → (total : ℕ) → total ≡ joined (get_or totals d 0) (price d x) → Matched total best → (r : List ℕ) → Candidate n m barred cuts r → Starts (take d row) x r → Matched (costs joined price r) best
  skip_dear climbs cheap total is k r c s = go best k
    where
      go : (o : Option Priced) → Matched total o → Matched (costs joined price r) o
      go None q = q
      go (Some b) q = omega (arith, total_is total is, starts_more joined price climbs cheap 0 0 (take d row) x r (omega arith) s)

  whole : d + 1 ≡ n → take n row ≡ take d row ++ x ∷ []
  whole e = ap (λ (i : ℕ). take i row) (sym e) ∙ take_more row d 0 (omega (arith, h.row_long, h.deep, h.few))

  -- or what breaks a cut already
  pub skip_broken : (Obeys (take d row ++ x ∷ []) cuts → ⊥) → (r : List ℕ) → Candidate n m barred cuts r → Starts (take d row) x r → Matched (costs joined price r) best
  skip_broken broken r c s = absurd (broken (obeys_shorter (take d row ++ x ∷ []) r cuts (starts_gives (take d row) x r s) c.obeys))

  pub walk_skip : x < m → ((r : List ℕ) → Candidate n m barred cuts r → Starts (take d row) x r → Matched (costs joined price r) best) → Walks n m joined price barred cuts (set row d (x + 1)) totals groups d best
  walk_skip lt k = walk_next best lt (sofar_skip n m joined price barred cuts (take d row) x best k h.sofar)

  pub walk_take : (b : Priced) → row_places b.row ≡ take n row → x < m → d + 1 ≡ n → barred d x ≡ false → Obeys (take d row ++ x ∷ []) cuts → b.cost ≡ joined (get_or totals d 0) (price d x) → Cheaper b.cost best
      → Walks n m joined price barred cuts (set row d (x + 1)) totals groups d (Some b)
  walk_take b same lt e free ok is less =
      let all : row_places b.row ≡ take d row ++ x ∷ [] = same ∙ whole e in
      let c : Candidate n m barred cuts (take d row ++ x ∷ []) = record {
        assigns = record { jobs = sym (ap length (whole e)) ∙ length-take-le n row (omega (arith, h.row_long, h.few)); places = All-push (λ y. y < m) (take d row) x h.within lt };
        permitted = permits_push barred (take d row) x d long h.permitted free;
        obeys = ok;
      } in
      walk_next (Some b) lt
      (sofar_take n m joined price barred cuts (take d row) x best b (omega (arith, long)) all
      (subst (λ (r : List ℕ). Candidate n m barred cuts r) (sym all) c)
      (total_is b.cost is ∙ ap (λ (r : List ℕ). costs joined price r) (sym all)) less h.sofar)

  pub walk_over : d ≡ 0 → x ≡ m → Finds n m joined price barred cuts best
  walk_over e last =
      let none : take d row ≡ [] = ap (λ (i : ℕ). take i row) e in
      sofar_end n m joined price barred cuts (omega (arith, h.deep)) best
      (subst (λ (i : ℕ). Sofar n m joined price barred cuts [] i best) last (subst (λ (r : List ℕ). Sofar n m joined price barred cuts r x best) none h.sofar))

  -- less is left after each turn
  pub next_less : x < m → left_of n m (set row d (x + 1)) d < left_of n m row d
  next_less lt =
      let in_row : d < length row = omega (arith, h.row_long, h.deep, h.few) in
      let e : left_of n m (set row d (x + 1)) d ≡ ahead m n (take d row) (suc x) =
      ap (λ (r : List ℕ). ahead m n r (get_or (set row d (x + 1)) d 0)) (take-set row d (x + 1)) ∙ ap (λ (i : ℕ). ahead m n (take d row) i) (get_or-set_same row d (x + 1) 0 in_row ∙ add-one x) in
      omega (arith, e, ahead_skip m n (take d row) x (omega arith))

  pub down_less : x < m → d + 1 < n → left_of n m (set row (d + 1) 0) (d + 1) < left_of n m row d
  down_less lt deeper =
      let in_row : d + 1 < length row = omega (arith, h.row_long, h.few) in
      let same : take (d + 1) (set row (d + 1) 0) ≡ take d row ++ x ∷ [] = take-set row (d + 1) 0 ∙ take_more row d 0 (omega arith) in
      let e : left_of n m (set row (d + 1) 0) (d + 1) ≡ ahead m n (take d row ++ x ∷ []) 0 =
      ap (λ (r : List ℕ). ahead m n r (get_or (set row (d + 1) 0) (d + 1) 0)) same ∙ ap (λ (i : ℕ). ahead m n (take d row ++ x ∷ []) i) (get_or-set_same row (d + 1) 0 0 in_row) in
      omega (arith, e, ahead_down m n (take d row) x (omega arith) (omega (arith, length-take-le d row (omega arith))))

  pub back_less : (e : ℕ) → d ≡ e + 1 → x ≡ m → left_of n m (set row e (get_or row e 0 + 1)) e < left_of n m row d
  back_less e q last =
      let y : ℕ = get_or row e 0 in
      let in_row : e < length row = omega (arith, h.row_long, h.deep, h.few) in
      let after : left_of n m (set row e (y + 1)) e ≡ ahead m n (take e row) (suc y) =
      ap (λ (r : List ℕ). ahead m n r (get_or (set row e (y + 1)) e 0)) (take-set row e (y + 1)) ∙ ap (λ (i : ℕ). ahead m n (take e row) i) (get_or-set_same row e (y + 1) 0 in_row ∙ add-one y) in
      let split : take d row ≡ take e row ++ y ∷ [] = ap (λ (i : ℕ). take i row) q ∙ take_more row e 0 in_row in
      let was : left_of n m row d ≡ ahead m n (take e row ++ y ∷ []) m = ap (λ (r : List ℕ). ahead m n r x) split ∙ ap (λ (i : ℕ). ahead m n (take e row ++ y ∷ []) i) last in
      omega (arith, after, was, ahead_back m n (take e row) y (omega (arith, length-take-le e row (omega arith), h.deep)))

  pub before_below : (e : ℕ) → d ≡ e + 1 → get_or row e 0 < m
  before_below e q =
      let in_row : e < length row = omega (arith, h.row_long, h.deep, h.few) in
      let split : take d row ≡ take e row ++ get_or row e 0 ∷ [] = ap (λ (i : ℕ). take i row) q ∙ take_more row e 0 in_row in
      (all_front (λ z. z < m) (take e row) (get_or row e 0) (subst (λ (r : List ℕ). AllByRecursion (λ z. z < m) r) split h.within)).1

get_or_replicate_zero : (c k : ℕ) → ◌≡◌ {A = ℕ} (get_or (replicate c 0) k 0) 0
get_or_replicate_zero zero k = refl
get_or_replicate_zero (suc c) zero = refl
get_or_replicate_zero (suc c) (suc k) = get_or_replicate_zero c k

-- where the search starts
pub walk_start : (n m : ℕ) (joined price : ℕ → ℕ → ℕ) (barred : ℕ → ℕ → Bool) (cuts : List Cut) (groups : Groups) → 0 < n → n ≤ width → Obeys [] cuts → ((p : ℕ) → group_at groups p ≡ 0)
    → Walks n m joined price barred cuts (replicate width 0) (replicate width 0) groups 0 None
walk_start n m joined price barred cuts groups some few ok empty = record {
  deep = some;
  few = few;
  next = omega arith;
  row_long = refl;
  totals_long = refl;
  within = tt;
  permitted = λ j p g. let z : ◌≡◌ {A = ℕ} 0 1 = cc in absurd (omega arith);
  obeying = ok;
  grouped = λ p l. subst (λ (s : ℕ). Group [] p s) (sym (empty p)) (group_none p 0 none_in_zero);
  noted = λ k l. let z : k ≡ 0 = omega arith in subst (λ (i : ℕ). get_or (replicate width 0) i 0 ≡ costs joined price (take i (replicate width 0))) (sym z) refl;
  spare = λ k l. get_or_replicate_zero width k;
  sofar = sofar_start n m joined price barred cuts;
}

-- where the cuts allow no start, there is no candidate
pub no_start : (n m : ℕ) (barred : ℕ → ℕ → Bool) (cuts : List Cut) → (Obeys [] cuts → ⊥) → NoCandidate n m barred cuts
no_start n m barred cuts broken row c = broken (obeys_shorter [] row cuts (λ j p g. let z : ◌≡◌ {A = ℕ} 0 1 = cc in absurd (omega arith)) c.obeys)
