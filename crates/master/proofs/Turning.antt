-- Each turn of the search, at a tariff and a table: it keeps what is known, and less is left.
use Rattle.std.proofs.Common.{◌≡◌, ℕ, ◌+◌, ◌-◌, ◌^◌, ◌<◌, ◌≤◌, List, get_or, take, Some, None, Option, sym, refl, ◌∙◌, subst, arith}
use Rattle.master.specs.Master.{Candidate}
use Rattle.master.specs.Rows.{costs}
use Rattle.master.specs.Tables.{held}
use Rattle.master.specs.Tariffs.{job_count, place_count, terms_of, from_terms, price_of, barred_in}
use Rattle.master.specs.Walks.{Walks, Walking, left_in, left_of, FindsIn, Matched, Cheaper, Starts, next_place, last_place, Skips, Takes, Deepens, Backs, Worth, Worthless}
use Rattle.master.specs.Walks.Worthless.{barred, dear, broken}
use Rattle.master.specs.declared.groups.Groups.{Groups}
use Rattle.master.specs.declared.offer.Terms.{Terms}
use Rattle.master.specs.declared.priced.Priced.{Priced}
use Rattle.master.specs.declared.table.CutTable.{CutTable}
use Rattle.master.specs.declared.tariff.Tariff.{Tariff}
use Rattle.master.specs.declared.walk.Walk.{Walk}
use Rattle.master.proofs.Climbing.{Climbs}
use Rattle.master.proofs.Walking as walking

-- prices are small
pub price_fits : (t : Tariff) (j p : ℕ) → price_of t j p < 2 ^ 32
price_fits t j p = go (terms_of t j p)
  where
    go : (o : Option Terms) → from_terms (λ m. m.price) 0 o < 2 ^ 32
    go None = omega arith
    go (Some m) = omega (arith, m.low)

module _ (joined : ℕ → ℕ → ℕ) (t : Tariff) (cuts : CutTable) (w : Walk) (h : Walking joined t cuts w) where
  abbrev Turned : Walk → Type 0
  Turned v = Walking joined t cuts v × (left_in t v < left_in t w)

  moved : (v : Walk) {row totals : List ℕ} {groups : Groups} {depth : ℕ} {best : Option Priced} → v.row ≡ row → v.totals ≡ totals → v.groups ≡ groups → v.depth ≡ depth → v.best ≡ best
      → Walks (job_count t) (place_count t) joined (price_of t) (barred_in t) (held cuts) row totals groups depth best → left_of (job_count t) (place_count t) row depth < left_in t w → Turned v
  moved v {row} {totals} {groups} {depth} {best} p q r s u k l =
      let W : List ℕ → List ℕ → Groups → ℕ → Option Priced → Type 0 = Walks (job_count t) (place_count t) joined (price_of t) (barred_in t) (held cuts) in
      let L : List ℕ → ℕ → Type 0 = λ x y. left_of (job_count t) (place_count t) x y < left_in t w in (
        subst (λ (a : List ℕ). W a v.totals v.groups v.depth v.best) (sym p)
            (subst (λ (a : List ℕ). W row a v.groups v.depth v.best) (sym q)
            (subst (λ (a : Groups). W row totals a v.depth v.best) (sym r)
            (subst (λ (a : ℕ). W row totals groups a v.best) (sym s) (subst (λ (a : Option Priced). W row totals groups depth a) (sym u) k)))),
        subst (λ (a : List ℕ). L a v.depth) (sym p) (subst (λ (a : ℕ). L row a) (sym s) l),
      )

  -- the place of the job before is one that there is
  pub last_below : 0 < w.depth → last_place w < place_count t
  last_below some = walking.before_below _ _ _ _ _ _ _ _ _ _ _ h (w.depth - 1) (omega arith)

  -- all places of the first job tried: the search is over
  pub turn_over : w.depth ≡ 0 → place_count t ≤ next_place w → FindsIn joined t cuts w.best
  turn_over e l = walking.walk_over _ _ _ _ _ _ _ _ _ _ _ h e (omega (arith, h.next))

  -- all places of another job tried
  pub turn_back : (v : Walk) → 0 < w.depth → place_count t ≤ next_place w → Backs w v → Turned v
  turn_back v some l b =
      let d : w.depth ≡ (w.depth - 1) + 1 = omega arith in
      let last : next_place w ≡ place_count t = omega (arith, h.next) in
      moved v b.row_is b.totals_is refl b.depth_is b.best_is
      (walking.walk_back _ _ _ _ _ _ _ _ _ _ _ h (w.depth - 1) v.groups d last b.groups_is)
      (walking.back_less _ _ _ _ _ _ _ _ _ _ _ h (w.depth - 1) d last)

  -- the next place leads to nothing better
  pub turn_skip : Climbs joined → (v : Walk) (total : ℕ) → total ≡ joined (get_or w.totals w.depth 0) (price_of t w.depth (next_place w)) → next_place w < place_count t
      → Worthless t cuts w w.depth (next_place w) total → Skips w w.depth (next_place w) w.best v → Turned v
  turn_skip climbs v total is lt why s =
      moved v s.row_is s.totals_is s.groups_is s.depth_is s.best_is (walking.walk_skip _ _ _ _ _ _ _ _ _ _ _ h lt (over why)) (walking.next_less _ _ _ _ _ _ _ _ _ _ _ h lt)
    where
      over : Worthless t cuts w w.depth (next_place w) total → (r : List ℕ) → Candidate (job_count t) (place_count t) (barred_in t) (held cuts) r → Starts (take w.depth w.row) (next_place w) r → Matched (costs joined (price_of t) r) w.best
      over (barred e) = walking.skip_barred _ _ _ _ _ _ _ _ _ _ _ h e
      over (dear m) = walking.skip_dear _ _ _ _ _ _ _ _ _ _ _ h climbs (price_fits t) total is m
      over (broken b) = walking.skip_broken _ _ _ _ _ _ _ _ _ _ _ h b

  -- on to the next job
  pub turn_deepen : (v : Walk) (total : ℕ) → total ≡ joined (get_or w.totals w.depth 0) (price_of t w.depth (next_place w)) → next_place w < place_count t → w.depth + 1 < job_count t
      → Worth t cuts w w.depth (next_place w) total → Deepens w w.depth (next_place w) total v → Turned v
  turn_deepen v total is lt deeper worth s =
      moved v s.row_is s.totals_is refl s.depth_is s.best_is
      (walking.walk_down _ _ _ _ _ _ _ _ _ _ _ h total v.groups lt deeper worth.free worth.allowed s.groups_is is)
      (walking.down_less _ _ _ _ _ _ _ _ _ _ _ h lt deeper)

  -- the row is whole
  pub turn_take : (v : Walk) (total : ℕ) → total ≡ joined (get_or w.totals w.depth 0) (price_of t w.depth (next_place w)) → next_place w < place_count t → w.depth + 1 ≡ job_count t
      → Worth t cuts w w.depth (next_place w) total → Takes w w.depth (next_place w) (job_count t) total v → Turned v
  turn_take v total is lt whole worth s =
      let k = s.skips in
      let costs_less = subst (λ (n : ℕ). Cheaper n w.best) (sym s.cost_is) worth.cheaper in
      moved v k.row_is k.totals_is k.groups_is k.depth_is k.best_is
      (walking.walk_take _ _ _ _ _ _ _ _ _ _ _ h s.found s.row_is lt whole worth.free worth.allowed (s.cost_is ∙ is) costs_less)
      (walking.next_less _ _ _ _ _ _ _ _ _ _ _ h lt)
