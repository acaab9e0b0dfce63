-- What is left of the cuts when one is added.
use Rattle.std.proofs.Common.{◌≡◌, ℕ, zero, suc, ◌<◌, ◌≤◌, Bool, ◌⊎◌, List, [], ◌∷◌, ◌++◌, length, get_or, Ok, cond, MatchBool, true, false, sym, refl, ap, ◌∙◌, subst, inl, inr, ⊎_elim, arith, lt-ltb}
use Rattle.std.proofs.Math.Bridge.{le_prop}
use mathlib.Core.HLevel.{is_prop→PathP, ⊥_prop}
use Rattle.std.proofs.lemmas.List.Elements.{All-from_all_within, recursion_from_All}
use Rattle.std.specs.List.Retain.{RetainsInTurn}
use Rattle.std.specs.List.{AllByRecursion, HoldsAt, AllWithin}
use Rattle.jobs.specs.Words.{Exactly}
use Rattle.master.specs.Tables.{held}
use Rattle.master.specs.declared.table.CutTable.{CutTable}
use Rattle.master.specs.Cuts.{room, cut_of, Breaks, Obeys, Within, Leaves, Covers, Adds, RulesOut, Touches, Clash, Misplaced}
use Rattle.master.specs.Rows.{Gives}
use Rattle.master.specs.declared.cut.Addition.{Addition}
use Rattle.std.proofs.ByRecursion.{All-push}
use Rattle.master.specs.Cuts.Adds.{covered, full, put}
use Rattle.master.specs.Cuts.Leaves.{none, goes, stays}
use Rattle.master.specs.Cuts.Covers.{here, there}
use Rattle.master.specs.Cuts.Touches.{inside, around, beyond}
use Rattle.master.specs.Cuts.Clash.{first, later}
use Rattle.master.specs.Cuts.Misplaced.{astray, onward}
use Rattle.master.specs.declared.cut.Cut.{Cut}
use Rattle.master.specs.Refused.{most_places, refused_unless, cut_refusal}
use Rattle.jobs.specs.Refusals.{Answered}
use Rattle.jobs.specs.declared.refusal.Refusal.TheVariants.{NoSuchPlace}

abbrev pub no_cut : Cut
no_cut = cut_of 0 (record { bits = 0 })

pub not_covered : (c : Cut) (cs : List Cut) → AllByRecursion (λ d. Within d c → ⊥) cs → Covers c cs → ⊥
not_covered c cs h (here d ds k) = h.0 k
not_covered c cs h (there d ds k) = not_covered c ds h.1 k

-- what `retain` leaves where it keeps just the cuts that c does not lie within
pub leaves_retained : {F : Type 0} (R : F → Cut → Bool → F → Cut → Type 0) (c : Cut) (f : F)
    → ((x : Cut) (b : Bool) (g : F) (y : Cut) → R f x b g y → MatchBool b (Within c x → ⊥) (Within c x) × (g ≡ f) × (y ≡ x))
    → (xs ys : List Cut) → RetainsInTurn R f xs ys → Leaves c xs ys
leaves_retained R c f says [] ys h = subst (λ (es : List Cut). Leaves c [] es) (sym h) none
leaves_retained R c f says (x ∷ xs) ys h =
    let said = says x h.0 h.1 h.2 h.3 in
    let later = leaves_retained R c f says xs h.4 (subst (λ g. RetainsInTurn R g xs h.4) said.1 h.5) in
    go h.0 h.2 said.0 said.2 h.4 later h.6
  where
    go : (b : Bool) (y : Cut) → MatchBool b (Within c x → ⊥) (Within c x) → y ≡ x → (zs : List Cut) → Leaves c xs zs → ys ≡ cond b (y ∷ zs) zs → Leaves c (x ∷ xs) ys
    go true y out same zs l e = subst (λ (es : List Cut). Leaves c (x ∷ xs) es) (sym (e ∙ ap (λ (z : Cut). z ∷ zs) same)) (stays x xs zs out l)
    go false y in' same zs l e = subst (λ (es : List Cut). Leaves c (x ∷ xs) es) (sym e) (goes x xs zs in' l)

pub all_stay : (c : Cut) (cs left : List Cut) → AllByRecursion (λ d. Within c d → ⊥) cs → Leaves c cs left → left ≡ cs
all_stay c cs left h none = refl
all_stay c cs left h (goes d ds es k l) = absurd (h.0 k)
all_stay c cs left h (stays d ds es k l) = ap (λ (xs : List Cut). d ∷ xs) (all_stay c ds es h.1 l)

-- one cut more of the table looked at
pub leaves_goes : (c : Cut) (ds es : List Cut) (d : Cut) → Within c d → Leaves c ds es → Leaves c (ds ++ d ∷ []) es
leaves_goes c ds es d w none = goes d [] [] w none
leaves_goes c ds es d w (goes x xs ys k l) = goes x (xs ++ d ∷ []) es k (leaves_goes c xs es d w l)
leaves_goes c ds es d w (stays x xs ys k l) = stays x (xs ++ d ∷ []) ys k (leaves_goes c xs ys d w l)

pub leaves_stays : (c : Cut) (ds es : List Cut) (d : Cut) → (Within c d → ⊥) → Leaves c ds es → Leaves c (ds ++ d ∷ []) (es ++ d ∷ [])
leaves_stays c ds es d w none = stays d [] [] w none
leaves_stays c ds es d w (goes x xs ys k l) = goes x (xs ++ d ∷ []) (es ++ d ∷ []) k (leaves_stays c xs es d w l)
leaves_stays c ds es d w (stays x xs ys k l) = stays x (xs ++ d ∷ []) (ys ++ d ∷ []) k (leaves_stays c xs ys d w l)

pub leaves_short : (c : Cut) (ds es : List Cut) → Leaves c ds es → length es ≤ length ds
leaves_short c ds es none = omega arith
leaves_short c ds es (goes x xs ys k l) = omega (arith, leaves_short c xs es l)
leaves_short c ds es (stays x xs ys k l) = omega (arith, leaves_short c xs ys l)

-- where as many are left, none went
pub leaves_all : (c : Cut) (ds es : List Cut) → Leaves c ds es → length es ≡ length ds → es ≡ ds
leaves_all c ds es none e = refl
leaves_all c ds es (goes x xs ys k l) e = absurd (omega (arith, leaves_short c xs es l))
leaves_all c ds es (stays x xs ys k l) e = ap (λ (zs : List Cut). x ∷ zs) (leaves_all c xs ys l (omega arith))

leaves_touches : (c b : Cut) (ds es : List Cut) → Leaves c ds es → Touches b es → Touches b ds
leaves_touches c b ds es none t = t
leaves_touches c b ds es (goes x xs ys k l) t = beyond x xs (leaves_touches c b xs es l t)
leaves_touches c b ds es (stays x xs ys k l) (inside y zs w) = inside x xs w
leaves_touches c b ds es (stays x xs ys k l) (around y zs w) = around x xs w
leaves_touches c b ds es (stays x xs ys k l) (beyond y zs t) = beyond x xs (leaves_touches c b xs ys l t)

pub leaves_clash : (c : Cut) (ds es : List Cut) → Leaves c ds es → Clash es → Clash ds
leaves_clash c ds es none t = t
leaves_clash c ds es (goes x xs ys k l) t = later x xs (leaves_clash c xs es l t)
leaves_clash c ds es (stays x xs ys k l) (first y zs t) = first x xs (leaves_touches c x xs ys l t)
leaves_clash c ds es (stays x xs ys k l) (later y zs t) = later x xs (leaves_clash c xs ys l t)

-- what is left does not touch the new cut
leaves_free : (c : Cut) (ds es : List Cut) → Leaves c ds es → (Covers c ds → ⊥) → Touches c es → ⊥
leaves_free c ds es none n t = elim t [ ]
leaves_free c ds es (goes x xs ys k l) n t = leaves_free c xs es l (λ q. n (there x xs q)) t
leaves_free c ds es (stays x xs ys k l) n (inside y zs w) = n (here x xs w)
leaves_free c ds es (stays x xs ys k l) n (around y zs w) = k w
leaves_free c ds es (stays x xs ys k l) n (beyond y zs t) = leaves_free c xs ys l (λ q. n (there x xs q)) t

touches_push : (b : Cut) (es : List Cut) (c : Cut) → Touches b (es ++ c ∷ []) → Touches b es ⊎ (Within c b ⊎ Within b c)
touches_push b [] c (inside y zs w) = inr (inl w)
touches_push b [] c (around y zs w) = inr (inr w)
touches_push b [] c (beyond y zs t) = absurd (nothing zs refl t)
  where
    nothing : (xs : List Cut) → xs ≡ [] → Touches b xs → ⊥
    nothing xs e (inside u us w) = omega (arith, ap length e)
    nothing xs e (around u us w) = omega (arith, ap length e)
    nothing xs e (beyond u us t') = omega (arith, ap length e)
touches_push b (x ∷ xs) c (inside y zs w) = inl (inside x xs w)
touches_push b (x ∷ xs) c (around y zs w) = inl (around x xs w)
touches_push b (x ∷ xs) c (beyond y zs t) = ⊎_elim (λ (k : Touches b xs). inl (beyond x xs k)) inr (touches_push b xs c t)

clash_push : (es : List Cut) (c : Cut) → Clash (es ++ c ∷ []) → Clash es ⊎ Touches c es
clash_push [] c (first y zs t) = inr t
clash_push [] c (later y zs t) = inl t
clash_push (x ∷ xs) c (first y zs t) =
    ⊎_elim (λ (k : Touches x xs). inl (first x xs k)) (λ (k : Within c x ⊎ Within x c). inr (⊎_elim (λ (w : Within c x). around x xs w) (λ (w : Within x c). inside x xs w) k)) (touches_push x xs c t)
clash_push (x ∷ xs) c (later y zs t) = ⊎_elim (λ (k : Clash xs). inl (later x xs k)) (λ (k : Touches c xs). inr (beyond x xs k)) (clash_push xs c t)

-- the table stays without clash
pub apart_put : (c : Cut) (ds es : List Cut) → (Clash es → ⊥) → (Covers c ds → ⊥) → Leaves c ds es → Clash (es ++ c ∷ []) → ⊥
apart_put c ds es apart new l t = ⊎_elim apart (λ (k : Touches c es). leaves_free c ds es l new k) (clash_push es c t)

pub covered_at : (c : Cut) (cs : List Cut) (i : ℕ) → i < length cs → Within (get_or cs i no_cut) c → Covers c cs
covered_at c [] i l w = absurd (omega arith)
covered_at c (d ∷ ds) zero l w = here d ds w
covered_at c (d ∷ ds) (suc i) l w = there d ds (covered_at c ds i (omega arith) w)

holds_covered : (c : Cut) (cs : List Cut) (i : ℕ) → i < length cs → HoldsAt (λ d. Within d c) cs i → Covers c cs
holds_covered c [] i l w = absurd (omega arith)
holds_covered c (d ∷ ds) zero l w = here d ds (w d)
holds_covered c (d ∷ ds) (suc i) l w = there d ds (holds_covered c ds i (omega arith) w)

-- every cut left has its place, and so has the new one
pub leaves_placed : (c : Cut) (ds es : List Cut) → Leaves c ds es → Misplaced es → Misplaced ds
leaves_placed c ds es none t = t
leaves_placed c ds es (goes x xs ys k l) t = onward x xs (leaves_placed c xs es l t)
leaves_placed c ds es (stays x xs ys k l) (astray y zs w) = astray x xs w
leaves_placed c ds es (stays x xs ys k l) (onward y zs t) = onward x xs (leaves_placed c xs ys l t)

pub placed_push : (es : List Cut) (c : Cut) → c.place < most_places → Misplaced (es ++ c ∷ []) → Misplaced es
placed_push [] c l (astray y zs w) = absurd (omega arith)
placed_push [] c l (onward y zs t) = t
placed_push (x ∷ xs) c l (astray y zs w) = astray x xs w
placed_push (x ∷ xs) c l (onward y zs t) = onward x xs (placed_push xs c l t)

-- tables that hold the same cuts are equal
pub same_table : (t u : CutTable) → held t ≡ held u → t ≡ u
same_table t u e = λ i. record {
  cuts = record { items = e i };
  few = is_prop→PathP (λ j. length (e j) ≤ room) (λ j f g. le_prop f g) t.few u.few i;
  apart = is_prop→PathP (λ j. Clash (e j) → ⊥) (λ j f g k x. ⊥_prop (f x) (g x) k) t.apart u.apart i;
  placed = is_prop→PathP (λ j. Misplaced (e j) → ⊥) (λ j f g k x. ⊥_prop (f x) (g x) k) t.placed u.placed i;
}

-- a cut of the list lies within c, or none does
pub covered_found : (c : Cut) (cs : List Cut) (r : Bool) → MatchBool r ((k : ℕ) × (k < length cs) × HoldsAt (λ d. Within d c) cs k) (AllWithin (λ d. Within d c → ⊥) cs 0 (length cs)) → Exactly r (Covers c cs)
covered_found c cs true h = holds_covered c cs h.0 h.1 h.2
covered_found c cs false h = not_covered c cs (recursion_from_All (λ d. Within d c → ⊥) cs (All-from_all_within (λ d. Within d c → ⊥) cs h))

-- of a place that there can be
pub cut_accepted : {T : Type 0} (place : ℕ) (v : T) (P : T → Type 0) → place < most_places → P v → Answered (cut_refusal place) (Ok v) P
cut_accepted place v P l p = subst (λ (b : Bool). Answered (refused_unless b NoSuchPlace) (Ok v) P) (sym (lt-ltb place most_places l)) p

-- a row that breaks a cut breaks all that lie within it
breaks_within : (row : List ℕ) (c d : Cut) → Within c d → Breaks row d → Breaks row c
breaks_within row c d w b j h = subst (λ (p : ℕ). Gives row j p) (sym w.place) (b j (w.part j h))

covers_ruled : (row : List ℕ) (c : Cut) (cuts : List Cut) → Covers c cuts → Obeys row cuts → Breaks row c → ⊥
covers_ruled row c cuts (here d ds w) ok b = ok.0 (breaks_within row d c w b)
covers_ruled row c cuts (there d ds k) ok b = covers_ruled row c ds k ok.1 b

leaves_obeys : (row : List ℕ) (c : Cut) (cuts left : List Cut) → Leaves c cuts left → Obeys row cuts → Obeys row left
leaves_obeys row c cuts left none ok = tt
leaves_obeys row c cuts left (goes d ds es w l) ok = leaves_obeys row c ds left l ok.1
leaves_obeys row c cuts left (stays d ds es w l) ok = (ok.0, leaves_obeys row c ds es l ok.1)

left_obeys : (row : List ℕ) (c : Cut) (cuts left : List Cut) → Leaves c cuts left → (Breaks row c → ⊥) → Obeys row left → Obeys row cuts
left_obeys row c cuts left none fine ok = tt
left_obeys row c cuts left (goes d ds es w l) fine ok = (λ b. fine (breaks_within row c d w b), left_obeys row c ds left l fine ok)
left_obeys row c cuts left (stays d ds es w l) fine ok = (ok.0, left_obeys row c ds es l fine ok.1)

push_obeys : (row : List ℕ) (left : List Cut) (c : Cut) → Obeys row (left ++ c ∷ []) → Obeys row left × (Breaks row c → ⊥)
push_obeys row [] c ok = (tt, ok.0)
push_obeys row (d ∷ ds) c ok = let k = push_obeys row ds c ok.1 in ((ok.0, k.0), k.1)

-- a row obeys the cuts held then where it obeyed those held before and does not break the new one
pub adds_ruled : (cuts : List Cut) (c : Cut) (a : Addition) (after : List Cut) → Adds cuts c a after → RulesOut (Ok a) cuts c after
adds_ruled cuts c a after (covered k) = λ row. (λ ok. (ok, covers_ruled row c cuts k ok), λ p. p.0)
adds_ruled cuts c a after (full left new l e) = tt
adds_ruled cuts c a after (put left new l lt) = λ row. (
  λ ok. let k = push_obeys row left c ok in (left_obeys row c cuts left l k.1 k.0, k.1),
  λ p. All-push (λ d. Breaks row d → ⊥) left c (leaves_obeys row c cuts left l p.0) p.1,
)
