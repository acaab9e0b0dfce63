-- What `==` of two rows says.
use Rattle.std.proofs.Common.{◌≡◌, ℕ, ◌<◌, ◌≤◌, Bool, true, false, ◌&&◌, eqb, List, length, get_or, take, Decides, sym, refl, ap, ◌∙◌, ⊎_elim, arith}
use Rattle.std.proofs.lemmas.List.{get_or-take, length-take-le, ext_get_or}
use Rattle.std.proofs.lemmas.Bool.{cases_lt, false≢true}
use Rattle.std.proofs.lemmas.Bool.Decides.{Decides-at, Decides-and, Decides-eqb}
use Rattle.std.proofs.lemmas.Slice.Eq.{bytes_eq-Decides}
use Rattle.std.specs.Str.{bytes_eq}
use Rattle.jobs.specs.Sets.{width}
use Rattle.jobs.specs.Words.{Exactly}
use Rattle.master.specs.Rows.{row_places}
use Rattle.master.specs.declared.row.Row.{Row}

-- rows with the same places, and nothing but 0 past them, are the same
pub same_places : (w n m : ℕ) (xs ys : List ℕ) → length xs ≡ w → length ys ≡ w → n ≡ m → ((k : ℕ) → n ≤ k → get_or xs k 0 ≡ 0) → ((k : ℕ) → m ≤ k → get_or ys k 0 ≡ 0) → take n xs ≡ take m ys → xs ≡ ys
same_places w n m xs ys lx ly e sx sy h = ext_get_or 0 xs ys (lx ∙ sym ly) (λ i l. ⊎_elim
    (λ (b : i < n). sym (get_or-take n xs i 0 b) ∙ ap (λ (zs : List ℕ). get_or zs i 0) h ∙ get_or-take m ys i 0 (omega arith))
    (λ (b : n ≤ i). sx i b ∙ sym (sy i (omega arith)))
    (cases_lt i n))

-- an answer that decides one thing is exact of another that is the same
pub exactly_decides : {P Q : Type 0} (r : Bool) → Decides r P → (P → Q) → (Q → P) → Exactly r Q
exactly_decides true d f g = f (d.0 refl)
exactly_decides false d f g = λ q. let z : ◌≡◌ {A = Bool} false true = d.1 (g q) in false≢true z

-- two rows are equal where they give the same places to the same jobs
pub row_eq : (a b : Row) (r : Bool) → r ≡ (bytes_eq a.places b.places && eqb a.jobs b.jobs) → Exactly r (row_places a ≡ row_places b)
row_eq a b r e =
    let both = Decides-at r _ e (Decides-and (bytes_eq a.places b.places) (eqb a.jobs b.jobs) (bytes_eq-Decides a.places b.places) (Decides-eqb a.jobs b.jobs)) in
    exactly_decides r both
    (λ h. ap (λ (xs : List ℕ). take a.jobs xs) h.0 ∙ ap (λ n. take n b.places) h.1)
    (λ h.
    let la : length (row_places a) ≡ a.jobs = length-take-le a.jobs a.places (omega (arith, a.wide, a.few)) in
    let lb : length (row_places b) ≡ b.jobs = length-take-le b.jobs b.places (omega (arith, b.wide, b.few)) in
    let jobs : a.jobs ≡ b.jobs = omega (arith, la, lb, ap length h) in
    (same_places width a.jobs b.jobs a.places b.places a.wide b.wide jobs a.spare b.spare h, jobs))
