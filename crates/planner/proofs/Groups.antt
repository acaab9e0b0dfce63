-- The set of the jobs that a row gives to a place: there is just one.
use Rattle.std.proofs.Common.{◌≡◌, ℕ, zero, suc, ◌+◌, ◌*◌, ◌/◌, ◌^◌, ◌<◌, ◌≤◌, Bool, true, false, cond, eqb, ◌≢◌, List, [], ◌∷◌, length, Some, sym, ap, ◌∙◌, subst, ⊎_elim, arith}
use native.Mathlib.Nat.{pow-succ'}
use Rattle.std.proofs.lemmas.Nat.{pow_pos}
use Rattle.std.proofs.lemmas.Bool.{cases_eq, eq-eqb, ne_eqb}
use Rattle.jobs.specs.Sets.{width, bit}
use Rattle.jobs.specs.Words.{Same}
use Rattle.jobs.proofs.Bits.{bit_suc}
use Rattle.jobs.proofs.Members.{none_in_zero, by_members}
use Rattle.master.specs.Rows.{Group}
use Rattle.master.proofs.Giving.{group_none}

abbrev one_if : Bool → ℕ
one_if b = cond b 1 0

-- 1 where the job has the place
abbrev flag : ℕ → ℕ → ℕ
flag place x = one_if (eqb x place)

flag_small : (place x : ℕ) → flag place x < 2
flag_small place x = small (eqb x place)
  where
    small : (b : Bool) → one_if b < 2
    small true = omega arith
    small false = omega arith

flag_set : (place x : ℕ) → Same (flag place x ≡ 1) (Some x ≡ Some place)
flag_set place x = ⊎_elim
    (λ (e : x ≡ place). (λ h. ap Some e, λ g. ap one_if (eq-eqb x place e)))
    (λ (ne : x ≢ place). (λ h. absurd (omega (arith, h, ap one_if (ne_eqb x place ne))), λ g. let z : x ≡ place = cc in absurd (ne z)))
    (cases_eq x place)

abbrev pub group : ℕ → List ℕ → ℕ
group place [] = 0
group place (x ∷ row) = flag place x + 2 * group place row

pub grouped : (place : ℕ) (row : List ℕ) → Group row place (group place row)
grouped place [] job = group_none place 0 none_in_zero job
grouped place (x ∷ row) zero =
    let low : bit (group place (x ∷ row)) 0 ≡ flag place x = omega (arith, flag_small place x) in
    (λ h. (flag_set place x).0 (sym low ∙ h), λ g. low ∙ (flag_set place x).1 g)
grouped place (x ∷ row) (suc job) =
    let half : group place (x ∷ row) / 2 ≡ group place row = omega (arith, flag_small place x) in
    let down : bit (group place (x ∷ row)) (suc job) ≡ bit (group place row) job = bit_suc (group place (x ∷ row)) job ∙ ap (λ (s : ℕ). bit s job) half in
    (λ h. (grouped place row job).0 (sym down ∙ h), λ g. down ∙ (grouped place row job).1 g)

pub group_once : (row : List ℕ) (place a b : ℕ) → Group row place a → Group row place b → a ≡ b
group_once row place a b g h = by_members a b (λ j k. (h j).1 ((g j).0 k)) (λ j k. (g j).1 ((h j).0 k))

group_small : (place k : ℕ) (row : List ℕ) → length row ≤ k → group place row < 2 ^ k
group_small place k [] l = pow_pos k
group_small place zero (x ∷ row) l = absurd (omega arith)
group_small place (suc k) (x ∷ row) l = omega (arith, flag_small place x, group_small place k row (omega arith), pow-succ' 2 k)

-- the jobs of a short row are jobs of a set
pub group_fits : (row : List ℕ) (place set : ℕ) → length row ≤ width → Group row place set → set < 2 ^ width
group_fits row place set short g = subst (λ (s : ℕ). s < 2 ^ width) (group_once row place (group place row) set (grouped place row) g) (group_small place width row short)
