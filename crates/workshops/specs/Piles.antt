-- Two facilities as a pile: a memo over an allowance over their pair.
use Rattle.std.specs.Prelude.{◌≡◌, ℕ, zero, suc, Bool, cond, List, [], length, Some, None, Option, Result, nat_lt}
use Rattle.jobs.specs.declared.refusal.Refusal.{Refusal}
use Rattle.jobs.specs.declared.refusal.Refusal.TheVariants.{NoSuchPlace}
use Rattle.jobs.specs.declared.set.JobSet.{JobSet}
use Rattle.workshops.specs.Allowances.{allowance}
use Rattle.workshops.specs.Lones.{lone}
use Rattle.workshops.specs.Memos.{memo}
use Rattle.workshops.specs.Pairs.{pair}
use Rattle.workshops.specs.Remembered.{remembered}
use Rattle.workshops.specs.Tallies.{yeses, Exact, AskedAll}
use Rattle.workshops.specs.Verdicts.{Grant}
use Rattle.workshops.specs.Workshops.{Meaning}
use Rattle.workshops.specs.declared.allowance.Allowance.{Allowance}
use Rattle.workshops.specs.declared.lone.Lone.{Lone}
use Rattle.workshops.specs.declared.memo.Memo.{Memo}
use Rattle.workshops.specs.declared.pair.Pair.{Pair}
use Rattle.workshops.specs.declared.tally.Tally.{Tally}

abbrev pub Pile : Type 0 → Type 0 → Type 0
Pile F G = Memo (Allowance (Pair (Lone F) (Lone G)))

abbrev pub pile : {F G : Type 0} → (F → ℕ → Type 0) → (G → ℕ → Type 0) → Meaning (Pile F G)
pile one two = memo (allowance (pair (lone one) (lone two)))

-- a new pile of two facilities: nothing is left of the allowance, and nothing remembered
pub record Piled {F G : Type 0} (one : F → ℕ → Type 0) (two : G → ℕ → Type 0) (f : F) (g : G) (w : Pile F G) : Type 0 where
  pub first : w.below.below.first.facility ≡ f
  pub second : w.below.below.second.facility ≡ g
  pub left : w.below.left ≡ 0
  pub notes : remembered w.notes ≡ []
  pub sound : (pile one two).invariant w

-- the families of two places
abbrev pub either : (ℕ → Type 0) → (ℕ → Type 0) → ℕ → ℕ → Type 0
either one two zero = one
either one two (suc p) = two

-- place p is one of two
abbrev pub two_places : ℕ → Option Refusal
two_places p = cond (nat_lt p 2) None (Some NoSuchPlace)

-- so many of the first sets are in the family
pub record Counted (family : ℕ → Type 0) (sets : List JobSet) (t : Tally) : Type 0 where
  pub answers : List Bool
  pub answered : t.answered ≡ length answers
  pub yes : t.yes ≡ yeses answers
  pub exact : Exact family sets answers

-- a new pile, granted the amount and asked about the sets
pub record Surveyed {F G : Type 0} (one : F → ℕ → Type 0) (two : G → ℕ → Type 0) (f : F) (g : G) (n p : ℕ) (sets : List JobSet) (r : Result Tally Refusal) : Type 0 where
  pub made : Pile F G
  pub funded : Pile F G
  pub asked : Pile F G
  pub making : Piled one two f g made
  pub granting : Grant (pile one two) made n funded
  pub asking : AskedAll (pile one two) funded p sets r asked
