use Rattle.std.proofs.Common.{ℕ, zero, suc, ◌<◌, Bool, true, false, List, [], ◌∷◌, length, MatchBool, inl, inr, ⊎_elim, arith, rules, tests}
use Rattle.std.specs.List.{HoldsAt, AllWithin}
use Rattle.std.proofs.lemmas.Iterator.{cases_from_any, YieldsList-from_slice}
use Rattle.jobs.specs.Sets.{bits}
use Rattle.jobs.specs.Words.{Exactly}
use Rattle.workshops.specs.Remembered.{remembered, Settles, Knows}
use Rattle.workshops.specs.declared.notes.Note.{Note}
use Rattle.workshops.proofs.notes.Notes.knows.Goals as goal

module _ (y : Bool) (p s : ℕ) where
  knows_at : (l : List Note) (k : ℕ) → k < length l → HoldsAt (Settles y p s) l k → Knows y l p s
  knows_at [] k m h = absurd (omega arith)
  knows_at (n ∷ l) zero m h = inl (h n)
  knows_at (n ∷ l) (suc k) m h = inr (knows_at l k (omega arith) h)

  knows_not : (l : List Note) → AllWithin (λ n. Settles y p s n → ⊥) l 0 (length l) → Knows y l p s → ⊥
  knows_not [] h k = k
  knows_not (n ∷ l) h k = ⊎_elim (h 0 n (omega arith) (omega arith)) (knows_not l (λ i d a b. h (suc i) d (omega arith) (omega arith))) k

  found : (l : List Note) (r : Bool) → MatchBool r ((k : ℕ) × (k < length l) × HoldsAt (Settles y p s) l k) (AllWithin (λ n. Settles y p s n → ⊥) l 0 (length l)) → Exactly r (Knows y l p s)
  found l true h = knows_at l h.0 h.1 h.2
  found l false h = knows_not l h

pub returns : goal.returns
returns c =
    let notes = remembered c.args.self.now in
    let Says = Settles c.args.yes c.args.place (bits c.args.set) in
    found c.args.yes c.args.place (bits c.args.set) notes _
    (cases_from_any _ _ _ Says (λ n. Says n → ⊥) c.any.ensures.ran (YieldsList-from_slice notes cc) (λ x q k. search (rules, tests)) (λ x q k. search (rules, tests)))
