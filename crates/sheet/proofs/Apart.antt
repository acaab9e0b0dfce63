-- A sheet tells its plan.
use Rattle.std.proofs.Common.{◌≡◌, ℕ, suc, List, [], ◌∷◌, ◌++◌, codes, sym, refl, ap, ◌∙◌, subst, arith}
use Rattle.std.proofs.lemmas.List.{append_assoc, append_cancel_left}
use Rattle.std.specs.Str.Parse.{digits_value}
use Rattle.std.specs.List.{AllByRecursion}
use Rattle.sheet.specs.Sheets.{numeral, pair, feed, head, line, lines, no_tail, ToldApart}
use Rattle.sheet.proofs.Numbers.{Figure, figures_numeral, plain}

-- two runs of digits, each up to the same byte, which is none
split : (c : ℕ) (xs ys s t : List ℕ) → (Figure c → ⊥) → AllByRecursion Figure xs → AllByRecursion Figure ys → xs ++ c ∷ s ≡ ys ++ c ∷ t → (xs ≡ ys) × (s ≡ t)
split c [] [] s t nc f g e = (refl, cc)
split c [] (y ∷ ys) s t nc f g e = let h : c ≡ y = cc in absurd (nc (subst Figure (sym h) g.0))
split c (x ∷ xs) [] s t nc f g e = let h : x ≡ c = cc in absurd (nc (subst Figure h f.0))
split c (x ∷ xs) (y ∷ ys) s t nc f g e =
    let rest : xs ++ c ∷ s ≡ ys ++ c ∷ t = cc in
    let both = split c xs ys s t nc f.1 g.1 rest in
    let same : xs ≡ ys = both.0 in
    (cc, both.1)

-- a number is known from its digits, where a byte that is none follows
number_apart : (c n m : ℕ) (s t : List ℕ) → (Figure c → ⊥) → numeral n ++ c ∷ s ≡ numeral m ++ c ∷ t → (n ≡ m) × (s ≡ t)
number_apart c n m s t nc e =
    let both = split c (numeral n) (numeral m) s t nc (figures_numeral n) (figures_numeral m) e in
    (sym (plain n).reads ∙ ap (digits_value 10) both.0 ∙ (plain m).reads, both.1)

words_parts : (word : List ℕ) (n : ℕ) (other : List ℕ) (m : ℕ) (rest : List ℕ) → (pair word n other m ++ feed) ++ rest ≡ word ++ (numeral n ++ (other ++ (numeral m ++ 10 ∷ rest)))
unfolding pair
words_parts word n other m rest = simp append_assoc

-- a line of two words tells both numbers, and what follows
words_apart : (word other : List ℕ) (n n' m m' : ℕ) (s t : List ℕ) → (pair word n (32 ∷ other) m ++ feed) ++ s ≡ (pair word n' (32 ∷ other) m' ++ feed) ++ t → (n ≡ n') × (m ≡ m') × (s ≡ t)
words_apart word other n n' m m' s t e =
    let whole = sym (words_parts word n (32 ∷ other) m s) ∙ e ∙ words_parts word n' (32 ∷ other) m' t in
    let first = number_apart 32 n n' _ _ (λ h. omega (arith, h.0)) (append_cancel_left word _ _ whole) in
    let second = number_apart 10 m m' s t (λ h. omega (arith, h.0)) (append_cancel_left other _ _ first.1) in
    (first.0, second.0, second.1)

lines_apart : (job : ℕ) (ps qs : List ℕ) → lines no_tail job ps ≡ lines no_tail job qs → ps ≡ qs
unfolding line pair
lines_apart job [] [] e = refl
lines_apart job [] (q ∷ qs) e = cc
lines_apart job (p ∷ ps) [] e = cc
lines_apart job (p ∷ ps) (q ∷ qs) e =
    let parts = words_apart (codes "job ") (codes "place ") job job p q (lines no_tail (suc job) ps) (lines no_tail (suc job) qs) e in
    let same : p ≡ q = parts.1 in
    let rest : ps ≡ qs = lines_apart (suc job) ps qs parts.2 in
    cc

pub told_apart : ToldApart
unfolding head
told_apart round cost round' cost' ps qs e =
    let parts = words_apart (codes "plan round ") (codes "cost ") round round' cost cost' (lines no_tail 0 ps) (lines no_tail 0 qs) e in
    (parts.0, parts.1, lines_apart 0 ps qs parts.2)
