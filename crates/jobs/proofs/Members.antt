-- Laws of job sets, by their members. Nothing here knows how many jobs there are.
use Rattle.std.proofs.Common.{◌≡◌, ℕ, zero, suc, ◌+◌, ◌-◌, ◌*◌, ◌^◌, ◌<◌, ◌≢◌, ◌⊎◌, sym, refl, ap, ◌∙◌, subst, inl, inr, ⊎_elim, arith}
use lib.Bits.{bit_and}
use Rattle.std.proofs.lemmas.Bool.{cases_eq}
use Rattle.jobs.specs.Sets.{bit, Has, Part, without, with_job, joined}
use Rattle.jobs.specs.Words.{Same}
use Rattle.jobs.proofs.Bits.{bit_small, bit_zero, bit_below, by_bits, bit_off_same, bit_off_other, bit_on_same, bit_on_other, and_bit, or_bit}

pub none_in_zero : (j : ℕ) → Has 0 j → ⊥
none_in_zero j h = omega (arith, bit_zero j)

pub has_or_not : (s j : ℕ) → Has s j ⊎ (Has s j → ⊥)
has_or_not s j = cases_eq (bit s j) 1

pub absent_bit : (s i : ℕ) → (Has s i → ⊥) → bit s i ≡ 0
absent_bit s i h = ⊎_elim (λ (e : bit s i ≡ 0). e) (λ (ne : bit s i ≢ 0). absurd (h (omega (arith, bit_small s i)))) (cases_eq (bit s i) 0)

-- sets with the same jobs are the same number
pub by_members : (a b : ℕ) → Part a b → Part b a → a ≡ b
by_members a b f g = by_bits a b (λ i. ⊎_elim
    (λ (h : Has a i). h ∙ sym (f i h))
    (λ (n : Has a i → ⊥). absent_bit a i n ∙ sym (absent_bit b i (λ h. n (g i h))))
    (has_or_not a i))

-- one job more
on_members : (s i : ℕ) → (Has s i → ⊥) → (j : ℕ) → Same (Has (s + 2 ^ i) j) (Has s j ⊎ (j ≡ i))
on_members s i out j = ⊎_elim
    (λ (e : j ≡ i). (λ h. inr e, λ d. subst (Has (s + 2 ^ i)) (sym e) (bit_on_same s i (absent_bit s i out))))
    (λ (ne : j ≢ i). let same = bit_on_other s i j (absent_bit s i out) ne in (λ h. inl (sym same ∙ h), ⊎_elim (λ h. same ∙ h) (λ e. absurd (ne e))))
    (cases_eq j i)

pub one_members : (i j : ℕ) → Same (Has (2 ^ i) j) (j ≡ i)
one_members i j =
    let both = on_members 0 i (none_in_zero i) j in
    let e : 0 + 2 ^ i ≡ 2 ^ i = omega arith in
    (λ h. ⊎_elim (λ z. absurd (none_in_zero j z)) (λ f. f) (both.0 (subst (λ n. Has n j) (sym e) h)), λ f. subst (λ n. Has n j) e (both.1 (inr f)))

pub without_held : (s i : ℕ) → Has s i → without s i ≡ s - 2 ^ i
without_held s i h = ap (λ (n : ℕ). s - n * 2 ^ i) h ∙ ap (λ (n : ℕ). s - n) (omega arith)

pub without_absent : (s i : ℕ) → (Has s i → ⊥) → without s i ≡ s
without_absent s i h = ap (λ (n : ℕ). s - n * 2 ^ i) (absent_bit s i h) ∙ (omega arith)

pub without_members : (s i j : ℕ) → Same (Has (without s i) j) (Has s j × (j ≡ i → ⊥))
without_members s i j = ⊎_elim held absent (has_or_not s i)
  where
    held : Has s i → Same (Has (without s i) j) (Has s j × (j ≡ i → ⊥))
    held h =
        let e = without_held s i h in
        ⊎_elim
        (λ (f : j ≡ i). (λ k. let z : bit (s - 2 ^ i) i ≡ 1 = subst (λ n. bit n i ≡ 1) e (subst (Has (without s i)) f k) in absurd (omega (arith, z, bit_off_same s i h)), λ p. absurd (p.1 f)))
        (λ (ne : j ≢ i). let same : bit (without s i) j ≡ bit s j = ap (λ n. bit n j) e ∙ bit_off_other s i j h ne in (λ k. (sym same ∙ k, ne), λ p. same ∙ p.0))
        (cases_eq j i)

    absent : (Has s i → ⊥) → Same (Has (without s i) j) (Has s j × (j ≡ i → ⊥))
    absent out =
        let e = without_absent s i out in
        (λ k. let h : Has s j = subst (λ n. Has n j) e k in (h, λ f. out (subst (Has s) f h)), λ p. subst (λ n. Has n j) (sym e) p.0)

pub with_absent : (s i : ℕ) → (Has s i → ⊥) → with_job s i ≡ s + 2 ^ i
with_absent s i out = ap (λ (n : ℕ). n + 2 ^ i) (without_absent s i out)

pub with_members : (s i j : ℕ) → Same (Has (with_job s i) j) (Has s j ⊎ (j ≡ i))
with_members s i j =
    let gone : Has (without s i) i → ⊥ = λ h. ((without_members s i i).0 h).1 refl in
    let both = on_members (without s i) i gone j in (
      λ h. ⊎_elim (λ k. inl ((without_members s i j).0 k).0) (λ e. inr e) (both.0 h),
      λ d. both.1 (⊎_elim (λ (e : j ≡ i). inr e) (λ (ne : j ≢ i). ⊎_elim (λ h. inl ((without_members s i j).1 (h, ne))) (λ e. inr e) d) (cases_eq j i)),
    )

-- a set with a job that it has is itself
pub with_held : (s i : ℕ) → Has s i → with_job s i ≡ s
with_held s i h = by_members (with_job s i) s
    (λ j k. ⊎_elim (λ m. m) (λ e. subst (Has s) (sym e) h) ((with_members s i j).0 k))
    (λ j k. (with_members s i j).1 (inl k))

pub joined_members : (a b j : ℕ) → Same (Has (joined a b) j) (Has a j ⊎ Has b j)
joined_members a b j =
    let either = or_bit a b j in (
      λ h. ⊎_elim (λ (k : Has a j). inl k) (λ (n : Has a j → ⊥). inr (omega (arith, either, h, absent_bit a j n, bit_small b j))) (has_or_not a j),
      ⊎_elim (λ (k : Has a j). omega (arith, either, k, bit_small b j)) (λ (k : Has b j). omega (arith, either, k, bit_small a j)),
    )

pub part_joined : (part whole more : ℕ) → Part part whole → Part (joined part more) (joined whole more)
part_joined part whole more f j h =
    (joined_members whole more j).1 (⊎_elim (λ k. inl (f j k)) (λ k. inr k) ((joined_members part more j).0 h))

pub and_part : (a b : ℕ) → bit_and a b ≡ a → Part a b
and_part a b e j h = omega (arith, and_bit a b j, ap (λ (n : ℕ). bit n j) e, h, bit_small b j)

pub part_and : (a b : ℕ) → Part a b → bit_and a b ≡ a
part_and a b f = by_bits (bit_and a b) a (λ j. ⊎_elim
    (λ (h : Has a j). omega (arith, and_bit a b j, f j h, h))
    (λ (n : Has a j → ⊥). omega (arith, and_bit a b j, absent_bit a j n))
    (has_or_not a j))

pub part_refl : (s : ℕ) → Part s s
part_refl s j h = h

pub part_trans : (a b c : ℕ) → Part a b → Part b c → Part a c
part_trans a b c f g j h = g j (f j h)

pub without_part : (s i : ℕ) → Part (without s i) s
without_part s i j h = ((without_members s i j).0 h).0

-- parts stay parts with one job left out of both
pub part_without : (part whole i : ℕ) → Part part whole → Part (without part i) (without whole i)
part_without part whole i f j h = let p = (without_members part i j).0 h in (without_members whole i j).1 (f j p.0, p.1)

-- a part that lacks a job is a part of the whole without it
pub part_lacking : (part whole i : ℕ) → Part part whole → (Has part i → ⊥) → Part part (without whole i)
part_lacking part whole i f lacks j h = (without_members whole i j).1 (f j h, λ e. lacks (subst (Has part) e h))

-- of the jobs below n, each of a is in b, or one is not
part_below : (n a b : ℕ) → ((j : ℕ) → j < n → Has a j → Has b j) ⊎ ((j : ℕ) × Has a j × (Has b j → ⊥))
part_below zero a b = inl (λ j l h. absurd (omega arith))
part_below (suc n) a b = ⊎_elim
    (λ (all : (j : ℕ) → j < n → Has a j → Has b j). ⊎_elim
    (λ (good : Has a n → Has b n). inl (λ j l h. ⊎_elim (λ (e : j ≡ n). subst (Has b) (sym e) (good (subst (Has a) e h))) (λ (ne : j ≢ n). all j (omega arith) h) (cases_eq j n)))
    (λ (bad : Has a n × (Has b n → ⊥)). inr (n, bad.0, bad.1))
    (here n))
    inr
    (part_below n a b)
  where
    here : (k : ℕ) → (Has a k → Has b k) ⊎ (Has a k × (Has b k → ⊥))
    here k = ⊎_elim
        (λ (in_b : Has b k). inl (λ h. in_b))
        (λ (out : Has b k → ⊥). ⊎_elim (λ (in_a : Has a k). inr (in_a, out)) (λ (not_a : Has a k → ⊥). inl (λ h. absurd (not_a h))) (has_or_not a k))
        (has_or_not b k)

-- a is a part of b, or some job says that it is not
pub part_or_lacks : (a b : ℕ) → Part a b ⊎ ((j : ℕ) × Has a j × (Has b j → ⊥))
part_or_lacks a b = ⊎_elim
    (λ (all : (j : ℕ) → j < a → Has a j → Has b j). inl (λ j h. all j (bit_below a j h) h))
    inr
    (part_below a a b)
