-- Numbers in decimal.
use Rattle.std.proofs.Common.{◌≡◌, ℕ, zero, suc, ◌+◌, ◌/◌, ◌%◌, ◌^◌, ◌<◌, ◌≤◌, List, [], ◌∷◌, map, length, get_or, sym, refl, ap, ◌∙◌, arith, lt-ltb, length-append}
use Rattle.std.proofs.lemmas.Fmt.{decimal_digit, decimal-digits_of, length-decimal-le}
use Rattle.std.proofs.lemmas.Int.Digits.{length-digits_of-le, digits_of_step, all_below_base_digits_of, first_digits_of, number_digits_of, digits_value_is}
use Rattle.std.proofs.lemmas.List.{length-map, map_push}
use Rattle.std.specs.Fmt.{decimal}
use Rattle.std.specs.Str.Parse.{digits_value}
use Rattle.std.specs.Char.{digit_value}
use Rattle.std.specs.Int.Digits.{digits_of, AllBelowBase, number_from_digits}
use Rattle.std.specs.List.{AllByRecursion}
use Rattle.sheet.specs.Sheets.{numeral, Plain}

abbrev glyphs : List ℕ → List ℕ
glyphs ds = map (λ d. 48 + d) ds

numeral_zero : numeral 0 ≡ 48 ∷ []
unfolding numeral
numeral_zero = refl

-- but for 0, all digits are those of the number
numeral_some : (n : ℕ) → 0 < n → numeral n ≡ glyphs (digits_of 10 n)
unfolding numeral
numeral_some n h = sym (ap glyphs (digits_of_step 10 n (omega arith) h) ∙ map_push (λ d. 48 + d) (digits_of 10 (n / 10)) (n % 10))

-- it is what Rust prints
pub numeral_decimal : (n : ℕ) → n < 2 ^ 64 → decimal n ≡ numeral n
numeral_decimal zero h = decimal_digit 0 (omega arith) ∙ sym numeral_zero
numeral_decimal (suc n) h = decimal-digits_of (suc n) (omega arith) h ∙ sym (numeral_some (suc n) (omega arith))

-- of a number of any size
pub length_numeral_any : (k n : ℕ) → n / 10 < 10 ^ k → length (numeral n) ≤ k + 1
unfolding numeral
length_numeral_any k n h =
    omega (arith, length-append (glyphs (digits_of 10 (n / 10))) ((48 + n % 10) ∷ []), length-map (digits_of 10 (n / 10)) (λ d. 48 + d), length-digits_of-le 10 k (n / 10) (omega arith) h)

pub length_numeral : (k n : ℕ) → 0 < k → n < 10 ^ k → n < 2 ^ 64 → length (numeral n) ≤ k
length_numeral k n h l w = rw (← numeral_decimal n w) (length-decimal-le k n h l w)

-- reading back
digits_back : (ds : List ℕ) → AllBelowBase 10 ds → map digit_value (glyphs ds) ≡ ds
digits_back [] u = refl
digits_back (d ∷ ds) u =
    let one : digit_value (48 + d) ≡ d = grind (arith, lt-ltb, u.0) in
    let rest = digits_back ds u.1 in
    cc

value_numeral : (n : ℕ) → digits_value 10 (numeral n) ≡ n
value_numeral zero = ap (digits_value 10) numeral_zero
value_numeral (suc n) =
    let ds : List ℕ = digits_of 10 (suc n) in
    ap (digits_value 10) (numeral_some (suc n) (omega arith))
    ∙ digits_value_is 10 (glyphs ds)
    ∙ ap (number_from_digits 10) (digits_back ds (all_below_base_digits_of 10 (suc n) (omega arith)))
    ∙ number_digits_of 10 (suc n) (omega arith)

-- no leading zero
no_zero_first : (ds : List ℕ) → 0 < get_or ds 0 0 → get_or (glyphs ds) 0 0 ≡ 48 → ⊥
no_zero_first [] h e = omega arith
no_zero_first (d ∷ ds) h e = omega arith

first_numeral : (n : ℕ) → get_or (numeral n) 0 0 ≡ 48 → numeral n ≡ 48 ∷ []
first_numeral zero e = numeral_zero
first_numeral (suc n) e =
    absurd (no_zero_first (digits_of 10 (suc n)) (first_digits_of 10 (suc n) (omega arith) (omega arith)) (rw (numeral_some (suc n) (omega arith)) at e))

pub plain : (n : ℕ) → Plain n (numeral n)
plain n = record { reads = value_numeral n; first = first_numeral n }

-- every byte of a numeral is a digit
abbrev pub Figure : ℕ → Type 0
Figure c = (48 ≤ c) × (c ≤ 57)

all_figures : (ds : List ℕ) → AllBelowBase 10 ds → AllByRecursion Figure (glyphs ds)
all_figures [] u = tt
all_figures (d ∷ ds) u = let l : d < 10 = u.0 in ((omega arith, omega arith), all_figures ds u.1)

pub figures_numeral : (n : ℕ) → AllByRecursion Figure (numeral n)
figures_numeral zero = rw numeral_zero ((omega arith, omega arith), tt)
figures_numeral (suc n) = rw (numeral_some (suc n) (omega arith)) (all_figures (digits_of 10 (suc n)) (all_below_base_digits_of 10 (suc n) (omega arith)))
