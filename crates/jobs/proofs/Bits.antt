-- The bits of a number, one by one. Nothing here knows how many there are.
use Rattle.std.proofs.Common.{◌≡◌, ℕ, zero, suc, ◌+◌, ◌-◌, ◌/◌, ◌%◌, ◌^◌, ◌<◌, ◌≤◌, min, max, ◌≢◌, sym, refl, ap, ◌∙◌, arith}
use native.Mathlib.Nat.{pow-succ', div-div-eq-div-mul}
use lib.Bits.{bit_and, bit_or, and_step, or_step, and_shr, or_shr}
use Rattle.jobs.specs.Sets.{bit}

pub bit_suc : (s i : ℕ) → bit s (suc i) ≡ bit (s / 2) i
bit_suc s i = ap (λ (n : ℕ). s / n % 2) (pow-succ' 2 i) ∙ ap (λ (n : ℕ). n % 2) (sym (div-div-eq-div-mul s 2 (2 ^ i)))

pub bit_small : (s i : ℕ) → bit s i < 2
bit_small s i = omega arith

pub bit_zero : (i : ℕ) → bit 0 i ≡ 0
bit_zero zero = refl
bit_zero (suc i) = bit_suc 0 i ∙ bit_zero i

-- what holds a bit is at least its worth
pub bit_le : (s i : ℕ) → bit s i ≡ 1 → 2 ^ i ≤ s
bit_le s zero h = omega arith
bit_le s (suc i) h =
    let down : bit (s / 2) i ≡ 1 = sym (bit_suc s i) ∙ h in
    omega (arith, bit_le (s / 2) i down, pow-succ' 2 i)

below_pow : (i : ℕ) → i < 2 ^ i
below_pow zero = omega arith
below_pow (suc i) = omega (arith, below_pow i, pow-succ' 2 i)

pub bit_below : (s i : ℕ) → bit s i ≡ 1 → i < s
bit_below s i h = omega (arith, bit_le s i h, below_pow i)

pub bit_fits : (k s i : ℕ) → s < 2 ^ k → bit s i ≡ 1 → i < k
bit_fits zero s i l h = let e : s ≡ 0 = omega arith in omega (arith, h, ap (λ n. bit n i) e, bit_zero i)
bit_fits (suc k) s zero l h = omega arith
bit_fits (suc k) s (suc i) l h =
    let down : bit (s / 2) i ≡ 1 = sym (bit_suc s i) ∙ h in
    omega (arith, bit_fits k (s / 2) i (omega (arith, pow-succ' 2 k)) down)

-- a number is known by its bits
pub by_bits_below : (k a b : ℕ) → a < 2 ^ k → b < 2 ^ k → ((i : ℕ) → bit a i ≡ bit b i) → a ≡ b
by_bits_below zero a b la lb h = omega arith
by_bits_below (suc k) a b la lb h =
    let low : a % 2 ≡ b % 2 = omega (arith, h 0) in
    let high : a / 2 ≡ b / 2 = by_bits_below k (a / 2) (b / 2) (omega (arith, pow-succ' 2 k)) (omega (arith, pow-succ' 2 k)) (λ i. sym (bit_suc a i) ∙ h (suc i) ∙ bit_suc b i) in
    omega arith

pub by_bits : (a b : ℕ) → ((i : ℕ) → bit a i ≡ bit b i) → a ≡ b
by_bits a b h = by_bits_below (a + b) a b (omega (arith, below_pow (a + b))) (omega (arith, below_pow (a + b))) h

-- a bit taken off
half_less : (s i : ℕ) → 2 ^ i ≤ s / 2 → (s - 2 ^ suc i) / 2 ≡ s / 2 - 2 ^ i
half_less s i h = omega (arith, pow-succ' 2 i)

pub bit_off_same : (s i : ℕ) → bit s i ≡ 1 → bit (s - 2 ^ i) i ≡ 0
bit_off_same s zero h = omega arith
bit_off_same s (suc i) h =
    let down : bit (s / 2) i ≡ 1 = sym (bit_suc s i) ∙ h in
    bit_suc (s - 2 ^ suc i) i ∙ ap (λ (n : ℕ). bit n i) (half_less s i (bit_le (s / 2) i down)) ∙ bit_off_same (s / 2) i down

pub bit_off_other : (s i j : ℕ) → bit s i ≡ 1 → j ≢ i → bit (s - 2 ^ i) j ≡ bit s j
bit_off_other s zero zero h ne = absurd (ne refl)
bit_off_other s zero (suc j) h ne =
    let half : (s - 1) / 2 ≡ s / 2 = omega arith in
    bit_suc (s - 1) j ∙ ap (λ (n : ℕ). bit n j) half ∙ sym (bit_suc s j)
bit_off_other s (suc i) zero h ne = omega (arith, bit_le s (suc i) h, pow-succ' 2 i)
bit_off_other s (suc i) (suc j) h ne =
    let down : bit (s / 2) i ≡ 1 = sym (bit_suc s i) ∙ h in
    let ne' : j ≢ i = λ e. ne (ap suc e) in
    bit_suc (s - 2 ^ suc i) j ∙ ap (λ (n : ℕ). bit n j) (half_less s i (bit_le (s / 2) i down)) ∙ bit_off_other (s / 2) i j down ne' ∙ sym (bit_suc s j)

-- a bit put on
half_more : (s i : ℕ) → (s + 2 ^ suc i) / 2 ≡ s / 2 + 2 ^ i
half_more s i = omega (arith, pow-succ' 2 i)

pub bit_on_same : (s i : ℕ) → bit s i ≡ 0 → bit (s + 2 ^ i) i ≡ 1
bit_on_same s zero h = omega arith
bit_on_same s (suc i) h =
    let down : bit (s / 2) i ≡ 0 = sym (bit_suc s i) ∙ h in
    bit_suc (s + 2 ^ suc i) i ∙ ap (λ (n : ℕ). bit n i) (half_more s i) ∙ bit_on_same (s / 2) i down

pub bit_on_other : (s i j : ℕ) → bit s i ≡ 0 → j ≢ i → bit (s + 2 ^ i) j ≡ bit s j
bit_on_other s zero zero h ne = absurd (ne refl)
bit_on_other s zero (suc j) h ne =
    let half : (s + 1) / 2 ≡ s / 2 = omega arith in
    bit_suc (s + 1) j ∙ ap (λ (n : ℕ). bit n j) half ∙ sym (bit_suc s j)
bit_on_other s (suc i) zero h ne = omega (arith, pow-succ' 2 i)
bit_on_other s (suc i) (suc j) h ne =
    let down : bit (s / 2) i ≡ 0 = sym (bit_suc s i) ∙ h in
    let ne' : j ≢ i = λ e. ne (ap suc e) in
    bit_suc (s + 2 ^ suc i) j ∙ ap (λ (n : ℕ). bit n j) (half_more s i) ∙ bit_on_other (s / 2) i j down ne' ∙ sym (bit_suc s j)

-- a number whose bit i is 0 has room for it
pub on_fits : (k s i : ℕ) → s < 2 ^ k → i < k → bit s i ≡ 0 → s + 2 ^ i < 2 ^ k
on_fits zero s i l m h = absurd (omega arith)
on_fits (suc k) s zero l m h = omega (arith, pow-succ' 2 k)
on_fits (suc k) s (suc i) l m h =
    let down : bit (s / 2) i ≡ 0 = sym (bit_suc s i) ∙ h in
    omega (arith, on_fits k (s / 2) i (omega (arith, pow-succ' 2 k)) (omega arith) down, pow-succ' 2 k, pow-succ' 2 i)

-- what the machine's operations do to each bit
pub and_bit : (a b i : ℕ) → bit (bit_and a b) i ≡ min (bit a i) (bit b i)
and_bit a b i =
    let p : ℕ = a / 2 ^ i in
    let q : ℕ = b / 2 ^ i in
    let last : bit_and p q % 2 ≡ min (p % 2) (q % 2) = omega (arith, and_step p q) in
    ap (λ (n : ℕ). n % 2) (and_shr a b i) ∙ last

pub or_bit : (a b i : ℕ) → bit (bit_or a b) i ≡ max (bit a i) (bit b i)
or_bit a b i =
    let p : ℕ = a / 2 ^ i in
    let q : ℕ = b / 2 ^ i in
    let last : bit_or p q % 2 ≡ max (p % 2) (q % 2) = omega (arith, or_step p q) in
    ap (λ (n : ℕ). n % 2) (or_shr a b i) ∙ last
