-- How many jobs a set has, less one and less all.
use Rattle.std.specs.Prelude.{◌≡◌, ℕ, zero, suc, ◌-◌, ◌/◌, ◌%◌, ◌^◌, ◌<◌, length, count_ones}
use Rattle.std.proofs.Common.{sym, ap, ◌∙◌, arith}
use Rattle.std.proofs.Math.Nat.{pow-succ'}
use Rattle.std.specs.Int.Count.{ones_step}
use Rattle.jobs.specs.Sets.{width, bit, Has, without, jobs_of}
use Rattle.jobs.proofs.Bits.{bit_suc, bit_le}
use Rattle.jobs.proofs.Lists.{length_jobs, no_jobs}
use Rattle.jobs.proofs.Members.{without_held}

ones_less : (s i : ℕ) → bit s i ≡ 1 → count_ones s ≡ suc (count_ones (s - 2 ^ i))
ones_less s zero h =
    let half : (s - 1) / 2 ≡ s / 2 = omega arith in
    omega (arith, ones_step s, ones_step (s - 1), ap count_ones half)
ones_less s (suc i) h =
    let down : bit (s / 2) i ≡ 1 = sym (bit_suc s i) ∙ h in
    let l = bit_le (s / 2) i down in
    let half : (s - 2 ^ suc i) / 2 ≡ s / 2 - 2 ^ i = omega (arith, pow-succ' 2 i) in
    let low : (s - 2 ^ suc i) % 2 ≡ s % 2 = omega (arith, pow-succ' 2 i) in
    omega (arith, ones_step s, ones_step (s - 2 ^ suc i), ap count_ones half, ones_less (s / 2) i down)

pub without_fits : (s i : ℕ) → s < 2 ^ width → without s i < 2 ^ width
without_fits s i l = omega arith

-- one job less
pub count_without : (s i : ℕ) → s < 2 ^ width → Has s i → length (jobs_of s) ≡ suc (length (jobs_of (without s i)))
count_without s i l h =
    length_jobs s l ∙ ones_less s i h ∙ ap (λ n. suc (count_ones n)) (sym (without_held s i h)) ∙ ap suc (sym (length_jobs (without s i) (without_fits s i l)))

pub count_none : (s i : ℕ) → s < 2 ^ width → length (jobs_of s) ≡ 0 → Has s i → ⊥
count_none s i l e h = omega (arith, count_without s i l h)

pub none_count : (s : ℕ) → ((i : ℕ) → i < width → Has s i → ⊥) → length (jobs_of s) ≡ 0
none_count s none = ap length (no_jobs s none)
