-- The jobs of a set as a list from the lowest. Nothing here knows how many jobs there are.
use Rattle.std.proofs.Common.{◌≡◌, ℕ, zero, suc, ◌+◌, ◌*◌, ◌/◌, ◌%◌, ◌^◌, ◌<◌, ◌≤◌, Bool, true, false, ◌≢◌, List, [], ◌∷◌, ◌++◌, length, sym, refl, ap, ◌∙◌, ⊎_elim, append_assoc, append-nil, mod-eq_of_lt, arith, length-append}
use lib.Count.{ones, ones_cat, ones_step, ones-le}
use Rattle.std.proofs.lemmas.Nat.{pow_pos, mod-pow-add, mod_below}
use Rattle.std.proofs.lemmas.Bool.{cases_eq, eq-eqb, ne_eqb}
use Rattle.jobs.specs.Sets.{bit, Has, has, add, members, jobs_of, width, without, Lowest}
use Rattle.jobs.proofs.Bits.{bit_small, bit_le}
use Rattle.jobs.proofs.Members.{has_or_not, without_held, without_members}

length_add : (b : ℕ) (js : List ℕ) (i : ℕ) → b < 2 → length (add (lib.Dec.eqb b 1) js i) ≡ length js + b
length_add zero js i h = omega arith
length_add (suc zero) js i h = length-append js (i ∷ [])
length_add (suc (suc b)) js i h = absurd (omega arith)

ones_small : (b : ℕ) → b < 2 → ones b ≡ b
ones_small b h = ones_step b ∙ (omega (arith, ones-le 0 (b / 2) (omega arith)))

-- the low n bits
pub length_members_low : (s n : ℕ) → length (members s n) ≡ ones (s % 2 ^ n)
length_members_low s zero = sym (ap ones (omega arith) ∙ ones_small 0 (omega arith))
length_members_low s (suc n) =
    let cut : s % 2 ^ suc n ≡ bit s n * 2 ^ n + s % 2 ^ n = ap (λ k. s % 2 ^ k) (omega arith) ∙ mod-pow-add s 1 n in
    let low : s % 2 ^ n < 2 ^ n = mod_below s (2 ^ n) (pow_pos n) in
    length_add (bit s n) (members s n) n (bit_small s n) ∙ ap (λ k. k + bit s n) (length_members_low s n)
    ∙ omega (arith, ap ones cut, ones_cat n (bit s n) (s % 2 ^ n) low, ones_small (bit s n) (bit_small s n))

pub length_members : (s n : ℕ) → s < 2 ^ n → length (members s n) ≡ ones s
length_members s n h = length_members_low s n ∙ ap ones (mod-eq_of_lt h)

pub length_jobs : (s : ℕ) → s < 2 ^ width → length (jobs_of s) ≡ ones s
unfolding jobs_of
length_jobs s h = length_members s width h

pub few_members : (s n : ℕ) → length (members s n) ≤ n
few_members s zero = omega arith
few_members s (suc n) = omega (arith, few_members s n, length_add (bit s n) (members s n) n (bit_small s n), bit_small s n)

pub no_members : (s n : ℕ) → ((j : ℕ) → j < n → Has s j → ⊥) → members s n ≡ []
no_members s zero none = refl
no_members s (suc n) none =
    let e : has s n ≡ false = ne_eqb (bit s n) 1 (none n (omega arith)) in
    ap (λ b. add b (members s n) n) e ∙ no_members s n (λ j l h. none j (omega arith) h)

add_front : (b : Bool) (i : ℕ) (js : List ℕ) (k : ℕ) → add b (i ∷ js) k ≡ i ∷ add b js k
add_front true i js k = refl
add_front false i js k = refl

-- the lowest job comes first, and then the jobs of the set without it
pub members_lowest : (s i : ℕ) → Has s i → ((j : ℕ) → j < i → Has s j → ⊥) → (n : ℕ) → i < n → members s n ≡ i ∷ members (without s i) n
members_lowest s i h least zero l = absurd (omega arith)
members_lowest s i h least (suc n) l = ⊎_elim
    (λ (e : n ≡ i).
    let here : has s n ≡ true = ap (has s) e ∙ eq-eqb (bit s i) 1 h in
    let gone : has (without s i) n ≡ false = ap (has (without s i)) e ∙ ne_eqb (bit (without s i) i) 1 (λ k. ((without_members s i i).0 k).1 refl) in
    let before : members s n ≡ [] = no_members s n (λ j m k. least j (omega arith) k) in
    let before' : members (without s i) n ≡ [] = no_members (without s i) n (λ j m k. least j (omega arith) ((without_members s i j).0 k).0) in
    ap (λ b. add b (members s n) n) here ∙ ap (λ js. js ++ n ∷ []) before ∙ ap (λ k. k ∷ []) e
    ∙ sym (ap (λ b. i ∷ add b (members (without s i) n) n) gone ∙ ap (λ js. i ∷ js) before'))
    (λ (ne : n ≢ i).
    let same : has (without s i) n ≡ has s n = ⊎_elim
    (λ (k : Has s n). eq-eqb _ 1 ((without_members s i n).1 (k, ne)) ∙ sym (eq-eqb _ 1 k))
    (λ (k : Has s n → ⊥). ne_eqb _ 1 (λ m. k ((without_members s i n).0 m).0) ∙ sym (ne_eqb _ 1 k))
    (has_or_not s n) in
    ap (λ js. add (has s n) js n) (members_lowest s i h least n (omega arith)) ∙ add_front (has s n) i (members (without s i) n) n
    ∙ ap (λ b. i ∷ add b (members (without s i) n) n) (sym same))
    (cases_eq n i)

pub few_jobs : (s : ℕ) → length (jobs_of s) ≤ width
unfolding jobs_of
few_jobs s = few_members s width

pub no_jobs : (s : ℕ) → ((j : ℕ) → j < width → Has s j → ⊥) → jobs_of s ≡ []
unfolding jobs_of
no_jobs s none = no_members s width none

pub jobs_lowest : (s i : ℕ) → Lowest s i → i < width → jobs_of s ≡ i ∷ jobs_of (without s i)
unfolding jobs_of
jobs_lowest s i low l = members_lowest s i low.held low.least width l

-- one turn of listing the jobs of the whole: the lowest of those left goes to the end of those listed
pub list_more : (js : List ℕ) (s i : ℕ) (whole : List ℕ) → Lowest s i → i < width → js ++ jobs_of s ≡ whole → (js ++ i ∷ []) ++ jobs_of (without s i) ≡ whole
list_more js s i whole low l e = append_assoc js (i ∷ []) (jobs_of (without s i)) ∙ ap (λ (t : List ℕ). js ++ t) (sym (jobs_lowest s i low l)) ∙ e

pub list_room : (js : List ℕ) (s i whole : ℕ) → Lowest s i → i < width → js ++ jobs_of s ≡ jobs_of whole → length js < width
list_room js s i whole low l e =
    omega (arith, few_jobs whole, ap length e, length-append js (jobs_of s), ap length (jobs_lowest s i low l))

pub list_all : (js : List ℕ) (s : ℕ) (whole : List ℕ) → ((j : ℕ) → j < width → Has s j → ⊥) → js ++ jobs_of s ≡ whole → js ≡ whole
list_all js s whole none e = sym (append-nil js) ∙ ap (λ (t : List ℕ). js ++ t) (sym (no_jobs s none)) ∙ e

pub without_less : (s i : ℕ) → Has s i → without s i < s
without_less s i h = omega (arith, without_held s i h, bit_le s i h, pow_pos i)

-- all jobs below the width are listed
pub jobs_listed : (s : ℕ) (js : List ℕ) (n : ℕ) → js ≡ members s n → n ≤ width → width ≤ n → js ≡ jobs_of s
unfolding jobs_of
jobs_listed s js n e l g = let same : n ≡ width = omega (arith, l, g) in e ∙ ap (members s) same
