-- The lines of a sheet, one after the other, and how long a sheet can be.
use Rattle.std.proofs.Common.{◌≡◌, ℕ, suc, ◌+◌, ◌-◌, ◌*◌, ◌^◌, ◌<◌, ◌≤◌, List, [], ◌∷◌, ◌++◌, length, get_or, take, drop, codes, true, ltb, None, lt-ltb, sym, refl, ap, ◌∙◌, ⊎_elim, add-zero, add_assoc, arith}
use Rattle.std.proofs.lemmas.List.{append_assoc, append-nil, length-append, length-take-le, take_more, take-append-drop}
use Rattle.std.proofs.lemmas.Bool.{cases_lt}
use Rattle.jobs.specs.Sets.{width}
use Rattle.sheet.specs.Sheets.{numeral, pair, line, lines, no_tail, title, placing, feed, room_refusal, sheet_room}
use Rattle.sheet.proofs.Numbers.{length_numeral}

-- a line of two words
pub length_words : (word : List ℕ) (n : ℕ) (other : List ℕ) (m : ℕ) → length (pair word n other m ++ feed) ≡ length word + (length (numeral n) + (length other + (length (numeral m) + 1)))
unfolding pair
length_words word n other m = simp (length-append, add_assoc)

pub words_joined : (old word : List ℕ) (n : ℕ) (other : List ℕ) (m : ℕ) → ((((old ++ word) ++ numeral n) ++ other) ++ numeral m) ++ feed ≡ old ++ (pair word n other m ++ feed)
unfolding pair
words_joined old word n other m = simp append_assoc

-- the first line
pub length_head : (round cost : ℕ) → round < 2 ^ 32 → cost < 2 ^ 32 → length (title round cost ++ feed) ≤ 38
length_head round cost r c =
    omega (arith, length_words (codes "plan round ") round (codes " cost ") cost, length_numeral 10 round, length_numeral 10 cost)

-- as short as that for the rounds that there are
pub length_head_round : (round cost : ℕ) → round < 65536 → cost < 4294967296 → length (title round cost ++ feed) ≤ 33
length_head_round round cost r c =
    omega (arith, length_words (codes "plan round ") round (codes " cost ") cost, length_numeral 5 round, length_numeral 10 cost)

length_line_is : (job place : ℕ) → length (line job place []) ≡ 12 + (length (numeral job) + length (numeral place))
unfolding line
length_line_is job place = omega (arith, length_words (codes "job ") job (codes " place ") place)

-- 16 bytes, and one more for a job of two digits
length_line : (job place : ℕ) → job < 100 → place < 256 → length (line job place []) + (job - 10) ≤ 16 + (job + 1 - 10)
length_line job place j p = ⊎_elim
    (λ (small : job < 10). omega (arith, length_line_is job place, length_numeral 1 job, length_numeral 3 place))
    (λ (large : 10 ≤ job). omega (arith, length_line_is job place, length_numeral 2 job, length_numeral 3 place))
    (cases_lt job 10)

length_from : (job : ℕ) (places : List ℕ) → job + length places ≤ 100 → ((k : ℕ) → get_or places k 0 < 256) → length (lines no_tail job places) + (job - 10) ≤ 16 * length places + (job + length places - 10)
length_from job [] h b = omega arith
length_from job (p ∷ ps) h b =
    omega (arith, length-append (line job p []) (lines no_tail (suc job) ps), length_line job p (omega arith) (b 0), length_from (suc job) ps (omega arith) (λ k. b (suc k)))

-- the lines of the jobs: with the first line, no more than the room
pub length_lines : (places : List ℕ) → length places ≤ width → ((k : ℕ) → get_or places k 0 < 256) → length (lines no_tail 0 places) ≤ 262
length_lines places w b = omega (arith, length_from 0 places (omega arith) b)

lines_append : (tail : ℕ → List ℕ) (job : ℕ) (ps qs : List ℕ) → lines tail job (ps ++ qs) ≡ lines tail job ps ++ lines tail (job + length ps) qs
lines_append tail job [] qs = rw add-zero refl
lines_append tail job (p ∷ ps) qs =
    let count : suc job + length ps ≡ job + suc (length ps) = omega arith in
    ap (λ ys. line job p (tail job) ++ ys) (lines_append tail (suc job) ps qs ∙ ap (λ (k : ℕ). lines tail (suc job) ps ++ lines tail k qs) count)
    ∙ sym (append_assoc (line job p (tail job)) (lines tail (suc job) ps) (lines tail (job + suc (length ps)) qs))

-- one line more
pub lines_more : (old places : List ℕ) (job place : ℕ) → job < length places → place ≡ get_or places job 0 → (old ++ lines no_tail 0 (take job places)) ++ (placing job place ++ feed) ≡ old ++ lines no_tail 0 (take (job + 1) places)
unfolding line
lines_more old places job place h e =
    let front : List ℕ = take job places in
    let count : 0 + length front ≡ job = omega (arith, length-take-le job places (omega arith)) in
    rw (append_assoc, take_more places job 0 h, lines_append no_tail 0 front (get_or places job 0 ∷ []), count, append-nil, ← e) refl

-- one line more fits where all do
pub line_fits : (old places : List ℕ) (job place : ℕ) → job < length places → place ≡ get_or places job 0 → length (old ++ lines no_tail 0 (take job places)) + length (placing job place ++ feed) ≤ length old + length (lines no_tail 0 places)
line_fits old places job place h e =
    let front : List ℕ = take (job + 1) places in
    let rest : List ℕ = lines no_tail (0 + length front) (drop (job + 1) places) in
    let whole : lines no_tail 0 places ≡ lines no_tail 0 front ++ rest = rw (← lines_append no_tail 0 front (drop (job + 1) places), take-append-drop (job + 1) places) refl in
    omega (arith, ap length whole, ap length (lines_more old places job place h e), length-append {A = ℕ})

-- a buffer that is not refused has room
pub has_room : (room : ℕ) → None ≡ room_refusal room → sheet_room ≤ room
has_room room e = ⊎_elim
    (λ (small : room < sheet_room). let test : ltb room sheet_room ≡ true = lt-ltb room sheet_room small in let z : ◌≡◌ {A = ℕ} 0 1 = cc in absurd (omega arith))
    (λ (large : sheet_room ≤ room). large)
    (cases_lt room sheet_room)
