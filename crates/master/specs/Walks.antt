-- Inner: how far the search has come. No public contract cites what stands here.
-- Rows are taken in order; `pre` has the places of the first jobs, and `x` is the next place to try for the job after them.
use Rattle.std.specs.Prelude.{◌≡◌, ℕ, ◌+◌, ◌-◌, ◌*◌, ◌^◌, ◌<◌, ◌≤◌, Bool, true, false, ◌⊎◌, List, [], ◌∷◌, ◌++◌, length, get_or, take, IfSome, Some, Option, MatchOption, ◌≢◌, slice_index, slice_index_or, slice_set}
use Rattle.std.specs.List.{AllByRecursion}
use Rattle.jobs.specs.Sets.{width, bits, Has}
use Rattle.jobs.specs.Words.{Same}
use Rattle.master.specs.Cuts.{Obeys}
use Rattle.master.specs.Master.{Candidate, Earlier, Finds}
use Rattle.master.specs.Rows.{row_places, Group, Permits, costs}
use Rattle.master.specs.Tables.{held}
use Rattle.master.specs.Tariffs.{job_count, place_count, price_of, barred_in}
use Rattle.master.specs.declared.cut.Cut.{Cut}
use Rattle.master.specs.declared.groups.Groups.{Groups}
use Rattle.master.specs.declared.priced.Priced.{Priced}
use Rattle.master.specs.declared.table.CutTable.{CutTable}
use Rattle.master.specs.declared.tariff.Tariff.{Tariff}
use Rattle.master.specs.declared.walk.Walk.{Walk}

-- the row comes before all that start with pre and then x
abbrev pub Passed : List ℕ → ℕ → List ℕ → Type 0
Passed [] x [] = ⊥
Passed [] x (y ∷ r) = y < x
Passed (p ∷ pre) x [] = ⊥
Passed (p ∷ pre) x (y ∷ r) = (y < p) ⊎ ((y ≡ p) × Passed pre x r)

-- the row starts with pre and then x
abbrev pub Starts : List ℕ → ℕ → List ℕ → Type 0
Starts [] x [] = ⊥
Starts [] x (y ∷ r) = y ≡ x
Starts (p ∷ pre) x [] = ⊥
Starts (p ∷ pre) x (y ∷ r) = (y ≡ p) × Starts pre x r

-- past the first n jobs the row has nothing but 0
abbrev pub Spare : ℕ → List ℕ → Type 0
Spare n row = (k : ℕ) → n ≤ k → slice_index row k ≡ 0

-- the best found costs no more
abbrev pub Matched : ℕ → Option Priced → Type 0
Matched cost best = MatchOption best ⊥ (λ b. b.cost ≤ cost)

-- what was found, if anything, costs more
abbrev pub Cheaper : ℕ → Option Priced → Type 0
Cheaper cost best = IfSome best (λ b. cost < b.cost)

-- the jobs at a place
abbrev pub group_at : Groups → ℕ → ℕ
group_at g p = bits (slice_index_or g.sets p (record { bits = 0 }))

-- one job more at a place
pub record JoinsGroup (g : Groups) (place job : ℕ) (h : Groups) : Type 0 where
  pub here : (j : ℕ) → Same (Has (group_at h place) j) (Has (group_at g place) j ⊎ (j ≡ job))
  pub others : (p : ℕ) → (p ≢ place) → group_at h p ≡ group_at g p

-- one job less
pub record QuitsGroup (g : Groups) (place job : ℕ) (h : Groups) : Type 0 where
  pub here : (j : ℕ) → Same (Has (group_at h place) j) (Has (group_at g place) j × (j ≢ job))
  pub others : (p : ℕ) → (p ≢ place) → group_at h p ≡ group_at g p

-- the place to try next
abbrev pub next_place : Walk → ℕ
next_place w = slice_index w.row w.depth

-- the place of the job before
abbrev pub last_place : Walk → ℕ
last_place w = slice_index w.row (w.depth - 1)

-- the place after this one for the same job, with what is the best found then
pub record Skips (w : Walk) (job place : ℕ) (best : Option Priced) (v : Walk) : Type 0 where
  pub row_is : v.row ≡ slice_set w.row job (place + 1)
  pub totals_is : v.totals ≡ w.totals
  pub groups_is : v.groups ≡ w.groups
  pub depth_is : v.depth ≡ w.depth
  pub best_is : v.best ≡ best

-- on to the next job, from this one at this place
pub record Deepens (w : Walk) (job place total : ℕ) (v : Walk) : Type 0 where
  pub row_is : v.row ≡ slice_set w.row (job + 1) 0
  pub totals_is : v.totals ≡ slice_set w.totals (job + 1) total
  pub groups_is : JoinsGroup w.groups place job v.groups
  pub depth_is : v.depth ≡ job + 1
  pub best_is : v.best ≡ w.best

-- back to the job before, and there to the next place
pub record Backs (w v : Walk) : Type 0 where
  pub row_is : v.row ≡ slice_set w.row (w.depth - 1) (last_place w + 1)
  pub totals_is : v.totals ≡ w.totals
  pub groups_is : QuitsGroup w.groups (last_place w) (w.depth - 1) v.groups
  pub depth_is : v.depth ≡ w.depth - 1
  pub best_is : v.best ≡ w.best

-- how much of the search is left: falls with each step
abbrev pub ahead : ℕ → ℕ → List ℕ → ℕ → ℕ
ahead m k [] x = (m + 1 - x) * (m + 2) ^ k
ahead m k (p ∷ pre) x = (m - p) * (m + 2) ^ k + ahead m (k - 1) pre x

module _ (n m : ℕ) (joined price : ℕ → ℕ → ℕ) (barred : ℕ → ℕ → Bool) (cuts : List Cut) where
  -- the best of the candidates passed
  pub record Leads (pre : List ℕ) (x : ℕ) (row : List ℕ) (cost : ℕ) : Type 0 where
    pub candidate : Candidate n m barred cuts row
    pub priced : cost ≡ costs joined price row
    pub passed : Passed pre x row
    pub first : (other : List ℕ) → Candidate n m barred cuts other → Passed pre x other → (row ≡ other) ⊎ Earlier cost row (costs joined price other) other

  abbrev pub Sofar : List ℕ → ℕ → Option Priced → Type 0
  Sofar pre x best = MatchOption best ((row : List ℕ) → Candidate n m barred cuts row → Passed pre x row → ⊥) (λ b. Leads pre x (row_places b.row) b.cost)

  -- The search stands at the row's first d places, which break no cut and of which each total is noted, with the next place to try in the row at d.
  pub record Walks (row totals : List ℕ) (groups : Groups) (d : ℕ) (best : Option Priced) : Type 0 where
    pub deep : d < n
    pub few : n ≤ width
    pub next : get_or row d 0 ≤ m
    pub row_long : length row ≡ width
    pub totals_long : length totals ≡ width
    pub within : AllByRecursion (λ x. x < m) (take d row)
    pub permitted : Permits barred (take d row)
    pub obeying : Obeys (take d row) cuts
    pub grouped : (p : ℕ) → p < m → Group (take d row) p (group_at groups p)
    pub noted : (k : ℕ) → k ≤ d → slice_index totals k ≡ costs joined price (take k row)
    pub spare : Spare n row
    pub sofar : Sofar (take d row) (slice_index row d) best

abbrev pub left_of : ℕ → ℕ → List ℕ → ℕ → ℕ
left_of n m row d = ahead m n (take d row) (slice_index row d)

-- the same at a tariff and a table
abbrev pub Walking : (ℕ → ℕ → ℕ) → Tariff → CutTable → Walk → Type 0
Walking joined t cuts w = Walks (job_count t) (place_count t) joined (price_of t) (barred_in t) (held cuts) w.row w.totals w.groups w.depth w.best

abbrev pub left_in : Tariff → Walk → ℕ
left_in t w = left_of (job_count t) (place_count t) w.row w.depth

abbrev pub FindsIn : (ℕ → ℕ → ℕ) → Tariff → CutTable → Option Priced → Type 0
FindsIn joined t cuts found = Finds (job_count t) (place_count t) joined (price_of t) (barred_in t) (held cuts) found

-- the place is permitted to the job, costs less so far than the best found, and breaks no cut
pub record Worth (t : Tariff) (cuts : CutTable) (w : Walk) (job place total : ℕ) : Type 0 where
  pub free : barred_in t job place ≡ false
  pub cheaper : Cheaper total w.best
  pub allowed : Obeys (take job w.row ++ place ∷ []) (held cuts)

-- or one of these fails
pub data Worthless (t : Tariff) (cuts : CutTable) (w : Walk) (job place total : ℕ) : Type 0 where
  barred : barred_in t job place ≡ true → Worthless t cuts w job place total
  dear : Matched total w.best → Worthless t cuts w job place total
  broken : (Obeys (take job w.row ++ place ∷ []) (held cuts) → ⊥) → Worthless t cuts w job place total

-- the row, whole with this pair, is the best found now
pub record Takes (w : Walk) (job place jobs cost : ℕ) (v : Walk) : Type 0 where
  pub found : Priced
  pub row_is : row_places found.row ≡ take jobs w.row
  pub cost_is : found.cost ≡ cost
  pub skips : Skips w job place (Some found) v
