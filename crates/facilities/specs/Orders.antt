-- Jobs that run one after the other in an order, each as early as it can.
use Rattle.std.specs.Prelude.{◌≡◌, ℕ, max, cond, List, [], ◌∷◌, Some, None, Option, ◌==◌}
use Rattle.facilities.specs.declared.rows.Window.{Window}
use Rattle.facilities.specs.Rows.{row, Fits}
use Rattle.facilities.specs.Benches.{end}

-- the earliest start from hour t on
abbrev pub earliest : Option Window → ℕ → ℕ
earliest None t = t
earliest (Some w) t = max t w.release

-- the hour at which the job ends that starts as early as it can from hour t on
abbrev pub end_from : Option Window → ℕ → ℕ
end_from o t = end o (earliest o t)

-- that hour, or that the job then ends too late
abbrev pub Ends : Window → ℕ → Option ℕ → Type 0
Ends w t (Some e) = Fits w (earliest (Some w) t) × (e ≡ end_from (Some w) t)
Ends w t None = Fits w (earliest (Some w) t) → ⊥

-- the hour at which the job starts
abbrev pub start_from : List (Option Window) → ℕ → List ℕ → ℕ → ℕ
start_from rows t [] job = t
start_from rows t (x ∷ xs) job = cond (job == x) (earliest (row rows x) t) (start_from rows (end_from (row rows x) t) xs job)

-- the same, of jobs that may start at the day's first hour
abbrev pub start_in : List (Option Window) → List ℕ → ℕ → ℕ
start_in rows order job = start_from rows 0 order job
