-- What jobs draw from a stand's supply.
use Rattle.std.specs.Prelude.{◌≡◌, ℕ, ◌+◌, ◌-◌, ◌≤◌, Bool, cond, ◌&&◌, List, Some, None, sum_by, Option, nat_le, nat_lt}
use Rattle.jobs.specs.Sets.{jobs_of}
use Rattle.facilities.specs.declared.stand.row.StandRow.{StandRow}
use Rattle.facilities.specs.Rows.{row}

-- what a job draws in hour k since its start, its first hour being 0: the same in each
-- (shut, so that nothing else rests on its being the same)
unfoldable pub draw_at : StandRow → ℕ → ℕ
draw_at r k = r.draw

-- a job that takes so many hours from s on runs in hour h: its last hour is s + takes - 1
abbrev pub running : (takes s h : ℕ) → Bool
running takes s h = nat_le s h && nat_lt h (s + takes)

-- what such a job draws in hour h, where `draw` says what it draws in each hour since its start
abbrev pub drawn : (ℕ → ℕ) → (takes s h : ℕ) → ℕ
drawn draw takes s h = cond (running takes s h) (draw (h - s)) 0

-- what a job with this row, if it has one, draws in hour h when it starts at s
abbrev pub draws : Option StandRow → (s h : ℕ) → ℕ
draws None s h = 0
draws (Some r) s h = drawn (draw_at r) r.window.takes s h

-- what the jobs of the set together draw in hour h
abbrev pub load : List (Option StandRow) → (set : ℕ) (start : ℕ → ℕ) (h : ℕ) → ℕ
load rows set start h = sum_by (λ i. draws (row rows i) (start i) h) (jobs_of set)

-- the row draws something, and no more than the supply, which is in its range
pub record Fed (supply : ℕ) (r : StandRow) : Type 0 where
  pub some : 1 ≤ r.draw
  pub enough : r.draw ≤ supply
  pub range : supply ≤ 255

-- some job has a row that the supply does not feed
pub record Overdrawn (supply : ℕ) (rows : List (Option StandRow)) : Type 0 where
  pub job : ℕ
  pub held : StandRow
  pub is : row rows job ≡ Some held
  pub unfed : Fed supply held → ⊥
