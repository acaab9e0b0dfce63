-- A planner as it is seen from outside, and what each call makes of it.
use Rattle.std.specs.Prelude.{ℕ, ◌+◌, Bool, false, List, [], None, Option}
use Rattle.master.specs.Tariffs.{replaced}
use Rattle.master.specs.declared.cut.Cut.{Cut}

pub record State (W J : Type 0) : Type 0 where
  pub workshop : W
  pub measure : J
  -- the number of jobs; that of places is the workshop's count
  pub jobs : ℕ
  -- the prices in force and the barred pairs, by job and place
  pub price : ℕ → ℕ → ℕ
  pub barred : ℕ → ℕ → Bool
  -- the cuts held, in the order in which they were put
  pub cuts : List Cut
  -- the pending proposal: its row and its cost
  pub pending : Option (List ℕ × ℕ)
  pub round : ℕ

-- at its making: every price 0, every pair permitted, no cut, nothing pending, round 0
abbrev pub fresh : {W J : Type 0} → W → J → ℕ → State W J
fresh w measure jobs = record {
  workshop = w;
  measure = measure;
  jobs = jobs;
  price = λ _ _. 0;
  barred = λ _ _. false;
  cuts = [];
  pending = None;
  round = 0;
}

-- the tables of prices and bars are others, and what was pending is dropped
abbrev pub repriced : {W J : Type 0} → State W J → (ℕ → ℕ → ℕ) → (ℕ → ℕ → Bool) → State W J
repriced s price barred = record {
  workshop = s.workshop;
  measure = s.measure;
  jobs = s.jobs;
  price = price;
  barred = barred;
  cuts = s.cuts;
  pending = None;
  round = s.round;
}

-- a price is set, and what was pending is dropped
abbrev pub with_price : {W J : Type 0} → State W J → ℕ → ℕ → ℕ → State W J
with_price s job place amount = repriced s (replaced s.price job place amount) s.barred

-- a pair is barred or permitted, and what was pending is dropped
abbrev pub with_bar : {W J : Type 0} → State W J → ℕ → ℕ → Bool → State W J
with_bar s job place bar = repriced s s.price (replaced s.barred job place bar)

-- the workshop has moved, and nothing else
abbrev pub with_workshop : {W J : Type 0} → State W J → W → State W J
with_workshop s w = record {
  workshop = w;
  measure = s.measure;
  jobs = s.jobs;
  price = s.price;
  barred = s.barred;
  cuts = s.cuts;
  pending = s.pending;
  round = s.round;
}

-- another proposal is pending, or none
abbrev pub with_pending : {W J : Type 0} → State W J → Option (List ℕ × ℕ) → State W J
with_pending s pending = record {
  workshop = s.workshop;
  measure = s.measure;
  jobs = s.jobs;
  price = s.price;
  barred = s.barred;
  cuts = s.cuts;
  pending = pending;
  round = s.round;
}

-- after a judgement: the workshop has moved, the table holds these cuts, nothing is pending, and the round is the next
abbrev pub judged : {W J : Type 0} → State W J → W → List Cut → State W J
judged s w cuts = record {
  workshop = w;
  measure = s.measure;
  jobs = s.jobs;
  price = s.price;
  barred = s.barred;
  cuts = cuts;
  pending = None;
  round = s.round + 1;
}
