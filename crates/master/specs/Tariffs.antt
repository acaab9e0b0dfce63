-- Tariffs: the prices in force and the barred pairs.
use Rattle.std.specs.Prelude.{◌≡◌, ℕ, Bool, false, cond, ◌&&◌, Some, None, Option, ◌==◌}
use Rattle.std.specs.List.{slice_get}
use Rattle.master.specs.declared.tariff.Tariff.{Tariff}
use Rattle.master.specs.declared.offer.Offer.{Offer}
use Rattle.master.specs.declared.offer.Terms.{Terms}

abbrev pub job_count : Tariff → ℕ
job_count t = t.jobs

abbrev pub place_count : Tariff → ℕ
place_count t = t.places

-- a job's terms at a place, where there are such a job and such a place
abbrev pub offer_terms : ℕ → Option Offer → Option Terms
offer_terms place (Some o) = slice_get o.terms place
offer_terms place None = None

abbrev pub terms_of : Tariff → ℕ → ℕ → Option Terms
terms_of t job place = offer_terms place (slice_get t.offers job)

-- what is read of terms; where there are none, what there is at first
abbrev pub from_terms : {X : Type 0} → (Terms → X) → X → Option Terms → X
from_terms f x (Some m) = f m
from_terms f x None = x

-- the price of a job at a place
abbrev pub price_of : Tariff → ℕ → ℕ → ℕ
price_of t job place = from_terms (λ m. m.price) 0 (terms_of t job place)

-- whether the place is barred to the job
abbrev pub barred_in : Tariff → ℕ → ℕ → Bool
barred_in t job place = from_terms (λ m. m.barred) false (terms_of t job place)

-- a table with the entry of one pair replaced
abbrev pub replaced : {X : Type 0} → (ℕ → ℕ → X) → ℕ → ℕ → X → ℕ → ℕ → X
replaced table job place x j p = cond (job == j && place == p) x (table j p)

-- two tables with the same entries
abbrev pub Alike : {X : Type 0} → (ℕ → ℕ → X) → (ℕ → ℕ → X) → Type 0
Alike a b = (job place : ℕ) → a job place ≡ b job place

-- the terms of one pair set, and nothing else changed
pub record SetsTerms (t : Tariff) (job place : ℕ) (m : Terms) (u : Tariff) : Type 0 where
  pub jobs_are : job_count u ≡ job_count t
  pub places_are : place_count u ≡ place_count t
  pub terms_are : Alike (terms_of u) (replaced (terms_of t) job place (Some m))

-- a tariff with nothing set: every price 0, every pair permitted
pub record Blank (jobs places : ℕ) (t : Tariff) : Type 0 where
  pub jobs_are : job_count t ≡ jobs
  pub places_are : place_count t ≡ places
  pub prices_are : Alike (price_of t) (λ _ _. 0)
  pub bars_are : Alike (barred_in t) (λ _ _. false)

-- one price set, and nothing else changed
pub record PricedAt (t : Tariff) (job place amount : ℕ) (u : Tariff) : Type 0 where
  pub jobs_are : job_count u ≡ job_count t
  pub places_are : place_count u ≡ place_count t
  pub prices_are : Alike (price_of u) (replaced (price_of t) job place amount)
  pub bars_are : Alike (barred_in u) (barred_in t)

-- one pair barred or permitted, and nothing else changed
pub record BarredAt (t : Tariff) (job place : ℕ) (bar : Bool) (u : Tariff) : Type 0 where
  pub jobs_are : job_count u ≡ job_count t
  pub places_are : place_count u ≡ place_count t
  pub prices_are : Alike (price_of u) (price_of t)
  pub bars_are : Alike (barred_in u) (replaced (barred_in t) job place bar)

-- the same prices and bars, for other numbers of jobs and places
pub record Resized (t : Tariff) (jobs places : ℕ) (u : Tariff) : Type 0 where
  pub jobs_are : job_count u ≡ jobs
  pub places_are : place_count u ≡ places
  pub prices_are : Alike (price_of u) (price_of t)
  pub bars_are : Alike (barred_in u) (barred_in t)
