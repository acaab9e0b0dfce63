-- What a timetable holds as it grows by one hour and gives one back.
use Rattle.std.specs.Prelude.{◌≡◌, ℕ, ◌+◌, ◌-◌, ◌^◌, ◌<◌, ◌≤◌, List, [], ◌∷◌, ◌++◌, length, replicate, Some, None, Option, slice_index, slice_get, option_and_then}
use Rattle.std.specs.Coded.{×_prop, Unit-prop, le_prop, Coded-set, coded_ℕ, coded_list}
use Rattle.std.proofs.Common.{sym, ap, subst, ◌∙◌, ⊎_elim, arith}
use Rattle.std.proofs.lemmas.Bool.{cases_lt}
use Rattle.std.proofs.lemmas.Option.{slice_get-get_or}
use Rattle.std.proofs.lemmas.List.{length_push, get_or-replicate}
use Rattle.facilities.specs.declared.stand.row.StandRow.{StandRow}
use Rattle.facilities.specs.Draws.{draw_at, draws, drawn, Overdrawn}
use Rattle.facilities.specs.Rows.{row, hours, Fits}
use Rattle.facilities.specs.Stands.{MayStart}
use Rattle.facilities.specs.Levels.{Given}
use Rattle.facilities.specs.Timetables.{Allowed, Sound, used}
use Rattle.facilities.specs.Usages.{at}
use Rattle.facilities.specs.Drawing.{drawn_inside, drawn_outside, hour_cases}
use Rattle.facilities.specs.LevelsLemmas.{given_front, given_push, given_last, given_short, total_front, total_push}

-- a supply that feeds a row is in its range
pub fed_range : (supply : ℕ) (rows : List (Option StandRow)) (j : ℕ) (r : StandRow) → (Overdrawn supply rows → ⊥) → Some r ≡ row rows j → supply ≤ 255
fed_range supply rows j r fed e = ⊎_elim
    (λ (l : 255 < supply). absurd (fed (record { job = j; held = r; is = sym e; unfed = λ f. omega (arith, f.range) })))
    (λ (l : supply ≤ 255). l)
    (cases_lt 255 supply)

-- once the hours xs are given it is the turn of a job, and o is its row
pub record Turn (rows : List (Option StandRow)) (js xs : List ℕ) (o : Option StandRow) : Type 0 where
  pub level : length xs < length js
  pub is : o ≡ row rows (slice_index js (length xs))

-- whose turn it is, as a timetable reads it
pub turn_of : (rows : List (Option StandRow)) (js listed xs : List ℕ) (k : ℕ) (o : Option StandRow) → listed ≡ js → length xs < length js → k ≡ length xs →
    o ≡ option_and_then (row rows) (slice_get listed k) → Turn rows js xs o
turn_of rows js listed xs k o all l e is = record {
  level = l;
  is = is ∙ ap (λ (ks : List ℕ). option_and_then (row rows) (slice_get ks k)) all ∙ ap (λ (n : ℕ). option_and_then (row rows) (slice_get js n)) e
      ∙ ap (option_and_then (row rows)) (slice_get-get_or js (length xs) 0 l);
}

-- a job that fits ends within the day
pub ends_in_day : (r : StandRow) (x : ℕ) → Fits r.window x → x + r.window.takes ≤ hours
ends_in_day r x f = omega (arith, f, r.window.ok)

module _ (rows : List (Option StandRow)) (supply : ℕ) (js : List ℕ) where
  pub allowed_front : (xs ys : List ℕ) → Allowed rows supply js (xs ++ ys) → Allowed rows supply js xs
  allowed_front xs ys a = record {
    timed = given_front (λ j x. MayStart (row rows j) x) js xs ys a.timed;
    supplied = λ h l. omega (arith, total_front (λ j x. draws (row rows j) x h) js xs ys, a.supplied h l);
  }

  allowed_short : (xs : List ℕ) → Allowed rows supply js xs → length xs ≤ length js
  allowed_short xs a = given_short (λ j x. MayStart (row rows j) x) js xs a.timed

  -- an hour that is allowed has its level
  pub allowed_level : (xs : List ℕ) (x : ℕ) → Allowed rows supply js (xs ++ x ∷ []) → length xs < length js
  allowed_level xs x a = omega (arith, allowed_short (xs ++ x ∷ []) a, length_push xs x)

  -- the last hour of those given
  pub last_given : (listed table ys xs : List ℕ) (x : ℕ) → ys ≡ xs ++ x ∷ [] → Sound rows supply js listed ys table → Sound rows supply js listed (xs ++ x ∷ []) table
  last_given listed table ys xs x e s = subst (λ zs. Sound rows supply js listed zs table) e s

  -- the last of the jobs that have an hour
  pub last_may : (xs : List ℕ) (x : ℕ) → Allowed rows supply js (xs ++ x ∷ []) → MayStart (row rows (slice_index js (length xs))) x
  last_may xs x a = given_last (λ j y. MayStart (row rows j) y) js xs x a.timed

  pub no_row : (xs : List ℕ) (x : ℕ) → Turn rows js xs None → Allowed rows supply js (xs ++ x ∷ []) → ⊥
  no_row xs x turn a = subst (λ o. MayStart o x → ⊥) turn.is (λ f. f) (last_may xs x a)

  module _ (xs : List ℕ) (x : ℕ) (r : StandRow) (turn : Turn rows js xs (Some r)) where
    pub last_fits : Allowed rows supply js (xs ++ x ∷ []) → Fits r.window x
    last_fits a = subst (λ o. MayStart o x) (sym turn.is) (last_may xs x a)

    pub used_more : (h : ℕ) → used rows js (xs ++ x ∷ []) h ≡ used rows js xs h + drawn (draw_at r) r.window.takes x h
    used_more h =
        total_push (λ j y. draws (row rows j) y h) js xs x turn.level
        ∙ ap (λ o. used rows js xs h + draws o x h) (sym turn.is)

    -- one hour more
    module _ (listed table : List ℕ) (s : Sound rows supply js listed xs table) (f : Fits r.window x) where
      pub feeds_not : (((h : ℕ) → x ≤ h → h < x + r.window.takes → at table h + draw_at r (h - x) ≤ supply) → ⊥) →
          Allowed rows supply js (xs ++ x ∷ []) → ⊥
      feeds_not n a = n (λ h l m.
          let day : h < hours = omega (arith, ends_in_day r x f) in
          omega (arith, a.supplied h day, used_more h, s.filled h day, drawn_inside (draw_at r) r.window.takes x h l m))

      module _ (free : (h : ℕ) → x ≤ h → h < x + r.window.takes → at table h + draw_at r (h - x) ≤ supply) where
        pub room_left : (h : ℕ) → x ≤ h → h < x + r.window.takes → at table h + draw_at r (h - x) < 2 ^ 16
        room_left h l m = omega (arith, free h l m, fed_range supply rows (slice_index js (length xs)) r s.fed turn.is)

        pub stands_on : Allowed rows supply js (xs ++ x ∷ [])
        stands_on = record {
          timed = given_push (λ j y. MayStart (row rows j) y) js xs x turn.level s.stands.timed (subst (λ o. MayStart o x) turn.is f);
          supplied = λ h day. hour_cases x (x + r.window.takes) h (used rows js (xs ++ x ∷ []) h ≤ supply)
              (λ l m. omega (arith, used_more h, s.filled h day, drawn_inside (draw_at r) r.window.takes x h l m, free h l m))
              (λ o. omega (arith, used_more h, drawn_outside (draw_at r) r.window.takes x h o, s.stands.supplied h day));
        }

        pub pushed : (table' ys : List ℕ) → ys ≡ xs ++ x ∷ [] →
            ((h : ℕ) → h < hours → at table' h ≡ at table h + drawn (draw_at r) r.window.takes x h) →
            Sound rows supply js listed ys table'
        pushed table' ys is more = record {
          all = s.all;
          fed = s.fed;
          stands = subst (Allowed rows supply js) (sym is) stands_on;
          filled = λ h day. subst (λ zs. at table' h ≡ used rows js zs h) (sym is) (omega (arith, used_more h, s.filled h day, more h day));
        }

    -- the last hour given back
    module _ (listed table : List ℕ) (s : Sound rows supply js listed (xs ++ x ∷ []) table) where
      pub there : (h : ℕ) → h < hours → drawn (draw_at r) r.window.takes x h ≤ at table h
      there h day = omega (arith, used_more h, s.filled h day)

      pub undone : (table' : List ℕ) →
          ((h : ℕ) → h < hours → at table' h + drawn (draw_at r) r.window.takes x h ≡ at table h) →
          Sound rows supply js listed xs table'
      undone table' less = record {
        all = s.all;
        fed = s.fed;
        stands = allowed_front xs (x ∷ []) s.stands;
        filled = λ h day. omega (arith, used_more h, s.filled h day, less h day);
      }

-- no job has an hour, and nothing is drawn
pub fresh : (rows : List (Option StandRow)) (supply : ℕ) (js listed xs table : List ℕ) →
    (Overdrawn supply rows → ⊥) → listed ≡ js → xs ≡ [] → table ≡ replicate hours 0 → Sound rows supply js listed xs table
fresh rows supply js listed xs table fed all none zeros = record {
  all = all;
  fed = fed;
  stands = subst (Allowed rows supply js) (sym none) (record { timed = tt; supplied = λ h day. omega arith });
  filled = λ h day. subst (λ zs. at table h ≡ used rows js zs h) (sym none) (ap (λ t. at t h) zeros ∙ get_or-replicate hours h 0 0 day);
}

-- that a timetable is sound has one proof at most
empty_prop : IsProp ⊥
empty_prop a b = absurd a

may_start_prop : (o : Option StandRow) (x : ℕ) → IsProp (MayStart o x)
may_start_prop None x = λ a b. absurd a
may_start_prop (Some r) x = ×_prop le_prop le_prop

given_prop : (fit : ℕ → ℕ → Type 0) → ((j x : ℕ) → IsProp (fit j x)) → (js xs : List ℕ) → IsProp (Given fit js xs)
given_prop fit prop js [] = Unit-prop
given_prop fit prop [] (x ∷ xs) = λ a b. absurd a
given_prop fit prop (j ∷ js) (x ∷ xs) = ×_prop (prop j x) (given_prop fit prop js xs)

module _ (rows : List (Option StandRow)) (supply : ℕ) (js : List ℕ) where
  allowed_prop : (xs : List ℕ) → IsProp (Allowed rows supply js xs)
  allowed_prop xs a b = λ i. record {
    timed = given_prop (λ j x. MayStart (row rows j) x) (λ j x. may_start_prop (row rows j) x) js xs a.timed b.timed i;
    supplied = λ h day. le_prop (a.supplied h day) (b.supplied h day) i;
  }

  pub sound_prop : (listed xs table : List ℕ) → IsProp (Sound rows supply js listed xs table)
  sound_prop listed xs table a b = λ i. record {
    all = Coded-set (coded_list coded_ℕ) listed js a.all b.all i;
    fed = λ o. empty_prop (a.fed o) (b.fed o) i;
    stands = allowed_prop xs a.stands b.stands i;
    filled = λ h day. Coded-set coded_ℕ _ _ (a.filled h day) (b.filled h day) i;
  }
