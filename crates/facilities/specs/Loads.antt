-- A set can be scheduled on a stand exactly where start hours can be given to its jobs one after the other.
use Rattle.std.specs.Prelude.{◌≡◌, ℕ, ◌^◌, ◌<◌, List, map, length, Some, None, Option}
use Rattle.std.proofs.Common.{sym, ap, subst, arith}
use Rattle.std.proofs.lemmas.List.{length-map}
use Rattle.jobs.specs.Sets.{Part, width, jobs_of}
use Rattle.facilities.specs.declared.stand.row.StandRow.{StandRow}
use Rattle.facilities.specs.Draws.{draws}
use Rattle.facilities.specs.Levels.{choice_of}
use Rattle.facilities.specs.Rows.{row, hours}
use Rattle.facilities.specs.Stands.{MayStart, Schedulable}
use Rattle.facilities.specs.Timetables.{Timed, Allowed, used}
use Rattle.facilities.specs.Trials.{Solves}
use Rattle.facilities.specs.LevelsLemmas.{given_within, given_map, map_given, total_map, choices_back}
use Rattle.facilities.specs.Listed.{all_jobs, jobs_all, jobs_apart, sum_jobs_part}

-- a part of a set draws no more
pub schedule_part : (rows : List (Option StandRow)) (supply part whole : ℕ) → Part part whole → Schedulable rows supply whole → Schedulable rows supply part
schedule_part rows supply part whole p (start, s) = (
  start,
  record {
    fits = λ i h. s.fits i (p i h);
    supplied = λ h day. omega (arith, sum_jobs_part (λ i. draws (row rows i) (start i) h) part whole p, s.supplied h day);
  },
)

-- a job that may start does so within the day
in_day : (o : Option StandRow) (x : ℕ) → MayStart o x → x < hours
in_day None x f = absurd f
in_day (Some r) x f = omega (arith, f, r.window.ok)

module _ (rows : List (Option StandRow)) (supply set : ℕ) where
  -- hours for all jobs are a schedule
  pub scheduled : set < 2 ^ width → (xs : List ℕ) → Solves (Allowed rows supply (jobs_of set)) (length (jobs_of set)) hours xs → Schedulable rows supply set
  scheduled l xs s =
      let start = choice_of (jobs_of set) xs in
      let back : map start (jobs_of set) ≡ xs = choices_back (jobs_of set) xs (jobs_apart set) s.full in
      let timed : Timed rows (jobs_of set) (map start (jobs_of set)) = subst (Timed rows (jobs_of set)) (sym back) s.stands.timed in (
        start,
        record {
          fits = jobs_all (λ j. MayStart (row rows j) (start j)) set l (map_given (λ j x. MayStart (row rows j) x) start (jobs_of set) timed);
          supplied = λ h day. omega (
            arith,
            total_map (λ j x. draws (row rows j) x h) start (jobs_of set),
            ap (λ zs. used rows (jobs_of set) zs h) back,
            s.stands.supplied h day,
          );
        },
      )

  -- and a schedule gives such hours
  pub solved : (s : Schedulable rows supply set) → Solves (Allowed rows supply (jobs_of set)) (length (jobs_of set)) hours (map s.0 (jobs_of set))
  solved (start, s) =
      let timed = given_map (λ j x. MayStart (row rows j) x) start (jobs_of set) (all_jobs (λ j. MayStart (row rows j) (start j)) set s.fits) in
      record {
        full = length-map (jobs_of set) start;
        within = given_within (λ j x. MayStart (row rows j) x) hours (λ j x. in_day (row rows j) x) (jobs_of set) (map start (jobs_of set)) timed;
        stands = record {
          timed = timed;
          supplied = λ h day. omega (arith, total_map (λ j x. draws (row rows j) x h) start (jobs_of set), s.supplied h day);
        };
      }
