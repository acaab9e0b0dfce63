-- One place asked about set after set.
use Rattle.std.proofs.Common.{◌≡◌, ℕ, ◌+◌, ◌<◌, ◌≤◌, Bool, true, false, List, [], ◌∷◌, ◌++◌, length, get_or, Some, None, Ok, Err, Option, sym, refl, ap, ◌∙◌, subst, arith, length-append}
use Rattle.std.proofs.lemmas.List.{get_or_default}
use Rattle.jobs.specs.Sets.{bits}
use Rattle.jobs.specs.Words.{Exactly}
use Rattle.jobs.specs.declared.set.JobSet.{JobSet}
use Rattle.workshops.specs.declared.reply.Fault.{Fault}
use Rattle.workshops.specs.declared.tally.Tally.{Tally}
use Rattle.workshops.specs.Replies.{True}
use Rattle.workshops.specs.Runs.{asked, Runs, AllTold}
use Rattle.workshops.specs.Tallies.{yeses, questions, Exact, Ends, Tallied, AskedAll}
use Rattle.workshops.specs.Verdicts.{Verdict}
use Rattle.workshops.specs.Workshops.{Meaning, Lawful}
use Rattle.workshops.proofs.RunLaws.{all_steady, runs_append}

-- the first n sets were answered, as the tally says
pub record Going {W : Type 0} (m : Meaning W) (w : W) (p : ℕ) (sets : List JobSet) (n : ℕ) (t : Tally) (v : W) : Type 0 where
  pub answers : List Bool
  pub here : n ≡ length answers
  pub answered : t.answered ≡ length answers
  pub yes : t.yes ≡ yeses answers
  pub stop : t.stop ≡ None
  pub runs : Runs m (questions p sets answers) w v

yeses_more : (ys : List Bool) (y : Bool) → yeses (ys ++ (y ∷ [])) ≡ yeses ys + yeses (y ∷ [])
yeses_more [] y = omega arith
yeses_more (true ∷ ys) y = omega (arith, yeses_more ys y)
yeses_more (false ∷ ys) y = yeses_more ys y

yeses_few : (ys : List Bool) → yeses ys ≤ length ys
yeses_few [] = omega arith
yeses_few (true ∷ ys) = omega (arith, yeses_few ys)
yeses_few (false ∷ ys) = omega (arith, yeses_few ys)

questions_more : (p : ℕ) (sets : List JobSet) (ys : List Bool) (y : Bool) (d : JobSet) → length ys < length sets
    → questions p sets (ys ++ (y ∷ [])) ≡ questions p sets ys ++ (asked p (get_or sets (length ys) d) (Ok (Ok y)) ∷ [])
questions_more p [] ys y d l = absurd (omega arith)
questions_more p (s ∷ sets) [] y d l = refl
questions_more p (s ∷ sets) (x ∷ ys) y d l = ap (λ es. asked p s (Ok (Ok x)) ∷ es) (questions_more p sets ys y d (omega arith))

exactly_true : (y : Bool) (F : Type 0) → True (Some y) F → Exactly y F
exactly_true true F t = t
exactly_true false F t = t

module _ {W : Type 0} (m : Meaning W) where
  exact_told : (w : W) (p : ℕ) (sets : List JobSet) (ys : List Bool) → length ys ≤ length sets → AllTold m w (questions p sets ys) → Exact (m.family w p) sets ys
  exact_told w p sets [] l t = tt
  exact_told w p [] (y ∷ ys) l t = absurd (omega arith)
  exact_told w p (s ∷ sets) (y ∷ ys) l t = (exactly_true y (m.family w p (bits s)) t.0, exact_told w p sets ys (omega arith) t.1)

  pub going_none : (w : W) (p : ℕ) (sets : List JobSet) (t : Tally) → t.answered ≡ 0 → t.yes ≡ 0 → t.stop ≡ None → Going m w p sets 0 t w
  going_none w p sets t a y s = record { answers = []; here = refl; answered = a; yes = y; stop = s; runs = refl }

  -- no more yes than answers
  pub going_few : (w u : W) (p : ℕ) (sets : List JobSet) (n : ℕ) (t : Tally) → Going m w p sets n t u → t.yes ≤ n
  going_few w u p sets n t g = omega (arith, g.here, g.yes, yeses_few g.answers)

  -- one set more is answered
  pub going_more : (y : Bool) (w u v : W) (p : ℕ) (sets : List JobSet) (n : ℕ) (t : Tally) (k : ℕ) (d : JobSet) → k ≡ yeses (y ∷ []) → n < length sets → Going m w p sets n t u
      → Verdict m u p (get_or sets n d) (Ok (Ok y)) v → Going m w p sets (n + 1) (record { answered = t.answered + 1; yes = t.yes + k; stop = t.stop }) v
  going_more y w u v p sets n t k d e l g h =
      let ys = g.answers in
      let step : Verdict m u p (get_or sets (length ys) d) (Ok (Ok y)) v = subst (λ i. Verdict m u p (get_or sets i d) (Ok (Ok y)) v) g.here h in
      record {
        answers = ys ++ (y ∷ []);
        here = omega (arith, length-append ys (y ∷ []), g.here);
        answered = omega (arith, length-append ys (y ∷ []), g.answered);
        yes = omega (arith, yeses_more ys y, g.yes, e);
        stop = g.stop;
        runs = subst (λ es. Runs m es w v) (sym (questions_more p sets ys y d (omega (arith, g.here))))
            (runs_append m (questions p sets ys) (asked p (get_or sets (length ys) d) (Ok (Ok y)) ∷ []) w u v g.runs (v, step, refl));
      }

  -- the tally is the answer where the place is below the count
  pub tallied : (w v : W) (p : ℕ) (sets : List JobSet) (t : Tally) → p < m.count w → Tallied m w p sets t v → AskedAll m w p sets (Ok t) v
  tallied w v p sets t l h = record { refuses = λ g. absurd (omega arith); tallies = λ k. h }

  module _ (law : Lawful m) where
    -- the place stays below the count
    pub going_inside : (w u : W) (p : ℕ) (sets : List JobSet) (n : ℕ) (t : Tally) → Going m w p sets n t u → p < m.count w → p < m.count u
    going_inside w u p sets n t g l = subst (λ c. p < c) (sym ((all_steady m law).kept (questions p sets g.answers) w u g.runs).count) l

    -- every set was answered
    pub going_all : (w v : W) (p : ℕ) (sets : List JobSet) (n : ℕ) (t : Tally) → n ≡ length sets → Going m w p sets n t v → Tallied m w p sets t v
    going_all w v p sets n t e g =
        let steady = all_steady m law in
        let es = questions p sets g.answers in
        record {
          answers = g.answers;
          answered = g.answered;
          yes = g.yes;
          ends = subst (λ (s : Option Fault). Ends m w p sets g.answers s v) (sym g.stop) (sym g.here ∙ e, g.runs);
          exact = λ i. exact_told w p sets g.answers (omega (arith, g.here)) (steady.told es w v g.runs i);
          kept = steady.kept es w v g.runs;
          sound = steady.sound es w v g.runs;
        }

    -- the next set came to a stop
    pub going_stopped : (w u v : W) (p : ℕ) (sets : List JobSet) (n : ℕ) (t : Tally) (d : JobSet) (f : Fault) → n < length sets → p < m.count u → Going m w p sets n t u
        → Verdict m u p (get_or sets n d) (Ok (Err f)) v → Tallied m w p sets (record { answered = t.answered; yes = t.yes; stop = Some f }) v
    going_stopped w u v p sets n t d f l inside g h =
        let steady = all_steady m law in
        let ys = g.answers in
        let same : f.set ≡ get_or sets n d = (h.answers inside).2 in
        let step : Verdict m u p f.set (Ok (Err f)) v = subst (λ (s : JobSet). Verdict m u p s (Ok (Err f)) v) (sym same) h in
        let es = questions p sets ys ++ (asked p f.set (Ok (Err f)) ∷ []) in
        let runs : Runs m es w v = runs_append m (questions p sets ys) (asked p f.set (Ok (Err f)) ∷ []) w u v g.runs (v, step, refl) in
        record {
          answers = ys;
          answered = g.answered;
          yes = g.yes;
          ends = (
            omega (arith, g.here),
            get_or_default sets (length ys) f.set d (omega (arith, g.here)) ∙ ap (λ i. get_or sets i d) (sym g.here) ∙ sym same,
            runs,
            (steady.again u v p f.set f step).1,
          );
          exact = λ i. exact_told w p sets ys (omega (arith, g.here)) (steady.told (questions p sets ys) w u g.runs i);
          kept = steady.kept es w v runs;
          sound = steady.sound es w v runs;
        }
