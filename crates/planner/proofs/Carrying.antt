-- Carrying out calls one after the other.
use Rattle.std.proofs.Common.{◌≡◌, ℕ, ◌+◌, ◌<◌, ◌≤◌, List, [], ◌∷◌, ◌++◌, map, length, get_or, take, Some, None, Option, sym, refl, ap, ◌∙◌, subst}
use Rattle.std.proofs.lemmas.List.{take_more, take_all, map_push}
use Rattle.workshops.specs.Workshops.{Meaning, Lawful}
use Rattle.planner.specs.declared.planner.Planner.{Planner}
use Rattle.planner.specs.declared.run.Call.{Call as GivenCall}
use Rattle.planner.specs.declared.run.Answer.{Answer as GivenAnswer}
use Rattle.planner.specs.Calls.{Call, event}
use Rattle.planner.specs.Carried.{call_of, told, CarriesOut}
use Rattle.planner.specs.Laws.{GoesOn}
use Rattle.planner.specs.Runs.{Run}
use Rattle.planner.specs.Views.{state}
use Rattle.planner.proofs.RunLaw.{law}

module _ {W J : Type 0} (m : Meaning W) (joins : J → ℕ → ℕ → ℕ) (w : W) (measure : J) (n : ℕ) where
  pub carries_none : Lawful m → (p : Planner W J) → Run m joins w measure n [] (state p)
      → CarriesOut m joins w measure n [] (record { planner = p; last = None })
  carries_none laws p run = record { log = []; same_calls = refl; runs = (run, law m joins laws w measure n [] (state p) run); last = refl }

  pub carries_more : (calls : List GivenCall) (i : ℕ) (x : GivenCall) (p q : Planner W J) (before : Option GivenAnswer) (a : GivenAnswer)
      → i < length calls → x ≡ get_or calls i x → GoesOn m joins (state p) (call_of x) (told a) (state q)
      → CarriesOut m joins w measure n (take i calls) (record { planner = p; last = before })
      → CarriesOut m joins w measure n (take (i + 1) calls) (record { planner = q; last = Some a })
  carries_more calls i x p q before a lt is on k = record {
    log = event (call_of x) (told a) ∷ k.log;
    same_calls =
        ap (λ (cs : List Call). cs ++ call_of x ∷ []) k.same_calls ∙ sym (map_push call_of (take i calls) x)
        ∙ ap (λ (y : GivenCall). map call_of (take i calls ++ y ∷ [])) is
        ∙ ap (map call_of) (sym (take_more calls i x lt));
    runs = on w measure n k.log k.runs.0;
    last = refl;
  }

  pub carries_all : (calls : List GivenCall) (i : ℕ) (p : Planner W J) (last : Option GivenAnswer) → length calls ≤ i
      → CarriesOut m joins w measure n (take i calls) (record { planner = p; last = last })
      → CarriesOut m joins w measure n calls (record { planner = p; last = last })
  carries_all calls i p last le k = subst (λ (cs : List GivenCall). CarriesOut m joins w measure n cs (record { planner = p; last = last })) (take_all i calls le) k
