-- What a depth-first search knows where it stands, and how each of its turns keeps that.
use Rattle.std.proofs.Common.{◌≡◌, ℕ, ◌+◌, ◌<◌, ◌≤◌, true, false, List, [], ◌∷◌, ◌++◌, length, sym, ap, ◌∙◌, subst, ⊎_elim, append_assoc, arith, length-append}
use Rattle.std.proofs.lemmas.List.{same_from_push}
use Rattle.facilities.specs.Trials.{Took, Gave, Within, Solves, First}
use Rattle.facilities.proofs.Positions.{Passed, passed_none, passed_down, passed_next, passed_front, passed_back, before_passed, within_push, within_front, within_last, left, left_down, left_next, left_up}

-- the choices p are taken, `next` is to be tried, and no solution stands before that
pub record Position (allowed : List ℕ → Type 0) (levels choices : ℕ) (p : List ℕ) (next : ℕ) : Type 0 where
  pub most : next ≤ choices
  pub within : Within choices p
  pub stands : allowed p
  pub passed : (ys : List ℕ) → Solves allowed levels choices ys → Passed p next ys → ⊥

module _ (allowed : List ℕ → Type 0) (levels choices : ℕ) where
  pub start : allowed [] → Position allowed levels choices [] 0
  start a = record { most = omega arith; within = tt; stands = a; passed = λ ys s h. passed_none ys h }

  pub down : (p : List ℕ) (c : ℕ) → c < choices → allowed (p ++ c ∷ []) → Position allowed levels choices p c → Position allowed levels choices (p ++ c ∷ []) 0
  down p c l a s = record {
    most = omega arith;
    within = within_push choices p c s.within l;
    stands = a;
    passed = λ ys y h. s.passed ys y (passed_down p c ys h);
  }

  pub done : (p : List ℕ) (c : ℕ) → length p ≡ levels → Position allowed levels choices p c → First allowed levels choices p
  done p c l s = record {
    solves = record { full = l; within = s.within; stands = s.stands };
    least = λ ys y h. s.passed ys y (before_passed ys p c h);
  }

module _ (allowed : List ℕ → Type 0) (levels choices : ℕ) (fronts : (xs ys : List ℕ) → allowed (xs ++ ys) → allowed xs) where
  -- a solution that begins with p and c has them allowed
  begins : (p : List ℕ) (c : ℕ) (ys rest : List ℕ) → ys ≡ p ++ c ∷ rest → allowed ys → allowed (p ++ c ∷ [])
  begins p c ys rest e a = fronts (p ++ c ∷ []) rest (subst allowed (e ∙ sym (append_assoc p (c ∷ []) rest)) a)

  pub next_choice : (p : List ℕ) (c : ℕ) → c < choices → (allowed (p ++ c ∷ []) → ⊥) → Position allowed levels choices p c → Position allowed levels choices p (c + 1)
  next_choice p c l bad s = record {
    most = omega arith;
    within = s.within;
    stands = s.stands;
    passed = λ ys y h. ⊎_elim (s.passed ys y) (λ r. bad (begins p c ys r.0 r.1 y.stands)) (passed_next p c ys h);
  }

  pub up : (q : List ℕ) (x : ℕ) → length q + 1 < levels → Position allowed levels choices (q ++ x ∷ []) choices → Position allowed levels choices q (x + 1)
  up q x l s = record {
    most = omega (arith, within_last choices q x s.within);
    within = within_front choices q (x ∷ []) s.within;
    stands = fronts q (x ∷ []) s.stands;
    passed = λ ys y h. ⊎_elim
        (λ b. s.passed ys y (passed_front q x choices ys b))
        (λ r. let e : ys ≡ (q ++ x ∷ []) ++ r.0 = r.1 ∙ sym (append_assoc q (x ∷ []) r.0) in
        let n : 0 < length r.0 = omega (arith, ap length r.1, length-append q (x ∷ r.0), y.full) in
        s.passed ys y (subst (Passed (q ++ x ∷ []) choices) (sym e) (passed_back (q ++ x ∷ []) choices r.0 n (subst (Within choices) e y.within))))
        (passed_next q x ys h);
  }

-- what holds at each turn: where the search stands, and that the trial holds the choices found
pub record Searched (allowed : List ℕ → Type 0) (levels choices : ℕ) (found : List ℕ) (next : ℕ) (held : List ℕ) : Type 0 where
  pub position : Position allowed levels choices found next
  pub short : length found ≤ levels
  pub agrees : held ≡ found

module _ {P : Type 0} (allows : P → List ℕ → Type 0) (levels choices : ℕ) (p q : P) (e : q ≡ p) (found : List ℕ) (next : ℕ) (held : List ℕ) (s : Searched (allows p) levels choices found next held) where
  pub took_down : (longer after : List ℕ) → next < choices → length found < levels → Took (allows q) held next true after → longer ≡ found ++ next ∷ [] →
      Searched (allows p) levels choices longer 0 after
  took_down longer after l m took f =
      let good : allows p (found ++ next ∷ []) = subst (λ z. allows z (found ++ next ∷ [])) e (subst (λ h. allows q (h ++ next ∷ [])) s.agrees took.0) in
      record {
        position = subst (λ x. Position (allows p) levels choices x 0) (sym f) (down (allows p) levels choices found next l good s.position);
        short = omega (arith, ap length f, length-append found (next ∷ []));
        agrees = took.1 ∙ ap (λ h. h ++ next ∷ []) s.agrees ∙ sym f;
      }

  pub took_none : ((xs ys : List ℕ) → allows p (xs ++ ys) → allows p xs) → (after : List ℕ) → next < choices → Took (allows q) held next false after →
      Searched (allows p) levels choices found (next + 1) after
  took_none fronts after l took =
      let bad : allows p (found ++ next ∷ []) → ⊥ = λ a. took.0 (subst (λ h. allows q (h ++ next ∷ [])) (sym s.agrees) (subst (λ z. allows z (found ++ next ∷ [])) (sym e) a)) in
      record {
        position = next_choice (allows p) levels choices fronts found next l bad s.position;
        short = s.short;
        agrees = took.1 ∙ s.agrees;
      }

module _ (allowed : List ℕ → Type 0) (levels choices : ℕ) (found : List ℕ) (next : ℕ) (held : List ℕ) (s : Searched allowed levels choices found next held) where
  pub given_back : ((xs ys : List ℕ) → allowed (xs ++ ys) → allowed xs) → (shorter after : List ℕ) (last : ℕ) → choices ≤ next → length found < levels →
      found ≡ shorter ++ last ∷ [] → Gave held after → Searched allowed levels choices shorter (last + 1) after
  given_back fronts shorter after last l m f gave =
      let n : next ≡ choices = omega (arith, s.position.most) in
      let k : length shorter + 1 < levels = omega (arith, ap length f, length-append shorter (last ∷ [])) in
      record {
        position = up allowed levels choices fronts shorter last k (subst (Position allowed levels choices (shorter ++ last ∷ [])) n (subst (λ x. Position allowed levels choices x next) f s.position));
        short = omega arith;
        agrees = sym (same_from_push shorter after last gave.0 (sym (s.agrees ∙ f) ∙ gave.1)).0;
      }

  pub less_down : (longer : List ℕ) → length found < levels → longer ≡ found ++ next ∷ [] → left choices longer levels 0 < left choices found levels next
  less_down longer m f = subst (λ x. left choices x levels 0 < left choices found levels next) (sym f) (left_down choices found levels next m s.position.most)

  pub less_next : left choices found levels (next + 1) < left choices found levels next
  less_next = left_next choices found levels next s.short s.position.most

  pub last_within : (shorter : List ℕ) (last : ℕ) → found ≡ shorter ++ last ∷ [] → last < choices
  last_within shorter last f = within_last choices shorter last (subst (Within choices) f s.position.within)

  pub less_up : (shorter : List ℕ) (last : ℕ) → choices ≤ next → found ≡ shorter ++ last ∷ [] → left choices shorter levels (last + 1) < left choices found levels next
  less_up shorter last l f =
      let n : next ≡ choices = omega (arith, s.position.most) in
      let k : length shorter < levels = omega (arith, ap length f, length-append shorter (last ∷ []), s.short) in
      subst (λ x. left choices shorter levels (last + 1) < left choices x levels next) (sym f)
      (subst (λ x. left choices shorter levels (last + 1) < left choices (shorter ++ last ∷ []) levels x) (sym n)
      (left_up choices shorter levels last k (omega (arith, last_within shorter last f))))

  -- the problem's own numbers are a and b
  pub all_found : (a b : ℕ) → levels ≡ a → choices ≡ b → levels ≤ length found → First allowed a b found
  all_found a b e f l =
      subst (λ n. First allowed n b found) e (subst (λ n. First allowed levels n found) f (done allowed levels choices found next (omega (arith, s.short)) s.position))
