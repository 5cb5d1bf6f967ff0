-- The number that a route refuses with, and what follows from it being 0 or not.
use mathlib.Core.Path.{◌≡◌, refl, sym, ap, ◌∙◌}
use mathlib.Core.Logic.{◌↔◌, by_cases}
use mathlib.Core.Bool.{Bool, true, false, ◌||◌}
use mathlib.Core.List.{List, [], ◌∷◌, ◌++◌, append_assoc}
use Prim.Native.Nat.{ℕ, ◌≤◌, ◌<◌}
use native.Mathlib.Omega.{arith}
use native.Mathlib.Decide.{ℕ_discrete}
use borrow.Author.Tests.{ltb-true, ltb-false, lt-ltb, le-ltb}
use lib.Dec.{ltb}
use lib.ListN.{length, drop}
use Rattle.sets.specs.Lists.{every}
use Rattle.sets.specs.Words.{words, word_count}
use Rattle.sets.specs.Refusals.{Conditions, first_of, Outcome, refused, by_refusal, GivesMarks}
use Rattle.sets.proofs.Refusals.{apart, reached, none_reached, none_of_first, one_of_first, refusing, reports, refuses, number_is}
use Rattle.solver.specs.Outcome.{solve_conditions, solve_refusal, solve_exceeds, solve_too_short}
use Rattle.solver.proofs.Promises.{formed_accepted}
use Rattle.cases.specs.Case.{Case, case_of}
use Rattle.cases.specs.computed.Reached.{reachable}
use Rattle.cases.specs.Conditions.{layout_conditions, model_conditions, formula_conditions, case_conditions, case_refusal, Accepted}
use Rattle.cases.proofs.Accepting.{case_numbered}
use Rattle.translate.specs.Translating.{file, translate_conditions, translate_refusal}
use Rattle.translate.proofs.Promises.{well_formed}
use Rattle.translate.proofs.Translations.{unrefused, lacks_room, own_number}
use Rattle.routes.specs.Route.{Route, equation, Lent, run_of, too_short, exceeds, run_conditions, route_conditions, Enough, run_report, route_outcome, marks_after, RanBy}

-- ---- whatever keeps the contract, by its conditions
module _ {cs : Conditions} {R : Route} {c : Case} {marks : List ℕ} {o : Outcome} {after : List ℕ} (ran : RanBy cs R c marks o after) where
  -- the number is that of the first condition that holds
  pub number_ran : o.refusal ≡ first_of cs
  unfolding route_outcome
  number_ran = ap (λ (o : Outcome). o.refusal) ran.answers ∙ number_is cs _ refl

  -- with 0 the report is answered, and the marks are written
  pub reported : GivesMarks o → o ≡ run_report c (run_of R c).0 (reachable c) (run_of R c).1
  unfolding route_outcome
  reported g = ran.answers ∙ reports cs _ (sym number_ran ∙ g)

  pub written : GivesMarks o → after ≡ words word_count (run_of R c).0 ++ drop word_count marks
  unfolding marks_after
  written g = ran.marks_are ∙ rw (sym number_ran ∙ g)

  -- with another number that number is answered with zeros, and the marks are kept
  pub refused_with : ¬ GivesMarks o → o ≡ refused (first_of cs)
  unfolding route_outcome
  refused_with d = ran.answers ∙ refuses cs _ (λ z. d (number_ran ∙ z))

  pub kept : ¬ GivesMarks o → after ≡ marks
  unfolding marks_after
  kept d = ran.marks_are ∙ refusing (first_of cs) _ _ (λ z. d (number_ran ∙ z))

-- ---- conditions 13 and 14 behind those of the case

module _ (b : List ℕ) where
  module _ (x y : Bool) where
    abbrev behind : Conditions
    behind = (13, x) ∷ (14, y) ∷ []

    split : case_conditions b ++ behind ≡ (case_conditions b ++ ((13, x) ∷ [])) ++ ((14, y) ∷ [])
    split = sym (append_assoc (case_conditions b) ((13, x) ∷ []) ((14, y) ∷ []))

    -- 13 and 14 are not reached
    passed_13 : first_of (case_conditions b ++ ((13, x) ∷ [])) ≡ 0 ↔ (first_of (case_conditions b) ≡ 0) × (x ≡ false)
    passed_13 = none_reached (case_conditions b) 13 x (λ z. omega arith) (case_numbered b)

    pub answered_14 : first_of (case_conditions b ++ behind) ≡ 14 ↔ (first_of (case_conditions b) ≡ 0) × (x ≡ false) × (y ≡ true)
    unfolding case_conditions layout_conditions model_conditions formula_conditions every
    answered_14 =
        let r = reached (case_conditions b ++ ((13, x) ∷ [])) 14 y [] (λ z. omega arith) tt tt tt in
        rw split (
          (λ e. let p = r.0 e in let q = passed_13.0 p.0 in (q.0, q.1, p.1)),
          λ h. r.1 (passed_13.1 (h.0, h.1), h.2),
        )

    pub answered_0 : first_of (case_conditions b ++ behind) ≡ 0 ↔ (first_of (case_conditions b) ≡ 0) × (x ≡ false) × (y ≡ false)
    unfolding case_conditions layout_conditions model_conditions formula_conditions every
    answered_0 =
        let r = none_reached (case_conditions b ++ ((13, x) ∷ [])) 14 y (λ z. omega arith) tt in
        rw split (
          (λ e. let p = r.0 e in let q = passed_13.0 p.0 in (q.0, q.1, p.1)),
          λ h. r.1 (passed_13.1 (h.0, h.1), h.2),
        )

module _ (R : Route) (b : List ℕ) (l : Lent) (limit : ℕ) where
  abbrev c : Case
  c = case_of b

  abbrev conditions : Conditions
  conditions = route_conditions R b l limit

  -- 14 holds where the limit is below the rounds
  over : limit < (run_of R c).1 ↔ exceeds R c limit ≡ true
  unfolding exceeds
  over = (lt-ltb limit (run_of R c).1, ltb-true limit (run_of R c).1)

  within : (run_of R c).1 ≤ limit ↔ exceeds R c limit ≡ false
  unfolding exceeds
  within = (le-ltb limit (run_of R c).1, ltb-false limit (run_of R c).1)

  -- where the number is 0 the case is accepted, the memory is enough, and the rounds are within the limit
  pub given : first_of conditions ≡ 0 → Accepted b × Enough R c l × ((run_of R c).1 ≤ limit)
  unfolding route_conditions run_conditions case_refusal
  given z = let h = (answered_0 b (too_short R c l) (exceeds R c limit)).0 z in (h.0, h.1, within.1 h.2)

  -- where it is 14 the rounds exceed the limit
  pub spent_over : first_of conditions ≡ 14 → limit < (run_of R c).1
  unfolding route_conditions run_conditions
  spent_over z = over.1 ((answered_14 b (too_short R c l) (exceeds R c limit)).0 z).2

  pub spent_accepted : first_of conditions ≡ 14 → Accepted b
  unfolding route_conditions run_conditions case_refusal
  spent_accepted z = ((answered_14 b (too_short R c l) (exceeds R c limit)).0 z).0

  -- With enough memory an accepted case is spent or gives marks by its rounds.
  module _ (accepted : Accepted b) (enough : Enough R c l) where
    pub spent_number : first_of conditions ≡ 14 ↔ limit < (run_of R c).1
    unfolding route_conditions run_conditions case_refusal
    spent_number = (spent_over, λ h. (answered_14 b (too_short R c l) (exceeds R c limit)).1 (accepted, enough, over.0 h))

    pub gives_number : first_of conditions ≡ 0 ↔ (run_of R c).1 ≤ limit
    unfolding route_conditions run_conditions case_refusal
    gives_number = (λ z. (given z).2, λ h. (answered_0 b (too_short R c l) (exceeds R c limit)).1 (accepted, enough, within.0 h))

  -- the case's own come first
  pub case_refused : ¬ Accepted b → first_of conditions ≡ case_refusal b
  unfolding route_conditions case_refusal
  case_refused d = one_of_first (case_conditions b) _ d

  pub case_accepted : Accepted b → first_of conditions ≡ first_of (run_conditions R c l limit)
  unfolding route_conditions case_refusal
  case_accepted z = none_of_first (case_conditions b) _ (case_numbered b) z

-- ---- the equation route is translate, then solve on the file
pub translate_then_solve : (b : List ℕ) (l : Lent) (limit : ℕ)
    → first_of (route_conditions equation b l limit)
    ≡ by_refusal (translate_refusal b (length l.file)) (solve_refusal (file b) (length l.work) (length l.marks) limit) (translate_refusal b (length l.file))
unfolding run_conditions too_short exceeds first_of solve_refusal solve_conditions solve_exceeds run_of
translate_then_solve b l limit = by_cases (ℕ_discrete (case_refusal b) 0) accepted
    (λ d. case_refused equation b l limit d ∙ sym (rw (own_number b (length l.file) d) (refusing (case_refusal b) _ (case_refusal b) d)))
  where
    accepted : Accepted b
        → first_of (route_conditions equation b l limit)
        ≡ by_refusal (translate_refusal b (length l.file)) (solve_refusal (file b) (length l.work) (length l.marks) limit) (translate_refusal b (length l.file))
    accepted h = case_accepted equation b l limit h ∙ go (ltb (length l.file) (length (file b))) refl
      where
        go : (x : Bool) → ltb (length l.file) (length (file b)) ≡ x
            → first_of ((13, x || solve_too_short (file b) (length l.work) (length l.marks)) ∷ (14, exceeds equation (case_of b) limit) ∷ [])
            ≡ by_refusal (translate_refusal b (length l.file)) (solve_refusal (file b) (length l.work) (length l.marks) limit) (translate_refusal b (length l.file))
        go true e = rw ((lacks_room b (length l.file)).1 (h, ltb-true (length l.file) (length (file b)) e))
        go false e =
            let formed = (formed_accepted (file b)).0 (well_formed b h) in
            rw ((unrefused b (length l.file)).1 (h, ltb-false (length l.file) (length (file b)) e), formed.0, formed.1)

-- translate never answers 14
pub translate_never_14 : (b : List ℕ) (room : ℕ) → ¬ (translate_refusal b room ≡ 14)
unfolding translate_refusal translate_conditions case_conditions layout_conditions model_conditions formula_conditions every
translate_never_14 b room e = apart 14 (translate_conditions b room) (λ z. omega arith) tt e
