-- When a translation is refused, and the three ways it ends.
use mathlib.Core.Path.{◌≡◌, sym, ap, ◌∙◌}
use mathlib.Core.Logic.{◌↔◌}
use mathlib.Core.List.{List, [], ◌++◌}
use Prim.Native.Nat.{ℕ, ◌≤◌, ◌<◌}
use native.Mathlib.Omega.{arith}
use lib.ListN.{length, drop}
use borrow.Author.Tests.{lt-ltb, le-ltb, ltb-true, ltb-false}
use Rattle.sets.specs.Lists.{every}
use Rattle.sets.proofs.Refusals.{Without, one_of_first, reached, none_reached, refusing}
use Rattle.cases.specs.Conditions.{layout_conditions, model_conditions, formula_conditions, case_conditions, case_refusal, Accepted}
use Rattle.cases.proofs.Accepting.{case_numbered}
use Rattle.cases.proofs.Openings.{some_number as case_number_lem}
use Rattle.translate.specs.Translating.{file, translate_conditions, translate_refusal, translate_number, file_after, Translated}
use Rattle.translate.specs.declared.Cause.{Cause}
use Rattle.translate.specs.declared.Cause.TheVariants.{Open, Memory}

module _ (b : List ℕ) where
  -- no condition of a case has the number 13
  none_13 : Without 13 (case_conditions b)
  unfolding case_conditions layout_conditions model_conditions formula_conditions every
  none_13 = tt

  module _ (room : ℕ) where
    -- There is no refusal exactly if the case is accepted and there is room for its file.
    pub unrefused : translate_refusal b room ≡ 0 ↔ Accepted b × (length (file b) ≤ room)
    unfolding translate_refusal translate_conditions case_refusal
    unrefused =
        let r = none_reached (case_conditions b) 13 _ (λ z. omega arith) (case_numbered b) in (
          λ e. let x = r.0 e in (x.0, ltb-false room (length (file b)) x.1),
          λ x. r.1 (x.0, le-ltb room (length (file b)) x.1),
        )

    -- It is refused with 13 exactly if it is accepted and there is no room.
    pub lacks_room : translate_refusal b room ≡ 13 ↔ Accepted b × (room < length (file b))
    unfolding translate_refusal translate_conditions case_refusal every
    lacks_room =
        let r = reached (case_conditions b) 13 _ [] (λ z. omega arith) (case_numbered b) none_13 tt in (
          λ e. let x = r.0 e in (x.0, ltb-true room (length (file b)) x.1),
          λ x. r.1 (x.0, lt-ltb room (length (file b)) x.1),
        )

    -- A case that is not accepted is refused with its own number.
    pub own_number : ¬ Accepted b → translate_refusal b room ≡ case_refusal b
    unfolding translate_refusal translate_conditions case_refusal
    own_number d = one_of_first (case_conditions b) _ d

-- 0 is the number of no cause
pub some_number : (cause : Cause) → ¬ (translate_number cause ≡ 0)
unfolding translate_number
some_number (Open cause) e = case_number_lem cause e
some_number Memory e = omega arith

module _ (b before : List ℕ) where
  refuses : {k : ℕ} → translate_refusal b (length before) ≡ k → ¬ (k ≡ 0) → Translated b before k 0 before
  unfolding file_after
  refuses e d =
      let some : ¬ (translate_refusal b (length before) ≡ 0) = λ z. d (sym e ∙ z) in
      record { answers = sym e; long_is = sym (refusing _ (length (file b)) 0 some); bytes = sym (refusing _ _ before some) }

  -- the case is refused
  pub case_refused : {k : ℕ} → (k ≡ case_refusal b) × ¬ (case_refusal b ≡ 0) → Translated b before k 0 before
  case_refused (e, d) = refuses (own_number b (length before) d ∙ sym e) (λ z. d (sym e ∙ z))

  module _ (accepted : Accepted b) where
    -- the buffer is too short
    pub too_short_lem : (k : ℕ) → k ≡ length (file b) → length before < k → Translated b before 13 0 before
    too_short_lem k e h = refuses ((lacks_room b (length before)).1 (accepted, rw (sym e) h)) (λ z. omega arith)

    -- the file is written
    pub file_written : (k : ℕ) → k ≡ length (file b) → k ≤ length before → {after : List ℕ} → after ≡ file b ++ drop k before
        → Translated b before 0 k after
    unfolding file_after
    file_written k e h {after} w =
        let none : translate_refusal b (length before) ≡ 0 = (unrefused b (length before)).1 (accepted, rw (sym e) h) in
        record { answers = sym none; long_is = e ∙ sym (rw none); bytes = w ∙ ap (λ (j : ℕ). file b ++ drop j before) e ∙ sym (rw none) }
