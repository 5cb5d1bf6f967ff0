-- What both routes promise of a case that is refused on opening.
use mathlib.Core.Path.{◌≡◌, sym, ap, ◌∙◌}
use mathlib.Core.List.{List}
use Prim.Native.Nat.{ℕ}
use native.Mathlib.Omega.{arith}
use Rattle.std.specs.Prelude.{Result, Err}
use Rattle.sets.specs.Lists.{every}
use Rattle.sets.specs.Refusals.{refused, Outcome}
use Rattle.sets.proofs.Refusals.{apart}
use Rattle.cases.specs.Conditions.{layout_conditions, model_conditions, formula_conditions, case_conditions, case_refusal}
use Rattle.cases.specs.Opening.{case_number, Opens}
use Rattle.cases.specs.declared.Cause.{Cause}
use Rattle.cases.specs.declared.Tally.{Tally}
use Rattle.cases.specs.Tally.{no_tally, tally_of}
use Rattle.cases.proofs.Openings.{refused as opened_refused}
use Rattle.cases.proofs.Tallies.{tally_refused}
use Rattle.translate.proofs.Translations.{case_refused as not_translated}
use Rattle.routes.specs.Route.{direct, Lent, marks_only, Ran, EquationRan}
use Rattle.routes.specs.Price.{run_price}
use Rattle.routes.proofs.RouteLaws.{case_refused}
use Rattle.routes.proofs.Prices.{unpaid}
use Rattle.routes.proofs.DirectAnswers.{ran_refused}
use Rattle.routes.proofs.EquationAnswers.{translate_refused}

module _ (b : List ℕ) {A : Type 0} {right : A → Type 0} {opened : Result A Cause} {cause : Cause} (opens : Opens (case_refusal b) right opened) (is : opened ≡ Err cause)
    {o : Outcome} {t : Tally} (answers : (o ≡ refused (case_number cause)) × (t ≡ no_tally)) where
  none_there : t ≡ tally_of b
  none_there = answers.1 ∙ sym (tally_refused b (opened_refused opens is).1)

  pub direct_refused : {marks : List ℕ} {limit : ℕ} → Ran direct b (marks_only marks) limit o t marks
  direct_refused {marks} {limit} =
      let x = opened_refused opens is in
      record { by = ran_refused (answers.0 ∙ ap refused x.0) (case_refused direct b (marks_only marks) limit x.1) x.1; tally_is = none_there }

  pub equation_refused : {l : Lent} {limit : ℕ} → EquationRan b l limit o t l.file l.work l.marks
  equation_refused {l} {limit} =
      let x = opened_refused opens is in
      translate_refused l (not_translated b l.file x) limit (λ z. x.1 (sym x.0 ∙ z)) answers.0 none_there

  -- it costs nothing
  pub free_refused : (limit : ℕ) → 0 ≡ run_price b limit o
  unfolding run_price case_refusal case_conditions layout_conditions model_conditions formula_conditions every
  free_refused limit =
      let x = opened_refused opens is in
      rw answers.0 (sym (unpaid _ _ limit (λ z. x.1 (sym x.0 ∙ z)) (λ z. apart 14 (case_conditions b) (λ z. omega arith) tt (sym x.0 ∙ z))))
