-- The first condition that holds of a case, and what is known of an accepted one.
use mathlib.Core.Path.{◌≡◌, refl, sym, ◌∙◌}
use mathlib.Core.Bool.{false}
use mathlib.Core.List.{List, ◌++◌}
use Prim.Native.Nat.{ℕ}
use native.Mathlib.Omega.{arith}
use native.Mathlib.Decide.{ℕ_discrete}
use Rattle.sets.specs.Lists.{every}
use Rattle.sets.specs.Refusals.{Conditions, first_of}
use Rattle.sets.proofs.Refusals as first
use Rattle.cases.specs.File.{header_of, formula_table}
use Rattle.cases.specs.Conditions.{bad_model, bad_labels, bad_actions, bad_formula, bad_variable, too_deep, layout_conditions, model_conditions, formula_conditions, case_conditions, case_refusal, Accepted}
use Rattle.cases.specs.internal.Checks.{Laid}
use Rattle.cases.proofs.LayoutRules.{laid}

-- what an accepted case's conditions give
pub record Passed (b : List ℕ) : Type 0 where
  pub lies : Laid b (header_of b)
  pub model : bad_model b ≡ false
  pub labels : bad_labels b ≡ false
  pub actions : bad_actions b ≡ false
  pub formula : bad_formula (header_of b).actions (formula_table b) ≡ false
  pub variables : bad_variable (formula_table b) ≡ false
  pub depth : too_deep (formula_table b) ≡ false

-- if none of two lists holds, none of either does
none_of_both : (cs ds : Conditions) → first.Without 0 cs → first_of (cs ++ ds) ≡ 0 → (first_of cs ≡ 0) × (first_of ds ≡ 0)
none_of_both cs ds t z = go (ℕ_discrete (first_of cs) 0)
  where
    go : Dec (first_of cs ≡ 0) → (first_of cs ≡ 0) × (first_of ds ≡ 0)
    go (yes x) = (x, sym (first.none_of_first cs ds t x) ∙ z)
    go (no d) = absurd (d (sym (first.one_of_first cs ds d) ∙ z))

-- each condition of a case has a number
pub case_numbered : (b : List ℕ) → first.Without 0 (case_conditions b)
unfolding case_conditions layout_conditions model_conditions formula_conditions every
case_numbered b = tt

pub passed : (b : List ℕ) → Accepted b → Passed b
unfolding case_refusal case_conditions layout_conditions model_conditions formula_conditions every
passed b ok =
    let lies = none_of_both (layout_conditions b) _ tt ok in
    let rest = none_of_both (model_conditions b) _ tt lies.1 in
    let model = first.none_here 6 _ _ (λ e. omega arith) rest.0 in
    let labels = first.none_here 15 _ _ (λ e. omega arith) model.1 in
    let actions = first.none_here 7 _ _ (λ e. omega arith) labels.1 in
    let formula = first.none_here 8 _ _ (λ e. omega arith) rest.1 in
    let variables = first.none_here 9 _ _ (λ e. omega arith) formula.1 in
    let depth = first.none_here 10 _ _ (λ e. omega arith) variables.1 in
    record {
      lies = laid b refl lies.0;
      model = model.0;
      labels = labels.0;
      actions = actions.0;
      formula = formula.0;
      variables = variables.0;
      depth = depth.0;
    }
