use mathlib.Core.Path.{sym, ◌∙◌}
use Rattle.sets.proofs.Refusals.{holds_here, holds_later, none_holds}
use Rattle.cases.specs.Conditions.{formula_conditions}
use Rattle.cases.proofs.Openings.{number_err, number_ok}
use Rattle.cases.proofs.conditions.check_formula.Goals as goal

pub returns-then-bad_formula : goal.returns-then-bad_formula
unfolding formula_conditions
returns-then-bad_formula c = number_err _ (holds_here _ _ _ (sym c.bad_formula.ensures ∙ c.if-bad_formula.true))

pub returns-then-bad_variable : goal.returns-then-bad_variable
unfolding formula_conditions
returns-then-bad_variable c =
    number_err _ (holds_later _ _ _ (sym c.bad_formula.ensures ∙ c.if-bad_formula.false)
    (holds_here _ _ _ (sym c.bad_variable.ensures ∙ c.if-bad_variable.true)))

pub returns-then-too_deep : goal.returns-then-too_deep
unfolding formula_conditions
returns-then-too_deep c =
    number_err _ (holds_later _ _ _ (sym c.bad_formula.ensures ∙ c.if-bad_formula.false)
    (holds_later _ _ _ (sym c.bad_variable.ensures ∙ c.if-bad_variable.false) (holds_here _ _ _ (sym c.too_deep.ensures ∙ c.if-too_deep.true))))

pub returns : goal.returns
unfolding formula_conditions
returns c =
    number_ok (holds_later _ _ _ (sym c.bad_formula.ensures ∙ c.if-bad_formula.false)
    (holds_later _ _ _ (sym c.bad_variable.ensures ∙ c.if-bad_variable.false) (holds_later _ _ _ (sym c.too_deep.ensures ∙ c.if-too_deep.false) none_holds)))
