use mathlib.Core.Path.{sym, ap, ◌∙◌}
use mathlib.Core.Bool.{not}
use Rattle.cases.proofs.PrefixRules.{node_in_lem}
use Rattle.cases.proofs.FormulaRules.{no_variable, variable_decides}
use Rattle.cases.proofs.conditions.Nodes.variable_bound.Goals as goal

pub returns-then-not-is_variable : goal.returns-then-not-is_variable
returns-then-not-is_variable c =
    ap not c.if-not-is_variable.true
    ∙ no_variable _ _ _ (node_in_lem _ _ _ _ c.requires ∙ sym c.at-x.ensures) (sym c.is_variable.ensures ∙ c.if-not-is_variable.true)

pub returns-else-not-is_variable : goal.returns-else-not-is_variable
returns-else-not-is_variable c =
    c.binds.ensures
    ∙ variable_decides _ _ _ (node_in_lem _ _ _ _ c.requires ∙ sym c.at-x.ensures) (sym c.is_variable.ensures ∙ c.if-not-is_variable.false)
