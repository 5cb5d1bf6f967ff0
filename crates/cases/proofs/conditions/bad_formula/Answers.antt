use mathlib.Core.Path.{sym, ap, ◌∙◌}
use mathlib.Core.Bool.{not}
use Rattle.std.proofs.Common.{rules, tests}
use Rattle.cases.specs.Conditions.{node_ok}
use Rattle.cases.proofs.FormulaRules.{formula_fails, one_decides}
use Rattle.cases.proofs.conditions.bad_formula.Goals as goal

pub returns-then-not-all : goal.returns-then-not-all
returns-then-not-all c =
    let each = c.all.ensures (node_ok c.args.actions) (λ x b k. search (rules, tests)) in
    ap not c.if-not-all.true ∙ formula_fails _ _ (sym each ∙ c.if-not-all.true)

pub returns-else-not-all : goal.returns-else-not-all
returns-else-not-all c =
    let each = c.all.ensures (node_ok c.args.actions) (λ x b k. search (rules, tests)) in
    one_decides _ _ (sym each ∙ c.if-not-all.false) _ c.one_formula.ensures
