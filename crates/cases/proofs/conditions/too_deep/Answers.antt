use mathlib.Core.Path.{sym, ◌∙◌}
use Rattle.cases.specs.Conditions.{is_binder}
use Rattle.cases.proofs.Checking.{tested}
use Rattle.cases.proofs.PrefixRules.{node_in_lem}
use Rattle.cases.proofs.FormulaRules.{root_binder, root_other}
use Rattle.cases.proofs.conditions.too_deep.Goals as goal

pub returns-then-is_binder : goal.returns-then-is_binder
returns-then-is_binder c = root_binder _ _ c.binders-count.ensures.count (tested is_binder c.is_binder.ensures (c.at.ensures ∙ sym (node_in_lem _ _ _ _ c.requires)) c.if-is_binder.true)

pub returns : goal.returns
returns c = root_other _ _ c.binders-count.ensures.count (tested is_binder c.is_binder.ensures (c.at.ensures ∙ sym (node_in_lem _ _ _ _ c.requires)) c.if-is_binder.false)
