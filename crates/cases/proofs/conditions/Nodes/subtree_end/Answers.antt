use mathlib.Core.Path.{◌∙◌}
use native.Mathlib.Omega.{arith}
use Rattle.cases.specs.Prefix.{formula_arities}
use Rattle.cases.proofs.PrefixRules.{arities_length, end_known}
use Rattle.cases.proofs.conditions.Nodes.subtree_end.Goals as goal

pub returns : goal.returns
returns c =
    let s = c.args.self.now in
    c.unwrap_or.ensures ∙ end_known _ _ _ _ c.whole_subtree.ensures (omega (arith, c.max.ensures, arities_length formula_arities s.part.now s.count))
