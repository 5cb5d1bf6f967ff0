use mathlib.Core.Path.{◌∙◌}
use Rattle.cases.specs.Prefix.{formula_arities}
use Rattle.cases.proofs.PrefixRules.{arities_length, whole_is}
use Rattle.cases.proofs.conditions.Nodes.one_formula.Goals as goal

pub returns : goal.returns
returns c =
    let s = c.args.self.now in
    c.eq.ensures ∙ whole_is _ s.count _ c.whole_subtree.ensures (arities_length formula_arities s.part.now s.count)
