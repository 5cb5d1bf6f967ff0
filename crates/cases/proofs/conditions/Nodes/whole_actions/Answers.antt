use mathlib.Core.Path.{refl, sym, ◌∙◌}
use native.Mathlib.Omega.{arith}
use Rattle.cases.specs.Prefix.{action_arities}
use Rattle.cases.specs.internal.Checks.{nodes_in}
use Rattle.cases.proofs.PrefixRules.{whole_done, whole_next}
use Rattle.cases.proofs.conditions.Nodes.whole_actions.Goals as goal

pub loop-i-preserved : goal.loop-i-preserved
loop-i-preserved c = record {
  few = omega (arith, c.saturating_sub.ensures);
  whole = c.loop-i.invariant.whole ∙ whole_next action_arities _ _ _ _ _ _ c.loop-i-test.true c.at.ensures c.action_arity.ensures.arity ∙ rw c.saturating_sub.ensures refl;
}

pub returns : goal.returns
unfolding nodes_in
returns c = sym (c.loop-i.invariant.whole ∙ whole_done action_arities _ _ _ _ c.loop-i-test.false)
