use Prim.Native.Nat.{◌*◌, ◌≤◌}
use mathlib.Core.Path.{◌≡◌}
use Rattle.cases.specs.Prefix.{action_arities, whole_formulas}
use Rattle.cases.proofs.PrefixRules.{arities_from}
use Rattle.cases.proofs.conditions.Nodes.whole_actions.Given as goal

abbrev pub invariant-loop-i : goal.invariant-loop-i
invariant-loop-i l = record {
  few : l.due ≤ 2 * l.i;
  whole : whole_formulas 0 (arities_from action_arities l.self.part.now l.self.count 0)
      ≡ whole_formulas l.due (arities_from action_arities l.self.part.now l.self.count l.i);
}
