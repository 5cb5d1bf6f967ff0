use Prim.Native.Nat.{◌+◌, ◌*◌, ◌≤◌, max}
use mathlib.Core.Path.{◌≡◌}
use Rattle.std.specs.Prelude.{◌⊎◌}
use mathlib.Core.List.{map}
use lib.ListN.{drop}
use Rattle.cases.specs.Prefix.{formula_arities, arity_in, end_of, span, exactly}
use Rattle.cases.specs.internal.Checks.{nodes_in}
use Rattle.cases.proofs.PrefixRules.{arities_from}
use Rattle.cases.proofs.conditions.Nodes.whole_subtree.Given as goal

abbrev pub invariant-loop-i : goal.invariant-loop-i
invariant-loop-i l = record {
  few : l.due ≤ 2 * l.i + 1;
  within : l.i ≤ max l.at l.self.count;
  past : (l.at ≤ l.self.count) ⊎ (l.due ≡ 1);
  end : end_of (map (arity_in formula_arities) (nodes_in l.self.part.now l.self.count)) l.at
      ≡ l.i + span l.due (arities_from formula_arities l.self.part.now l.self.count l.i);
  whole : exactly 1 (drop l.at (map (arity_in formula_arities) (nodes_in l.self.part.now l.self.count)))
      ≡ exactly l.due (arities_from formula_arities l.self.part.now l.self.count l.i);
}
