use Prim.Native.Nat.{◌+◌}
use native.Mathlib.Omega.{arith}
use Rattle.translate.proofs.ShapeFields.{end_small, added_small}
use Rattle.translate.proofs.formula.WholeFormula.second_of.Goals as goal

pub overflow_add-result : goal.overflow_add-result
overflow_add-result c =
    let p = c.args in
    let t = p.self.now in
    omega (arith, c.subtree_end.ensures, end_small t.nodes.part.now t.nodes.count (p.i + 1) (omega arith), t.few, added_small _ t.before)
