use native.Mathlib.Omega.{arith}
use Rattle.cases.specs.internal.Checks.{nodes_in}
use Rattle.cases.proofs.FormulaRules.{length_nodes}
use Rattle.translate.proofs.ShapeFields.{added_small, shapes_none, shapes_next, shapes_done}
use Rattle.translate.proofs.formula.WholeFormula.shapes.Goals as goal

pub loop-i-init : goal.loop-i-init
loop-i-init c =
    let p = c.args in
    (omega arith, λ action masks. shapes_none action (nodes_in p.self.now.nodes.part.now p.self.now.nodes.count) p.self.now.added (added_small _ p.self.now.before))

pub loop-i-preserved : goal.loop-i-preserved
loop-i-preserved c =
    let p = c.args in
    let l = c.loop-i in
    let n = length_nodes p.self.now.nodes.part.now p.self.now.nodes.count in (
      omega arith,
      λ action masks. shapes_next action (nodes_in p.self.now.nodes.part.now p.self.now.nodes.count) p.self.now.added l.i l.shapes c.shape_at.result (l.invariant.1 action masks)
          (rw n c.loop-i-test.true) (omega (arith, added_small _ p.self.now.before, n, p.self.now.few)) (c.shape_at.ensures action masks),
    )

pub returns : goal.returns
returns c = λ action masks.
    let p = c.args in
    let l = c.loop-i in
    let n = length_nodes p.self.now.nodes.part.now p.self.now.nodes.count in
    let done = l.invariant.1 action masks in
    record { long = done.long; starts = shapes_done action (nodes_in p.self.now.nodes.part.now p.self.now.nodes.count) p.self.now.added l.shapes l.i (omega arith) p.self.now.before done }
