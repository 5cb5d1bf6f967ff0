use mathlib.Core.Path.{ap}
use Prim.Native.Nat.{ℕ, ◌+◌}
use Rattle.translate.proofs.ShapeFields.{take_nodes}
use Rattle.translate.proofs.formula.WholeFormula.block_of.Goals as goal

pub returns : goal.returns
returns c =
    let p = c.args in
    let t = p.self.now in
    rw (take_nodes t.nodes.part.now p.i t.nodes.count c.requires) (ap (λ (k : ℕ). k + t.added) c.binders.ensures.count)
