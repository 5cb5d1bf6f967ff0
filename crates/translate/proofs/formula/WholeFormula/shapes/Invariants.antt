use Prim.Native.Nat.{ℕ, ◌≤◌}
use lib.ListN.{length}
use Rattle.cases.specs.Action.{Action}
use Rattle.cases.specs.internal.Checks.{nodes_in}
use Rattle.cases.specs.internal.Masks.{ActionMasks}
use Rattle.translate.proofs.ShapeFields.{ShapesBefore}
use Rattle.translate.proofs.formula.WholeFormula.shapes.Given as goal

abbrev pub invariant-loop-i : goal.invariant-loop-i
invariant-loop-i l = (l.i ≤ l.self.nodes.count) × ((action : ℕ → Action) → ActionMasks action (length l.self.masks.now) l.self.masks.now → ShapesBefore action (nodes_in l.self.nodes.part.now l.self.nodes.count) l.self.added l.i l.shapes)
