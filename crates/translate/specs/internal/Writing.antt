-- What the writers hold and write: nodes by their shape.
use Rattle.std.specs.Prelude.{Bool, cond, ◌&&◌, List, [], ◌∷◌, map, ℕ, ◌+◌, ◌*◌, eqb}
use Rattle.sets.specs.Words.{marked}
use Rattle.solver.specs.Cells.{Cell, operands_of}
use Rattle.solver.specs.declared.Operands.{Operands}
use Rattle.solver.specs.declared.FileCell.{FileCell}
use Rattle.cases.specs.Formula.{Formula, False, True, And, Or, Box, Diamond, Variable, Fix, nodes}
use Rattle.cases.specs.internal.Masks.{mask_of}
use Rattle.cases.specs.declared.Transition.{Transition}
use Rattle.sets.specs.Lists.{keep}
use Rattle.translate.specs.declared.Shape.{Shape}

-- the shape of a formula that stands at node i
unfoldable pub shape_of : (ℕ → ℕ) → Formula → ℕ → Shape
shape_of block False i = Shape.False
shape_of block True i = Shape.True
shape_of block (And a b) i = Shape.And (i + 1 + nodes a)
shape_of block (Or a b) i = Shape.Or (i + 1 + nodes a)
shape_of block (Box α a) i = Shape.Box (mask_of α)
shape_of block (Diamond α a) i = Shape.Diamond (mask_of α)
shape_of block (Variable j) i = Shape.Variable (block j)
shape_of block (Fix sign j a) i = cond sign (Shape.Nu (block j)) (Shape.Mu (block j))

-- a transition from s whose label is in a mask
abbrev pub leaves : ℕ → ℕ → Transition → Bool
leaves s labels t = eqb t.source s && marked (labels ∷ []) t.label

-- the cell of a node of this shape, at node i, in state s; ts are the distinct transitions
unfoldable pub shape_cell : ℕ → List Transition → Shape → ℕ → ℕ → Cell
shape_cell n ts Shape.False i s = Cell.Or []
shape_cell n ts Shape.True i s = Cell.And []
shape_cell n ts (Shape.And second) i s = Cell.And (((i + 1) * n + s) ∷ (second * n + s) ∷ [])
shape_cell n ts (Shape.Or second) i s = Cell.Or (((i + 1) * n + s) ∷ (second * n + s) ∷ [])
shape_cell n ts (Shape.Box labels) i s = Cell.And (map (λ t. (i + 1) * n + t.target) (keep (leaves s labels) ts))
shape_cell n ts (Shape.Diamond labels) i s = Cell.Or (map (λ t. (i + 1) * n + t.target) (keep (leaves s labels) ts))
shape_cell n ts (Shape.Variable block) i s = Cell.Variable block s
shape_cell n ts (Shape.Mu block) i s = Cell.Variable block s
shape_cell n ts (Shape.Nu block) i s = Cell.Variable block s

-- its operands
abbrev pub shape_operands : ℕ → List Transition → Shape → ℕ → ℕ → List ℕ
shape_operands n ts x i s = operands_of (shape_cell n ts x i s)

-- its cell in state s as a file has it, where its operands stand as `operands` says if it has any
abbrev pub file_cell : Shape → ℕ → Operands → FileCell
file_cell Shape.False s operands = FileCell.Or operands
file_cell Shape.True s operands = FileCell.And operands
file_cell (Shape.And second) s operands = FileCell.And operands
file_cell (Shape.Or second) s operands = FileCell.Or operands
file_cell (Shape.Box labels) s operands = FileCell.And operands
file_cell (Shape.Diamond labels) s operands = FileCell.Or operands
file_cell (Shape.Variable block) s operands = FileCell.Variable block s
file_cell (Shape.Mu block) s operands = FileCell.Variable block s
file_cell (Shape.Nu block) s operands = FileCell.Variable block s

-- the node of its second operand; 0 where there is none
abbrev pub second_of : Shape → ℕ
second_of (Shape.And second) = second
second_of (Shape.Or second) = second
second_of _ = 0
