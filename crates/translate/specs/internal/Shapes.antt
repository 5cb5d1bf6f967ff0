-- The shapes of all nodes: of a formula, as a formula table gives them, and what is written of them.
use Rattle.std.specs.Prelude.{Bool, true, false, cond, List, [], ◌∷◌, ◌++◌, map, ℕ, ◌+◌, ◌*◌, length, get_or, take}
use Rattle.sets.specs.Lists.{numbers_from}
use Rattle.solver.specs.Cells.{Cell}
use Rattle.solver.specs.File.{Block}
use Rattle.cases.specs.Action.{Action}
use Rattle.cases.specs.Formula.{Formula, False, True, And, Or, Box, Diamond, Variable, Fix, nodes}
use Rattle.cases.specs.declared.Node.{Node}
use Rattle.cases.specs.Prefix.{arity_in, formula_arities, end_of}
use Rattle.cases.specs.Conditions.{node_at, is_binder, binder_count}
use Rattle.cases.specs.internal.Masks.{mask_of}
use Rattle.cases.specs.declared.Transition.{Transition}
use Rattle.translate.specs.declared.Shape.{Shape}
use Rattle.translate.specs.internal.Writing.{shape_of, shape_cell}

-- the shape of node i, by the shapes of all nodes
abbrev pub shape_at : List Shape → ℕ → Shape
shape_at xs i = get_or xs i Shape.False

-- the shapes of a formula at node i, node by node in prefix order
unfoldable pub shapes_from : (ℕ → ℕ) → Formula → ℕ → List Shape
shapes_from block False i = shape_of block False i ∷ []
shapes_from block True i = shape_of block True i ∷ []
shapes_from block (And a b) i = shape_of block (And a b) i ∷ (shapes_from block a (i + 1) ++ shapes_from block b (i + 1 + nodes a))
shapes_from block (Or a b) i = shape_of block (Or a b) i ∷ (shapes_from block a (i + 1) ++ shapes_from block b (i + 1 + nodes a))
shapes_from block (Box α a) i = shape_of block (Box α a) i ∷ shapes_from block a (i + 1)
shapes_from block (Diamond α a) i = shape_of block (Diamond α a) i ∷ shapes_from block a (i + 1)
shapes_from block (Variable j) i = shape_of block (Variable j) i ∷ []
shapes_from block (Fix sign j a) i = shape_of block (Fix sign j a) i ∷ shapes_from block a (i + 1)

-- the cells of nodes with these shapes, where the first of them is node i
unfoldable pub shape_cells : ℕ → List Transition → ℕ → List Shape → List Cell
shape_cells n ts i [] = []
shape_cells n ts i (x ∷ xs) = map (shape_cell n ts x i) (numbers_from 0 n) ++ shape_cells n ts (i + 1) xs

-- whether a node of this shape is a binder
abbrev pub shape_binds : Shape → Bool
shape_binds (Shape.Mu block) = true
shape_binds (Shape.Nu block) = true
shape_binds _ = false

-- the block of a node of this shape, at node i, if it is a binder
unfoldable pub shape_block : ℕ → ℕ → Shape → List Block
shape_block n i (Shape.Mu block) = record { sign = false; first = (i + 1) * n } ∷ []
shape_block n i (Shape.Nu block) = record { sign = true; first = (i + 1) * n } ∷ []
shape_block n i _ = []

-- the blocks of nodes with these shapes
unfoldable pub shape_blocks : ℕ → ℕ → List Shape → List Block
shape_blocks n i [] = []
shape_blocks n i (x ∷ xs) = shape_block n i x ++ shape_blocks n (i + 1) xs

-- the shape of a node by its kind, where its second operand is node `second`, it accepts `labels`, `bound` is the block of its variable and `own`
-- that of the binder that it is
abbrev pub shape_by : ℕ → ℕ → ℕ → ℕ → ℕ → Shape
shape_by second labels bound own kind =
    get_or
    (Shape.False ∷ Shape.True ∷ Shape.And second ∷ Shape.Or second ∷ Shape.Box labels ∷ Shape.Diamond labels ∷ Shape.Variable bound ∷ Shape.Mu own ∷ [])
    kind (Shape.Nu own)

-- The shape of node i of a formula table, where `action j` is the action formula at action node j. `added` is 1 where a nu was put before
-- the root, and 0 otherwise: node numbers and blocks rise by it.
unfoldable pub shape_in : (ℕ → Action) → List Node → ℕ → ℕ → Shape
shape_in action table added i =
    let x : Node = node_at table i in
    shape_by (end_of (map (arity_in formula_arities) table) (i + 1) + added) (mask_of (action x.arg))
    (binder_count (take x.arg table) + added) (binder_count (take i table) + added) x.kind

-- the shapes of all nodes of a formula table
unfoldable pub table_shapes : (ℕ → Action) → List Node → List Shape
table_shapes action table =
    cond (is_binder (node_at table 0))
    (map (shape_in action table 0) (numbers_from 0 (length table)))
    (Shape.Nu 0 ∷ map (shape_in action table 1) (numbers_from 0 (length table)))
