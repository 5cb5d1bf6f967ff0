-- The cells and blocks of a formula: cell i * n + s is the right-hand side of node i in state s.
use Rattle.std.specs.Prelude.{List, [], ◌∷◌, ◌++◌, map, ℕ, ◌+◌, ◌*◌}
use Rattle.sets.specs.Lists.{numbers_from, keep}
use Rattle.solver.specs.Cells.{Cell}
use Rattle.solver.specs.File.{Block}
use Rattle.cases.specs.Action.{Action}
use Rattle.cases.specs.Formula.{Formula, False, True, And, Or, Box, Diamond, Variable, Fix, nodes}
use Rattle.cases.specs.declared.Transition.{Transition}
use Rattle.cases.specs.Meaning.{from}

-- n states, the distinct transitions ts, and the block of each binder
module _ (n : ℕ) (ts : List Transition) (block : ℕ → ℕ) where
  -- one operand for each distinct transition from s whose label is accepted: the cell of node i in its target
  unfoldable pub targets : ℕ → Action → ℕ → List ℕ
  targets i α s = map (λ t. i * n + t.target) (keep (from s α) ts)

  -- the cell of a formula that stands at node i, in state s
  unfoldable pub cell_of : Formula → ℕ → ℕ → Cell
  cell_of False i s = Cell.Or []
  cell_of True i s = Cell.And []
  cell_of (And a b) i s = Cell.And (((i + 1) * n + s) ∷ ((i + 1 + nodes a) * n + s) ∷ [])
  cell_of (Or a b) i s = Cell.Or (((i + 1) * n + s) ∷ ((i + 1 + nodes a) * n + s) ∷ [])
  cell_of (Box α a) i s = Cell.And (targets (i + 1) α s)
  cell_of (Diamond α a) i s = Cell.Or (targets (i + 1) α s)
  cell_of (Variable j) i s = Cell.Variable (block j) s
  cell_of (Fix sign j a) i s = Cell.Variable (block j) s

  -- the cells of a formula at node i, node by node in prefix order
  unfoldable pub cells_from : Formula → ℕ → List Cell
  cells_from False i = map (cell_of False i) (numbers_from 0 n)
  cells_from True i = map (cell_of True i) (numbers_from 0 n)
  cells_from (And a b) i = map (cell_of (And a b) i) (numbers_from 0 n) ++ (cells_from a (i + 1) ++ cells_from b (i + 1 + nodes a))
  cells_from (Or a b) i = map (cell_of (Or a b) i) (numbers_from 0 n) ++ (cells_from a (i + 1) ++ cells_from b (i + 1 + nodes a))
  cells_from (Box α a) i = map (cell_of (Box α a) i) (numbers_from 0 n) ++ cells_from a (i + 1)
  cells_from (Diamond α a) i = map (cell_of (Diamond α a) i) (numbers_from 0 n) ++ cells_from a (i + 1)
  cells_from (Variable j) i = map (cell_of (Variable j) i) (numbers_from 0 n)
  cells_from (Fix sign j a) i = map (cell_of (Fix sign j a) i) (numbers_from 0 n) ++ cells_from a (i + 1)

-- the blocks of a formula at node i: a binder's right-hand sides are the cells of its body, node i + 1
unfoldable pub blocks_from : ℕ → Formula → ℕ → List Block
blocks_from n False i = []
blocks_from n True i = []
blocks_from n (And a b) i = blocks_from n a (i + 1) ++ blocks_from n b (i + 1 + nodes a)
blocks_from n (Or a b) i = blocks_from n a (i + 1) ++ blocks_from n b (i + 1 + nodes a)
blocks_from n (Box α a) i = blocks_from n a (i + 1)
blocks_from n (Diamond α a) i = blocks_from n a (i + 1)
blocks_from n (Variable j) i = []
blocks_from n (Fix sign j a) i = record { sign = sign; first = (i + 1) * n } ∷ blocks_from n a (i + 1)
