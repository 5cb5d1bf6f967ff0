-- Laws of the cells of all nodes, row by row.
use mathlib.Core.Path.{◌≡◌}
use mathlib.Core.List.{List}
use Prim.Native.Nat.{ℕ, ◌+◌, ◌*◌, ◌≤◌, ◌<◌}
use native.Mathlib.Nat.{add-mul, mul-le-mul_right}
use native.Mathlib.Omega.{arith}
use lib.ListN.{length}
use Rattle.cases.specs.declared.Transition.{Transition}
use Rattle.translate.specs.declared.Shape.{Shape}
use Rattle.translate.specs.declared.bytes.Writer.{Writer}
use Rattle.translate.specs.Bytes.{all_operands, cell_numbers}
use Rattle.translate.specs.internal.Shapes.{shape_at}
use Rattle.translate.specs.internal.Parts.{Wrote, WroteCells}
use Rattle.translate.proofs.Putting.{wrote_none}
use Rattle.translate.proofs.ShapeLaws.{wrote_no_cell, wrote_cells_then}
use Rattle.translate.proofs.NodeParts.{row, cells_to, cells_none, cells_more, length_cells_to}
use Rattle.translate.proofs.NumberBytes.{length_cell_numbers}

-- the row of node i ends within the rows of k nodes
pub rows_fit : (i k n : ℕ) → i < k → i * n + n ≤ k * n
rows_fit i k n h =
    let l : i + 1 ≤ k = omega arith in
    omega (arith, mul-le-mul_right n l, add-mul i 1 n)

module _ (n : ℕ) (ts : List Transition) (xs : List Shape) where
  -- the cells of no node are written, and their operands
  pub wrote_no_rows : (w : Writer) → WroteCells 0 (cells_to n ts xs 0) w w 0
  wrote_no_rows w = rw (cells_none n ts xs) (wrote_no_cell 0 w)

  pub wrote_no_operands : (w : Writer) → Wrote (all_operands (cells_to n ts xs 0)) w w
  unfolding all_operands
  wrote_no_operands w = rw (cells_none n ts xs) (wrote_none w)

  -- the cells of the first i nodes have so many numbers
  pub numbers_to : (i : ℕ) → i ≤ length xs → length (cell_numbers 0 (cells_to n ts xs i)) ≡ 3 * (i * n)
  numbers_to i h = omega (arith, length_cell_numbers 0 (cells_to n ts xs i), length_cells_to n ts xs i h)

  -- the cells of one node more are written
  pub wrote_row : (i : ℕ) → i < length xs → {used r : ℕ} {before mid after : Writer} → WroteCells 0 (cells_to n ts xs i) before mid used
      → WroteCells used (row n ts (shape_at xs i) i) mid after r → WroteCells 0 (cells_to n ts xs (i + 1)) before after r
  wrote_row i h p q = rw (cells_more n ts xs i h) (wrote_cells_then p q)
