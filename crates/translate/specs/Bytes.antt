-- The equation file of a case, byte by byte.
use Rattle.std.specs.Prelude.{List, [], ◌∷◌, ◌++◌, ℕ, ◌+◌, ◌*◌, ◌/◌, ◌%◌, length}
use Rattle.sets.specs.Words.{bit}
use Rattle.solver.specs.Cells.{Cell, And, Or, Variable, operands_of}
use Rattle.solver.specs.File.{Block, blocks_at}
use Rattle.cases.specs.Case.{Case}
use Rattle.translate.specs.Whole.{formula_of, block_of, steps_of}
use Rattle.translate.specs.Cells.{cells_from, blocks_from}

-- the equations of a case: its blocks, cells and operands
pub record System : Type 0 where
  pub states : ℕ
  pub initial : ℕ
  pub blocks : List Block
  pub cells : List Cell

unfoldable pub system_of : Case → System
system_of c = record {
  states = c.states;
  initial = c.initial;
  blocks = blocks_from c.states (formula_of c) 0;
  cells = cells_from c.states (steps_of c) (block_of c) (formula_of c) 0;
}

-- operand lists follow one another in cell order
unfoldable pub all_operands : List Cell → List ℕ
all_operands [] = []
all_operands (c ∷ cs) = operands_of c ++ all_operands cs

-- a block's two numbers
unfoldable pub block_numbers : List Block → List ℕ
block_numbers [] = []
block_numbers (b ∷ bs) = bit b.sign ∷ b.first ∷ block_numbers bs

-- a cell's three numbers, where the lists before it have `used` operands
unfoldable pub cell_numbers : ℕ → List Cell → List ℕ
cell_numbers used [] = []
cell_numbers used (And os ∷ cs) = 0 ∷ used ∷ length os ∷ cell_numbers (used + length os) cs
cell_numbers used (Or os ∷ cs) = 1 ∷ used ∷ length os ∷ cell_numbers (used + length os) cs
cell_numbers used (Variable k s ∷ cs) = 2 ∷ k ∷ s ∷ cell_numbers used cs

-- the numbers of the file: header, blocks, cells, operands
unfoldable pub numbers : System → List ℕ
numbers y =
    let d : ℕ = length y.blocks in
    let c : ℕ = length y.cells in
    (1 ∷ y.states ∷ d ∷ c ∷ length (all_operands y.cells) ∷ y.initial ∷ blocks_at ∷ (blocks_at + 8 * d) ∷ (blocks_at + 8 * d + 12 * c) ∷ [])
    ++ (block_numbers y.blocks ++ (cell_numbers 0 y.cells ++ all_operands y.cells))

-- a number of 32 bits, low byte first
abbrev pub bytes32 : ℕ → List ℕ
bytes32 x = x % 256 ∷ x / 256 % 256 ∷ x / 65536 % 256 ∷ x / 16777216 % 256 ∷ []

unfoldable pub bytes : List ℕ → List ℕ
bytes [] = []
bytes (x ∷ xs) = bytes32 x ++ bytes xs

-- the equation file of a case
unfoldable pub file_of : Case → List ℕ
file_of c = bytes (numbers (system_of c))
