-- The equation file: the counts, blocks, cells and operands of any list of bytes, and how large it may be.
use Rattle.std.specs.Prelude.{Bool, List, map, ℕ, zero, suc, ◌+◌, ◌*◌, eqb, get_or, take, drop}
use Rattle.sets.specs.Lists.{numbers_from}
use Rattle.sets.specs.Words.{state_limit}
use Rattle.solver.specs.Cells.{Cell, And, Or, Variable}
pub use Rattle.solver.specs.declared.Sizes.{Sizes}

-- the 32-bit number at a place, low byte first
unfoldable pub u32 : List ℕ → ℕ → ℕ
u32 e at = get_or e at 0 + 256 * get_or e (at + 1) 0 + 65536 * get_or e (at + 2) 0 + 16777216 * get_or e (at + 3) 0

-- The header has nine numbers: the version at 0; states, blocks, cells, operands and the initial state, read here; the offsets of the three tables at 24, 28 and 32.
abbrev pub sizes_of : List ℕ → Sizes
sizes_of e = record { states = u32 e 4; blocks = u32 e 8; cells = u32 e 12; operands = u32 e 16; initial = u32 e 20 }

-- Where the tables start by the counts: without gaps, a block has 8 bytes and a cell 12.
abbrev pub blocks_at : ℕ
blocks_at = 36

abbrev pub cells_at : Sizes → ℕ
cells_at s = blocks_at + 8 * s.blocks

abbrev pub operands_at : Sizes → ℕ
operands_at s = cells_at s + 12 * s.cells

-- A block has a sign (0 mu, 1 nu) and a first cell.
pub record Block : Type 0 where
  pub sign : Bool
  pub first : ℕ

abbrev pub block_at : List ℕ → ℕ → Block
block_at e k = record { sign = eqb (u32 e (blocks_at + 8 * k)) 1; first = u32 e (blocks_at + 8 * k + 4) }

unfoldable pub blocks : List ℕ → List Block
blocks e = map (block_at e) (numbers_from 0 (sizes_of e).blocks)

unfoldable pub operands : List ℕ → List ℕ
operands e = map (λ j. u32 e (operands_at (sizes_of e) + 4 * j)) (numbers_from 0 (sizes_of e).operands)

-- A cell is three numbers: its kind, and first operand and operand count, or block and state.
pub record Entry : Type 0 where
  pub kind : ℕ
  pub one : ℕ
  pub two : ℕ

abbrev pub entry_at : List ℕ → ℕ → Entry
entry_at e i = record { kind = u32 e (cells_at (sizes_of e) + 12 * i); one = u32 e (cells_at (sizes_of e) + 12 * i + 4); two = u32 e (cells_at (sizes_of e) + 12 * i + 8) }

unfoldable pub entries : List ℕ → List Entry
entries e = map (entry_at e) (numbers_from 0 (sizes_of e).cells)

-- the operands of a list that starts at `from` in the operand table
abbrev pub list_of : List ℕ → ℕ → ℕ → List ℕ
list_of ops from count = take count (drop from ops)

-- kind 0 is an and, 1 an or, 2 (and above) a variable
unfoldable pub entry_cell : List ℕ → ℕ → ℕ → ℕ → Cell
entry_cell ops zero x y = And (list_of ops x y)
entry_cell ops (suc zero) x y = Or (list_of ops x y)
entry_cell ops (suc (suc kind)) x y = Variable x y

unfoldable pub cells : List ℕ → List Cell
cells e = map (λ x. entry_cell (operands e) x.kind x.one x.two) (entries e)

-- How large a file may be: six blocks, 16,640 cells, 133,120 operands. The code's BLOCKS, CELLS and OPERANDS.
abbrev pub block_limit : ℕ
block_limit = 6

abbrev pub cell_limit : ℕ
cell_limit = 65 * state_limit

abbrev pub operand_limit : ℕ
operand_limit = 133_120
