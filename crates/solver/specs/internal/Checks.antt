-- What the functions that check a file ask and promise.
use Rattle.std.specs.Prelude.{◌≡◌, Bool, true, false, ◌&&◌, List, ℕ, ◌+◌, ◌*◌, ◌≤◌, ◌<◌, eqb, length, drop, Option, Some, None}
use Rattle.sets.specs.Lists.{numbers_from, every}
use Rattle.sets.specs.Words.{state_limit}
use Rattle.solver.specs.declared.Sizes.{Sizes}
use Rattle.solver.specs.File.{u32, sizes_of, blocks_at, cells_at, operands_at, block_limit, cell_limit, operand_limit}
use Rattle.solver.specs.Conditions.{operands_before, cell_ok}

-- each count is in its range, and the initial state is a state
pub record SizesFit (s : Sizes) : Type 0 where
  pub some_state : 1 ≤ s.states
  pub few_states : s.states ≤ state_limit
  pub some_block : 1 ≤ s.blocks
  pub few_blocks : s.blocks ≤ block_limit
  pub some_cell : 1 ≤ s.cells
  pub few_cells : s.cells ≤ cell_limit
  pub few_operands : s.operands ≤ operand_limit
  pub initial : s.initial < s.states

-- the version, the offsets and the length
pub record Places (e : List ℕ) (s : Sizes) : Type 0 where
  pub version : u32 e 0 ≡ 1
  pub blocks : u32 e 24 ≡ blocks_at
  pub cells : u32 e 28 ≡ cells_at s
  pub operands : u32 e 32 ≡ operands_at s
  pub ends : length e ≡ operands_at s + 4 * s.operands

-- e has the counts s, and condition 11 does not hold of it
pub record Read (e : List ℕ) (s : Sizes) : Type 0 where
  pub sizes_are : s ≡ sizes_of e
  pub counts : SizesFit s
  pub places : Places e s

-- whether the cells from i on keep their rules, and the lists of all cells fill the operand table
abbrev pub rest_ok : List ℕ → ℕ → Bool
rest_ok e i = every (cell_ok e) (drop i (numbers_from 0 (sizes_of e).cells)) && eqb (operands_before e (sizes_of e).cells) (sizes_of e).operands

-- What is found of cell i, where the lists before it have `used` operands: how many it has, or that it breaks its rule. A list that runs past the operand table is broken, since the lists
-- then no longer fill the table.
pub record Spans (e : List ℕ) (i used : ℕ) (found : Option ℕ) : Type 0 where
  pub broken : found ≡ None → rest_ok e i ≡ false
  pub holds : (count : ℕ) → found ≡ Some count → cell_ok e i ≡ true
  pub next : (count : ℕ) → found ≡ Some count → used + count ≡ operands_before e (i + 1)
  pub fits : (count : ℕ) → found ≡ Some count → used + count ≤ (sizes_of e).operands
