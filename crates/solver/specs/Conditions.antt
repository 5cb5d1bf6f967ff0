-- Conditions 11 and 12 of an equation file.
use Rattle.std.specs.Prelude.{◌≡◌, Bool, true, cond, ◌&&◌, List, [], ◌∷◌, map, ℕ, ◌+◌, ◌*◌, eqb, ltb, leb, length, take}
use Rattle.sets.specs.Lists.{numbers_from, every, sum}
use Rattle.sets.specs.Words.{state_limit}
use Rattle.sets.specs.Refusals.{between}
use Rattle.solver.specs.File.{u32, sizes_of, blocks_at, cells_at, operands_at, Entry, entry_at, entries, operands, list_of, block_limit, cell_limit, operand_limit}

-- Condition 11 is that this fails: the bytes of a header, version 1, each count in its range, the initial state below n, the offsets, the length.
unfoldable pub layout_ok : List ℕ → Bool
layout_ok e = every (λ test. test)
    (leb blocks_at (length e)
    ∷ eqb (u32 e 0) 1
    ∷ between 1 state_limit (sizes_of e).states
    ∷ between 1 block_limit (sizes_of e).blocks
    ∷ between 1 cell_limit (sizes_of e).cells
    ∷ between 0 operand_limit (sizes_of e).operands
    ∷ ltb (sizes_of e).initial (sizes_of e).states
    ∷ eqb (u32 e 24) blocks_at
    ∷ eqb (u32 e 28) (cells_at (sizes_of e))
    ∷ eqb (u32 e 32) (operands_at (sizes_of e))
    ∷ eqb (length e) (operands_at (sizes_of e) + 4 * (sizes_of e).operands)
    ∷ [])

-- a block: sign 0 or 1, and a right side for every state
unfoldable pub block_ok : List ℕ → ℕ → Bool
block_ok e k = leb (u32 e (blocks_at + 8 * k)) 1 && leb (u32 e (blocks_at + 8 * k + 4) + (sizes_of e).states) (sizes_of e).cells

-- a cell of kind 0 or 1, which has a list of operands
abbrev pub is_list : Entry → Bool
is_list x = leb x.kind 1

-- how many operands a cell has
unfoldable pub arity : Entry → ℕ
arity x = cond (is_list x) x.two 0

-- how many operands the cells before cell i have
unfoldable pub operands_before : List ℕ → ℕ → ℕ
operands_before e i = sum (map arity (take i (entries e)))

-- an operand of cell i: a cell number above i
abbrev pub operand_ok : List ℕ → ℕ → ℕ → Bool
operand_ok e i o = ltb i o && ltb o (sizes_of e).cells

-- the `count` operands from place `from` of the table on, each an operand of cell i
abbrev pub operands_ok : List ℕ → ℕ → ℕ → ℕ → Bool
operands_ok e i from count = every (operand_ok e i) (list_of (operands e) from count)

-- cell i: a list starts where the lists before it end, also an empty one; any other is of kind 2, a variable, and has a block and a state
unfoldable pub cell_ok : List ℕ → ℕ → Bool
cell_ok e i =
    let x : Entry = entry_at e i in
    cond (is_list x)
    (eqb x.one (operands_before e i) && operands_ok e i x.one x.two)
    (eqb x.kind 2 && ltb x.one (sizes_of e).blocks && ltb x.two (sizes_of e).states)

-- Condition 12 is that this fails: each block and each cell keeps its rule, and the lists of all cells fill the operand table.
unfoldable pub tables_ok : List ℕ → Bool
tables_ok e =
    every (block_ok e) (numbers_from 0 (sizes_of e).blocks)
    && every (cell_ok e) (numbers_from 0 (sizes_of e).cells)
    && eqb (operands_before e (sizes_of e).cells) (sizes_of e).operands

-- neither 11 nor 12 holds
pub record WellFormed (e : List ℕ) : Type 0 where
  pub layout : layout_ok e ≡ true
  pub tables : tables_ok e ≡ true
