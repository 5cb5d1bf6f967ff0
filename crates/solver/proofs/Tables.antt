-- The counts and tables of any file: how long each table is, and each element by the place where it stands.
use mathlib.Core.Path.{◌≡◌, refl, ap, ◌∙◌}
use mathlib.Core.List.{List, [], ◌∷◌}
use Prim.Native.Nat.{ℕ, ◌+◌, ◌*◌, ◌≤◌, ◌<◌}
use native.Mathlib.Omega.{arith}
use lib.ListN.{length, get_or, drop, length-map, length-take, length-drop}
use lib.Seq.{get_or-take, get_or-drop}
use Rattle.sets.proofs.Lists.{get_or_map, length_table, table_at, drop_next, sum_next, sum_grows}
use Rattle.solver.specs.Cells.{And as AndOf}
use Rattle.solver.specs.File.{u32, sizes_of, operands_at, Block, block_at, blocks, operands, Entry, entry_at, entries, list_of, entry_cell, cells}
use Rattle.solver.specs.Conditions.{arity, operands_before}
use Rattle.solver.specs.declared.Sizes.{Sizes}

-- the counts that the code holds are the file's
pub record Counted (e : List ℕ) (s : Sizes) : Type 0 where
  pub states : s.states ≡ (sizes_of e).states
  pub blocks : s.blocks ≡ (sizes_of e).blocks
  pub cells : s.cells ≡ (sizes_of e).cells
  pub operands : s.operands ≡ (sizes_of e).operands
  pub initial : s.initial ≡ (sizes_of e).initial

pub counted : {e : List ℕ} {s : Sizes} → s ≡ sizes_of e → Counted e s
counted are = record {
  states = ap (λ (x : Sizes). x.states) are;
  blocks = ap (λ (x : Sizes). x.blocks) are;
  cells = ap (λ (x : Sizes). x.cells) are;
  operands = ap (λ (x : Sizes). x.operands) are;
  initial = ap (λ (x : Sizes). x.initial) are;
}

-- a number behind the first bytes of a file
pub number_behind : (e : List ℕ) (front at place : ℕ) {part : List ℕ} {x : ℕ} → part ≡ drop front e → x ≡ u32 part at → front + at ≡ place → x ≡ u32 e place
unfolding u32
number_behind e front at place is h p =
    let one : front + (at + 1) ≡ place + 1 = omega arith in
    let two : front + (at + 2) ≡ place + 2 = omega arith in
    let three : front + (at + 3) ≡ place + 3 = omega arith in
    h ∙ rw (is, get_or-drop front e at 0, get_or-drop front e (at + 1) 0, get_or-drop front e (at + 2) 0, get_or-drop front e (at + 3) 0, p, one, two, three) refl

-- operand j of the operand table
abbrev pub operand_at : List ℕ → ℕ → ℕ
operand_at e j = u32 e (operands_at (sizes_of e) + 4 * j)

module _ (e : List ℕ) where
  pub length_blocks : length (blocks e) ≡ (sizes_of e).blocks
  unfolding blocks
  length_blocks = length_table (block_at e) (sizes_of e).blocks

  pub length_operands : length (operands e) ≡ (sizes_of e).operands
  unfolding operands
  length_operands = length_table (operand_at e) (sizes_of e).operands

  pub length_entries : length (entries e) ≡ (sizes_of e).cells
  unfolding entries
  length_entries = length_table (entry_at e) (sizes_of e).cells

  pub length_cells : length (cells e) ≡ (sizes_of e).cells
  unfolding cells
  length_cells = length-map (entries e) _ ∙ length_entries

  pub block_at_lem : (k : ℕ) (b : Block) → k < (sizes_of e).blocks → get_or (blocks e) k b ≡ block_at e k
  unfolding blocks
  block_at_lem k b h = table_at (block_at e) (sizes_of e).blocks k b h

  pub operand_at_lem : (j : ℕ) → j < (sizes_of e).operands → get_or (operands e) j 0 ≡ operand_at e j
  unfolding operands
  operand_at_lem j h = table_at (operand_at e) (sizes_of e).operands j 0 h

  pub entry_at_lem : (i : ℕ) (x : Entry) → i < (sizes_of e).cells → get_or (entries e) i x ≡ entry_at e i
  unfolding entries
  entry_at_lem i x h = table_at (entry_at e) (sizes_of e).cells i x h

  -- a cell is made of its three numbers and the operand table
  pub cell_at_lem : (i : ℕ) → i < (sizes_of e).cells →
      get_or (cells e) i (AndOf []) ≡ entry_cell (operands e) (entry_at e i).kind (entry_at e i).one (entry_at e i).two
  unfolding cells
  cell_at_lem i h =
      get_or_map _ (entries e) i (entry_at e i) (AndOf []) (omega (arith, length_entries))
      ∙ ap (λ (x : Entry). entry_cell (operands e) x.kind x.one x.two) (entry_at_lem i (entry_at e i) h)

  -- the cells from cell i on
  pub entries_from : (i : ℕ) → i < (sizes_of e).cells → drop i (entries e) ≡ entry_at e i ∷ drop (i + 1) (entries e)
  entries_from i h = drop_next (entries e) i (entry_at e i) (entry_at e i) (omega (arith, length_entries)) (entry_at_lem i (entry_at e i) h)

  -- a list of operands: its length and its elements
  module _ (from count : ℕ) (fits : from + count ≤ (sizes_of e).operands) where
    pub length_list : length (list_of (operands e) from count) ≡ count
    length_list = simp (length-take, length-drop, length_operands) (omega arith)

    pub list_at : (j : ℕ) → j < count → get_or (list_of (operands e) from count) j 0 ≡ operand_at e (from + j)
    list_at j h =
        get_or-take count (drop from (operands e)) j 0 h
        ∙ get_or-drop from (operands e) j 0
        ∙ operand_at_lem (from + j) (omega arith)

  -- the operands before a cell: one cell more, and they grow
  pub before_next : (i : ℕ) → i < (sizes_of e).cells → operands_before e (i + 1) ≡ operands_before e i + arity (entry_at e i)
  unfolding operands_before
  before_next i h =
      sum_next arity (entries e) i (entry_at e i) (omega (arith, length_entries))
      ∙ ap (λ (x : Entry). operands_before e i + arity x) (entry_at_lem i (entry_at e i) h)

  pub before_grows : (i j : ℕ) → i ≤ j → operands_before e i ≤ operands_before e j
  unfolding operands_before
  before_grows i j h = sum_grows arity (entries e) i j h
