-- What condition 12 comes to: plain facts of the blocks, cells and operands of a well-formed file.
use mathlib.Core.Path.{◌≡◌, refl}
use mathlib.Core.Bool.{◌&&◌}
use mathlib.Core.List.{List}
use Prim.Native.Nat.{ℕ, zero, suc, ◌+◌, ◌*◌, ◌≤◌, ◌<◌}
use native.Mathlib.Omega.{arith}
use native.Mathlib.Decide.{dec_lt}
use lib.Dec.{T, eqb, ltb, leb, leb→le, ltb→lt, eqb→eq, le→leb}
use lib.ListN.{length, get_or}
use Rattle.sets.specs.Lists.{numbers_from, every}
use Rattle.sets.proofs.Lists.{length_range, range_at, and_left, and_right, all_at, all_from, all_mono}
use Rattle.solver.specs.Cells.{operands_of}
use Rattle.solver.specs.internal.Forms.{Ordered, Inside}
use Rattle.solver.specs.File.{u32, sizes_of, blocks_at, block_at, blocks, operands, Entry, entry_at, list_of, entry_cell, cells}
use Rattle.solver.specs.Conditions.{block_ok, arity, operands_before, operand_ok, operands_ok, cell_ok, tables_ok, WellFormed}
use Rattle.solver.proofs.Tables.{operand_at, length_blocks, length_cells, block_at_lem, cell_at_lem, length_list, list_at, before_next, before_grows}
use Rattle.solver.proofs.CellRules.{cell_list, cell_variable, cell_other, arity_list}

-- what the rule of cell i says of its three numbers
pub record Keeps (e : List ℕ) (i kind x y : ℕ) : Type 0 where
  pub kinds : kind ≤ 2
  pub variable : kind ≡ 2 → (x < (sizes_of e).blocks) × (y < (sizes_of e).states)
  pub list : kind ≤ 1 → x + y ≤ (sizes_of e).operands
  pub operand : kind ≤ 1 → (j : ℕ) → j < y → (i < operand_at e (x + j)) × (operand_at e (x + j) < (sizes_of e).cells)
  pub above : T (every (ltb i) (operands_of (entry_cell (operands e) kind x y)))

module _ (e : List ℕ) where
  -- the operands of a list
  listed : (i x y : ℕ) → T (operands_ok e i x y) → x + y ≤ (sizes_of e).operands →
      (j : ℕ) → j < y → (i < operand_at e (x + j)) × (operand_at e (x + j) < (sizes_of e).cells)
  listed i x y t h j j<y =
      let o : ℕ = operand_at e (x + j) in
      let low : j < length (list_of (operands e) x y) = omega (arith, length_list e x y h) in
      let good : T (operand_ok e i o) = rw (list_at e x y h j j<y) at (all_at (operand_ok e i) (list_of (operands e) x y) j 0 low t) in
      (ltb→lt i o (and_left (ltb i o) (ltb o (sizes_of e).cells) good), ltb→lt o (sizes_of e).cells (and_right (ltb i o) (ltb o (sizes_of e).cells) good))

  -- the cells that a list is made of
  of_list : (kind x y : ℕ) → kind ≤ 1 → operands_of (entry_cell (operands e) kind x y) ≡ list_of (operands e) x y
  unfolding entry_cell operands_of
  of_list zero x y h = refl
  of_list (suc zero) x y h = refl
  of_list (suc (suc kind)) x y h = absurd (omega arith)

  -- a cell that keeps its rule, where the list that it adds fits
  module _ (i : ℕ) (x : Entry) (is : x ≡ entry_at e i) (t : T (cell_ok e i)) (room : operands_before e i + arity x ≤ (sizes_of e).operands) where
    kept_list : x.kind ≤ 1 → Keeps e i x.kind x.one x.two
    kept_list low =
        let both : T (eqb x.one (operands_before e i) && operands_ok e i x.one x.two) = rw (cell_list e i is low) at t in
        let good = and_right (eqb x.one (operands_before e i)) _ both in
        let from : x.one ≡ operands_before e i = eqb→eq x.one (operands_before e i) (and_left (eqb x.one (operands_before e i)) _ both) in
        let fits : x.one + x.two ≤ (sizes_of e).operands = omega (arith, arity_list x low) in
        record {
          kinds = omega arith;
          variable = λ v. absurd (omega arith);
          list = λ v. fits;
          operand = λ v. listed i x.one x.two good fits;
          above = rw (of_list x.kind x.one x.two low) (all_mono (operand_ok e i) (ltb i) (λ o. and_left (ltb i o) (ltb o (sizes_of e).cells)) (list_of (operands e) x.one x.two) good);
        }

    kept_variable : x.kind ≡ 2 → Keeps e i x.kind x.one x.two
    unfolding entry_cell operands_of every
    kept_variable k =
        let both : T (ltb x.one (sizes_of e).blocks && ltb x.two (sizes_of e).states) = rw (cell_variable e i is k) at t in
        record {
          kinds = omega arith;
          variable = λ v. (ltb→lt x.one _ (and_left (ltb x.one (sizes_of e).blocks) _ both), ltb→lt x.two _ (and_right (ltb x.one (sizes_of e).blocks) _ both));
          list = λ v. absurd (omega arith);
          operand = λ v. absurd (omega arith);
          above = rw k tt;
        }

    kept : Keeps e i x.kind x.one x.two
    kept = by (dec_lt x.kind 2) (dec_lt 2 x.kind)
      where
        by : Dec (x.kind < 2) → Dec (2 < x.kind) → Keeps e i x.kind x.one x.two
        by (yes h) o = kept_list (omega arith)
        by (no h) (yes o) = absurd (rw (cell_other e i is o) at t)
        by (no h) (no o) = kept_variable (omega (arith, h, o))

module _ (e : List ℕ) (w : WellFormed e) where
  -- the blocks keep their rule, and so do the cells; the lists fill the table
  tables : T (every (block_ok e) (numbers_from 0 (sizes_of e).blocks)) × T (every (cell_ok e) (numbers_from 0 (sizes_of e).cells)) × (operands_before e (sizes_of e).cells ≡ (sizes_of e).operands)
  unfolding tables_ok
  tables =
      let t : T (tables_ok e) = rw w.tables tt in
      let b = every (block_ok e) (numbers_from 0 (sizes_of e).blocks) in
      let c = every (cell_ok e) (numbers_from 0 (sizes_of e).cells) in
      let both : T (b && c) = and_left (b && c) _ t in
      (and_left b c both, and_right b c both, eqb→eq (operands_before e (sizes_of e).cells) (sizes_of e).operands (and_right (b && c) _ t))

  -- each block has its cells
  pub block_kept : (k : ℕ) → k < (sizes_of e).blocks → u32 e (blocks_at + 8 * k + 4) + (sizes_of e).states ≤ (sizes_of e).cells
  unfolding block_ok
  block_kept k h =
      let low : k < length (numbers_from 0 (sizes_of e).blocks) = omega (arith, length_range 0 (sizes_of e).blocks) in
      let t : T (block_ok e k) = rw (range_at (sizes_of e).blocks k 0 h) at (all_at (block_ok e) (numbers_from 0 (sizes_of e).blocks) k 0 low tables.0) in
      leb→le _ _ (and_right (leb (u32 e (blocks_at + 8 * k)) 1) _ t)

  -- each cell keeps its rule
  pub cell_kept : (i : ℕ) → i < (sizes_of e).cells → Keeps e i (entry_at e i).kind (entry_at e i).one (entry_at e i).two
  cell_kept i h =
      let low : i < length (numbers_from 0 (sizes_of e).cells) = omega (arith, length_range 0 (sizes_of e).cells) in
      kept e i (entry_at e i) refl (rw (range_at (sizes_of e).cells i 0 h) at (all_at (cell_ok e) (numbers_from 0 (sizes_of e).cells) i 0 low tables.1))
      (omega (arith, before_next e i h, before_grows e (i + 1) (sizes_of e).cells (omega arith), tables.2))

  -- each block has a cell for each state
  pub inside : Inside (sizes_of e).states (sizes_of e).cells (blocks e)
  unfolding Inside
  inside = all_from _ (blocks e) (block_at e 0) each
    where
      each : (k : ℕ) → k < length (blocks e) → T (leb ((get_or (blocks e) k (block_at e 0)).first + (sizes_of e).states) (sizes_of e).cells)
      each k h =
          let low : k < (sizes_of e).blocks = omega (arith, length_blocks e) in
          rw (block_at_lem e k (block_at e 0) low) (le→leb _ _ (block_kept k low))

  -- each operand is above its cell
  pub ordered : Ordered (cells e)
  unfolding Ordered
  ordered i h =
      let low : i < (sizes_of e).cells = omega (arith, length_cells e) in
      rw (cell_at_lem e i low) (cell_kept i low).above
