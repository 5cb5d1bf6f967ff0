-- Condition 11: what its tests come to, and what opening a file answers.
use mathlib.Core.Path.{◌≡◌, refl}
use mathlib.Core.Bool.{Bool, true, false}
use mathlib.Core.List.{List}
use Prim.Native.Nat.{ℕ, ◌*◌, ◌<◌}
use native.Mathlib.Omega.{arith}
use mir.Syntax.{w64}
use mir.Val.{Fits}
use borrow.Author.Tests.{le-leb, lt-leb, lt-ltb, eq-eqb}
use lib.Dec.{T, leb-zero, ltb→lt, eqb→eq}
use Rattle.std.specs.Prelude.{Err}
use lib.ListN.{length}
use Rattle.sets.proofs.Refusals.{bounds}
use Rattle.sets.specs.Lists.{every}
use Rattle.sets.specs.Words.{state_limit}
use Rattle.sets.proofs.Lists.{test}
use Rattle.solver.specs.declared.Cause.TheVariants.{Layout, Table}
use Rattle.solver.specs.declared.Sizes.{Sizes}
use Rattle.solver.specs.File.{sizes_of, block_limit, cell_limit, operand_limit}
use Rattle.solver.specs.Conditions.{layout_ok, tables_ok}
use Rattle.solver.specs.internal.Forms.{opened}
use Rattle.solver.specs.internal.Checks.{Read}
use Rattle.solver.specs.internal.Working.{OpenFile}
use Rattle.solver.proofs.Tables.{counted}

-- if condition 11 does not hold, the file can be read
pub layout_facts : (e : List ℕ) → layout_ok e ≡ true → Read e (sizes_of e)
unfolding layout_ok
layout_facts e h =
    let t : T (layout_ok e) = rw h tt in
    let states = bounds 1 state_limit (sizes_of e).states (test 2 _ t tt) in
    let blocks = bounds 1 block_limit (sizes_of e).blocks (test 3 _ t tt) in
    let cells = bounds 1 cell_limit (sizes_of e).cells (test 4 _ t tt) in
    record {
      sizes_are = refl;
      counts = record {
        some_state = states.0;
        few_states = states.1;
        some_block = blocks.0;
        few_blocks = blocks.1;
        some_cell = cells.0;
        few_cells = cells.1;
        few_operands = (bounds 0 operand_limit (sizes_of e).operands (test 5 _ t tt)).1;
        initial = ltb→lt _ _ (test 6 _ t tt);
      };
      places = record {
        version = eqb→eq _ _ (test 1 _ t tt);
        blocks = eqb→eq _ _ (test 7 _ t tt);
        cells = eqb→eq _ _ (test 8 _ t tt);
        operands = eqb→eq _ _ (test 9 _ t tt);
        ends = eqb→eq _ _ (test 10 _ t tt);
      };
    }

-- if the file can be read, condition 11 does not hold
layout_from : (e : List ℕ) → Read e (sizes_of e) → layout_ok e ≡ true
unfolding layout_ok every
layout_from e r =
    simp (
      le-leb 36 (length e) (omega arith),
      eq-eqb _ _ r.places.version,
      le-leb _ _ r.counts.some_state,
      le-leb _ _ r.counts.few_states,
      le-leb _ _ r.counts.some_block,
      le-leb _ _ r.counts.few_blocks,
      le-leb _ _ r.counts.some_cell,
      le-leb _ _ r.counts.few_cells,
      leb-zero,
      le-leb _ _ r.counts.few_operands,
      lt-ltb _ _ r.counts.initial,
      eq-eqb _ _ r.places.blocks,
      eq-eqb _ _ r.places.cells,
      eq-eqb _ _ r.places.operands,
      eq-eqb _ _ r.places.ends,
    )

-- a file of which condition 11 does not hold, for counts that are those of the file
layout_read : (e : List ℕ) (s : Sizes) → s ≡ sizes_of e → layout_ok e ≡ true → Read e s
layout_read e s are h = rw are (layout_facts e h)

-- a file that is opened can be read
pub opens_read : {e : List ℕ} {s : Sizes} → OpenFile e s → Read e s
opens_read {e} {s} o = layout_read e s o.counts o.formed.layout

-- its block numbers are small, and those of the file
pub few_blocks : {e : List ℕ} {s : Sizes} {k : ℕ} → OpenFile e s → k < s.blocks → k < block_limit
few_blocks o h = omega (arith, (opens_read o).counts.few_blocks)

pub own_block : {e : List ℕ} {s : Sizes} {k : ℕ} → OpenFile e s → k < s.blocks → k < (sizes_of e).blocks
own_block o h = omega (arith, (counted o.counts).blocks)

-- the offset of a block's row among the sets is a number of the code's
pub row_fits : {k : ℕ} → k < block_limit → Fits w64 (k * 32)
row_fits h = record { fits = omega arith }

-- What opening a file answers: condition 11 holds,
opened_layout : (e : List ℕ) → layout_ok e ≡ false → Err Layout ≡ opened e
unfolding opened
opened_layout e f = rw (opened, f) refl

-- since the file is too short for the header,
pub opened_short : (e : List ℕ) → length e < 36 → Err Layout ≡ opened e
unfolding layout_ok every
opened_short e h = opened_layout e (rw (lt-leb 36 (length e) h) refl)

-- or cannot be read,
pub opened_unread : (e : List ℕ) (s : Sizes) → s ≡ sizes_of e → ¬ Read e s → Err Layout ≡ opened e
opened_unread e s are n = go (layout_ok e) refl
  where
    go : (b : Bool) → layout_ok e ≡ b → Err Layout ≡ opened e
    go true h = absurd (n (layout_read e s are h))
    go false h = opened_layout e h

module _ {e : List ℕ} {s : Sizes} (r : Read e s) where
  layout_is : layout_ok e ≡ true
  layout_is = layout_from e (rw r.sizes_are at r)

  -- condition 12 holds,
  pub opened_table : tables_ok e ≡ false → Err Table ≡ opened e
  unfolding opened
  opened_table f = rw (opened, layout_is, f) refl

  -- or neither does
  pub opens : tables_ok e ≡ true → OpenFile e s
  opens t = record { formed = record { layout = layout_is; tables = t }; counts = r.sizes_are }
