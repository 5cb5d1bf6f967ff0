-- The equation file of a case is well formed, and gives the case's equations back.
use mathlib.Core.Path.{◌≡◌, refl, sym, ap, ap₂, ◌∙◌}
use mathlib.Core.Bool.{true, ◌&&◌}
use mathlib.Core.List.{List, [], ◌∷◌, ◌++◌}
use Prim.Native.Nat.{ℕ, ◌+◌, ◌*◌, ◌≤◌, ◌<◌}
use native.Mathlib.Numerals.{add-one}
use native.Mathlib.Omega.{arith}
use borrow.Author.Tests.{lt-ltb, le-leb, eq-eqb}
use lib.Dec.{T, eqb, ltb, leb, ltb→lt, leb→le, le→leb, eqb_refl}
use lib.ListN.{length, get_or, drop, length-append}
use Rattle.sets.specs.Lists.{numbers_from, every}
use Rattle.sets.specs.Words.{state_limit}
use Rattle.sets.proofs.Lists.{and_both, all_at, all_mono}
use Rattle.solver.specs.File.{Entry}
use Rattle.solver.specs.Cells.{Cell, And, Or, Variable, operands_of}
use Rattle.solver.specs.File.{u32, sizes_of, blocks_at, cells_at, operands_at, block_limit, cell_limit, operand_limit, Block, block_at, operands, entry_at, entries}
use Rattle.solver.specs.Conditions.{layout_ok, block_ok, arity, operands_before, operand_ok, cell_ok, tables_ok, WellFormed}
use Rattle.translate.specs.Bytes.{System, all_operands, numbers, bytes}
use Rattle.solver.proofs.Tables.{entries_from, before_next}
use Rattle.solver.proofs.CellRules.{cell_list, cell_variable, arity_list, none_before}
use Rattle.solver.proofs.Shown.{bit_low}
use Rattle.cases.proofs.TableTrees.{holds}
use Rattle.translate.proofs.AllLaws.{range_below}
use Rattle.translate.proofs.Rules.{rule_ok, rules_ok, rule_first, rule_others, roomy}
use Rattle.translate.proofs.ReadBack as back
use Rattle.translate.proofs.ReadBack.{Ready, entries_of, list_back, list_rest}

-- The file of a system that is ready is well formed.
module _ (y : System) (ready : Ready y) where
  abbrev e : List ℕ
  e = bytes (numbers y)

  -- condition 11 does not hold
  layout_ok_lem : layout_ok e ≡ true
  unfolding layout_ok every
  layout_ok_lem =
      let n_is : (sizes_of e).states ≡ y.states = back.states_back y ready in
      let d_is : (sizes_of e).blocks ≡ length y.blocks = back.block_count_back y ready in
      let c_is : (sizes_of e).cells ≡ length y.cells = back.cell_count_back y ready in
      let p_is : (sizes_of e).operands ≡ length (all_operands y.cells) = back.operand_count_back y ready in
      let long : length e ≡ operands_at (sizes_of e) + 4 * (sizes_of e).operands = omega (arith, back.length_file y) in
      rw (
        le-leb blocks_at (length e) (omega arith),
        eq-eqb (u32 e 0) 1 (back.version_back y ready),
        le-leb 1 (sizes_of e).states (omega (arith, ready.states_low)),
        le-leb (sizes_of e).states state_limit (omega (arith, ready.states_high)),
        le-leb 1 (sizes_of e).blocks (omega (arith, ready.blocks_low)),
        le-leb (sizes_of e).blocks block_limit (omega (arith, ready.blocks_high)),
        le-leb 1 (sizes_of e).cells (omega (arith, ready.cells_low)),
        le-leb (sizes_of e).cells cell_limit (omega (arith, ready.cells_high)),
        le-leb 0 (sizes_of e).operands (omega arith),
        le-leb (sizes_of e).operands operand_limit (omega (arith, ready.operands_high)),
        lt-ltb (sizes_of e).initial (sizes_of e).states (omega (arith, back.initial_back y ready, ready.initial_low)),
        eq-eqb (u32 e 24) blocks_at (back.blocks_start y ready),
        eq-eqb (u32 e 28) (cells_at (sizes_of e)) (omega (arith, back.cells_start y ready)),
        eq-eqb (u32 e 32) (operands_at (sizes_of e)) (omega (arith, back.operands_start y ready)),
        eq-eqb (length e) (operands_at (sizes_of e) + 4 * (sizes_of e).operands) long,
      )
      refl

  -- each block keeps its rule
  block_ok_lem : (k : ℕ) → k < length y.blocks → T (block_ok e k)
  unfolding block_ok
  block_ok_lem k h =
      let b : Block = block_at e 0 in
      let room : (get_or y.blocks k b).first + y.states ≤ length y.cells =
      leb→le _ _ (all_at (roomy y.states (length y.cells)) y.blocks k b h ready.roomy_blocks) in
      let sign : u32 e (blocks_at + 8 * k) ≤ 1 = omega (arith, back.sign_back y ready k b h, bit_low (get_or y.blocks k b).sign) in
      let first : u32 e (blocks_at + 8 * k + 4) + (sizes_of e).states ≤ (sizes_of e).cells =
      omega (arith, back.first_back y ready k b h, back.states_back y ready, back.cell_count_back y ready) in
      and_both (leb (u32 e (blocks_at + 8 * k)) 1) (leb (u32 e (blocks_at + 8 * k + 4) + (sizes_of e).states) (sizes_of e).cells) (le→leb _ _ sign) (le→leb _ _ first)

  blocks_ok : T (every (block_ok e) (numbers_from 0 (sizes_of e).blocks))
  blocks_ok =
      all_mono (λ k. ltb k (sizes_of e).blocks) (block_ok e) (λ k t. block_ok_lem k (below k (ltb→lt k (sizes_of e).blocks t)))
      (numbers_from 0 (sizes_of e).blocks) (range_below 0 (sizes_of e).blocks (sizes_of e).blocks (omega arith))
    where
      below : (k : ℕ) → k < (sizes_of e).blocks → k < length y.blocks
      below k h = omega (arith, back.block_count_back y ready)

  -- ---- the cells

  -- cell i has the numbers x, those of the cells after it are xs, and the lists before it have `used` operands
  module _ (i used : ℕ) (x : Entry) (xs : List Entry) (own : i < (sizes_of e).cells) (before : operands_before e i ≡ used) (here : drop i (entries e) ≡ x ∷ xs) where
    is : x ≡ entry_at e i
    is = let s = entries_from e i own in cc

    after : drop (i + 1) (entries e) ≡ xs
    after = let s = entries_from e i own in cc

    next : operands_before e (i + 1) ≡ used + arity x
    next = before_next e i own ∙ ap₂ (λ (k : ℕ) (a : Entry). k + arity a) before (sym is)

  -- The cells cs from i on keep their rules, and the lists of all cells fill the table.
  abbrev Good : ℕ → ℕ → List Cell → Type 0
  Good i used cs = T (every (cell_ok e) (numbers_from i (length cs))) × (operands_before e (sizes_of e).cells ≡ used + length (all_operands cs))

  -- one cell more
  cell_more : (i used past : ℕ) (x : Cell) (cs : List Cell) → past ≡ used + length (operands_of x) → T (cell_ok e i) → Good (i + 1) past cs → Good i used (x ∷ cs)
  unfolding every numbers_from all_operands
  cell_more i used past x cs long s t = (
    and_both (cell_ok e i) _ s (rw (add-one i) at t.0),
    omega (arith, t.1, length-append (operands_of x) (all_operands cs)),
  )

  -- a list that starts where the lists before it end
  list_good : (i used kind : ℕ) (os : List ℕ) (c : Cell) (cs : List Cell) → kind ≤ 1 → operands_of c ≡ os → i < (sizes_of e).cells → operands_before e i ≡ used
      → drop i (entries e) ≡ record { kind = kind; one = used; two = length os } ∷ entries_of (used + length os) cs
      → drop used (operands e) ≡ os ++ all_operands cs → T (every (operand_ok e i) os)
      → (operands_before e (i + 1) ≡ used + length os → drop (i + 1) (entries e) ≡ entries_of (used + length os) cs
      → drop (used + length os) (operands e) ≡ all_operands cs → Good (i + 1) (used + length os) cs)
      → Good i used (c ∷ cs)
  list_good i used kind os c cs low are own b h o t others =
      let x : Entry = record { kind = kind; one = used; two = length os } in
      let xs = entries_of (used + length os) cs in
      cell_more i used (used + length os) c cs (rw are refl)
      (rw (cell_list e i (is i used x xs own b h) low, b, list_back (operands e) used os (all_operands cs) o) (and_both (eqb used used) _ (eqb_refl used) t))
      (others (next i used x xs own b h ∙ ap (λ (k : ℕ). used + k) (arity_list x low)) (after i used x xs own b h) (list_rest (operands e) used os (all_operands cs) o))

  cells_good : (i used : ℕ) (cs : List Cell) → operands_before e i ≡ used → drop i (entries e) ≡ entries_of used cs → drop used (operands e) ≡ all_operands cs
      → i + length cs ≡ (sizes_of e).cells → T (rules_ok (sizes_of e).states (sizes_of e).blocks (sizes_of e).cells i cs) → Good i used cs
  unfolding every numbers_from entries_of rule_ok arity all_operands operands_of
  cells_good i used [] b h o l t =
      let all : (sizes_of e).cells ≡ i = omega arith in
      let same : used ≡ used + 0 = omega arith in
      (tt, ap (operands_before e) all ∙ b ∙ same)
  cells_good i used (And os ∷ cs) b h o l t =
      list_good i used 0 os (And os) cs (omega arith) refl (omega arith) b h o (rule_first _ _ _ i (And os) cs t)
      (λ p q r. cells_good (i + 1) (used + length os) cs p q r (omega arith) (rule_others _ _ _ i (And os) cs t))
  cells_good i used (Or os ∷ cs) b h o l t =
      list_good i used 1 os (Or os) cs (omega arith) refl (omega arith) b h o (rule_first _ _ _ i (Or os) cs t)
      (λ p q r. cells_good (i + 1) (used + length os) cs p q r (omega arith) (rule_others _ _ _ i (Or os) cs t))
  cells_good i used (Variable k s ∷ cs) b h o l t =
      let x : Entry = record { kind = 2; one = k; two = s } in
      let xs = entries_of used cs in
      let own : i < (sizes_of e).cells = omega arith in
      let none : used ≡ used + 0 = omega arith in
      cell_more i used used (Variable k s) cs none
      (rw (cell_variable e i (is i used x xs own b h) refl) (rule_first _ _ _ i (Variable k s) cs t))
      (cells_good (i + 1) used cs (next i used x xs own b h ∙ sym none) (after i used x xs own b h) o (omega arith) (rule_others _ _ _ i (Variable k s) cs t))

  -- so do all cells
  all_good : Good 0 0 y.cells
  all_good =
      cells_good 0 0 y.cells (sym (none_before e)) (back.entries_back y ready) (back.operands_back y ready) (omega (arith, back.cell_count_back y ready))
      (rw (back.states_back y ready, back.block_count_back y ready, back.cell_count_back y ready) ready.rules)

  pub ready_formed : WellFormed e
  unfolding tables_ok
  ready_formed = record {
    layout = layout_ok_lem;
    tables =
        let full : operands_before e (sizes_of e).cells ≡ (sizes_of e).operands = omega (arith, all_good.1, back.operand_count_back y ready) in
        holds _ (and_both (every (block_ok e) (numbers_from 0 (sizes_of e).blocks) && every (cell_ok e) (numbers_from 0 (sizes_of e).cells)) _
        (and_both (every (block_ok e) (numbers_from 0 (sizes_of e).blocks)) _ blocks_ok (rw (back.cell_count_back y ready) all_good.0))
        (rw (eq-eqb _ _ full) tt));
  }
