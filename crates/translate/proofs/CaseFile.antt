-- The equation file of a case within the limits: it gives the case's equations back, its counts are in range, and it is well formed.
use mathlib.Core.Path.{◌≡◌, sym, subst}
use mathlib.Core.Bool.{true, ◌&&◌}
use mathlib.Core.List.{List}
use Prim.Native.Nat.{ℕ, ◌+◌, ◌*◌, ◌≤◌, ◌<◌}
use native.Mathlib.Omega.{arith}
use native.Mathlib.Nat.{mul-le-mul}
use lib.Dec.{T, eqb, ltb}
use lib.ListN.{length}
use Rattle.sets.specs.Lists.{every, for_some}
use Rattle.sets.specs.Words.{state_limit}
use Rattle.sets.proofs.Lists.{and_right, all_mono}
use Rattle.solver.specs.File.{sizes_of, blocks, operands, cells, block_limit, cell_limit, operand_limit, blocks_at}
use Rattle.solver.specs.Conditions.{WellFormed}
use Rattle.cases.specs.File.{transition_limit, node_limit}
use Rattle.cases.specs.Formula.{Formula, nodes}
use Rattle.cases.specs.Case.{Case, distinct}
use Rattle.cases.specs.Conditions.{transition_ok}
use Rattle.cases.specs.declared.Transition.{Transition}
use Rattle.cases.proofs.Distinct.{length_distinct}
use Rattle.translate.specs.Whole.{whole, binder_nodes, block_in}
use Rattle.translate.specs.Bytes.{system_of, all_operands, file_of}
use Rattle.translate.proofs.AllLaws.{all_distinct, among_all}
use Rattle.translate.proofs.Counts as counts
use Rattle.translate.proofs.Unfold.{cells_long}
use Rattle.translate.proofs.Rules.{closed, place_below, rules_ok, cells_rule, blocks_roomy}
use Rattle.translate.proofs.ReadBack as back
use Rattle.translate.proofs.ReadBack.{Ready}
use Rattle.translate.proofs.Formed.{ready_formed}

-- What the equations need of a case: its counts and numbers are in range, and each variable has a binder.
pub record Fit (c : Case) : Type 0 where
  pub states_low : 1 ≤ c.states
  pub states_high : c.states ≤ state_limit
  pub initial_low : c.initial < c.states
  pub transitions_ok : every (transition_ok c.states c.labels) c.transitions ≡ true
  pub transitions_high : length c.transitions ≤ transition_limit
  pub nodes_high : nodes c.formula ≤ node_limit
  pub binders_high : length (binder_nodes (whole c.formula)) ≤ block_limit
  pub scoped : closed (binder_nodes (whole c.formula)) (whole c.formula) ≡ true

module _ (c : Case) (fit : Fit c) where
  abbrev n : ℕ
  n = c.states

  -- the formula that is translated, and the distinct transitions
  abbrev a : Formula
  a = whole c.formula

  abbrev ts : List Transition
  ts = distinct c.transitions

  -- How many blocks, cells and operands there are.
  pub length_blocks : length (system_of c).blocks ≡ length (binder_nodes a)
  unfolding system_of
  length_blocks = counts.length_blocks n a 0

  pub length_cells : length (system_of c).cells ≡ nodes a * n
  unfolding system_of
  length_cells = cells_long n ts (block_in a) a 0

  pub nodes_high : nodes a ≤ node_limit + 1
  nodes_high = omega (arith, counts.nodes_whole c.formula, fit.nodes_high)

  pub cells_high : length (system_of c).cells ≤ cell_limit
  cells_high = omega (arith, length_cells, mul-le-mul nodes_high fit.states_high)

  pub operands_few : length (all_operands (system_of c).cells) ≤ nodes a * transition_limit
  unfolding system_of
  operands_few =
      let n_high : 2 * n ≤ transition_limit = omega (arith, fit.states_high) in
      let few : length ts ≤ transition_limit = omega (arith, length_distinct c.transitions, fit.transitions_high) in
      counts.length_operands n ts (block_in a) n_high few a 0

  pub operands_high : length (all_operands (system_of c).cells) ≤ operand_limit
  operands_high = omega (arith, nodes_high, operands_few)

  -- the targets of the distinct transitions are states
  pub ends : T (every (λ t. ltb t.target n) ts)
  ends =
      all_distinct (λ t. ltb t.target n) c.transitions
      (all_mono (transition_ok n c.labels) (λ t. ltb t.target n)
      (λ t h. and_right (ltb t.source n && ltb t.label c.labels) (ltb t.target n) h)
      c.transitions (subst T (sym fit.transitions_ok) tt))

  -- each binder has a block
  bound : (j : ℕ) → T (for_some (eqb j) (binder_nodes a)) → block_in a j < length (binder_nodes a)
  unfolding block_in
  bound j t = place_below j (binder_nodes a) t

  -- the cells keep their rules
  rules : T (rules_ok n (length (system_of c).blocks) (length (system_of c).cells) 0 (system_of c).cells)
  unfolding system_of
  rules =
      let kept = cells_rule n (nodes a) (length (binder_nodes a)) ts (block_in a) (binder_nodes a) ends bound a 0 (omega arith)
      (subst T (sym fit.scoped) tt) (among_all (binder_nodes a)) in
      let start : 0 * n ≡ 0 = omega arith in
      rw (length_blocks, length_cells) (rw start at kept)

  -- the equations are ready to be written
  pub ready : Ready (system_of c)
  unfolding system_of
  ready = record {
    states_low = fit.states_low;
    states_high = fit.states_high;
    initial_low = fit.initial_low;
    blocks_low = omega (arith, length_blocks, counts.binders_whole c.formula);
    blocks_high = omega (arith, length_blocks, fit.binders_high);
    cells_low = omega (arith, length_cells, mul-le-mul (counts.nodes_low a) fit.states_low);
    cells_high = cells_high;
    operands_high = operands_high;
    roomy_blocks = rw length_cells (blocks_roomy n (nodes a) a 0 (omega arith));
    rules = rules;
  }

  -- The file gives the equations back.
  pub states_back : (sizes_of (file_of c)).states ≡ c.states
  unfolding file_of system_of
  states_back = back.states_back (system_of c) ready

  pub initial_back : (sizes_of (file_of c)).initial ≡ c.initial
  unfolding file_of system_of
  initial_back = back.initial_back (system_of c) ready

  pub block_count_back : (sizes_of (file_of c)).blocks ≡ length (system_of c).blocks
  unfolding file_of
  block_count_back = back.block_count_back (system_of c) ready

  pub cell_count_back : (sizes_of (file_of c)).cells ≡ length (system_of c).cells
  unfolding file_of
  cell_count_back = back.cell_count_back (system_of c) ready

  pub operand_count_back : (sizes_of (file_of c)).operands ≡ length (all_operands (system_of c).cells)
  unfolding file_of
  operand_count_back = back.operand_count_back (system_of c) ready

  pub blocks_back : blocks (file_of c) ≡ (system_of c).blocks
  unfolding file_of
  blocks_back = back.blocks_back (system_of c) ready

  pub operands_back : operands (file_of c) ≡ all_operands (system_of c).cells
  unfolding file_of
  operands_back = back.operands_back (system_of c) ready

  pub cells_back : cells (file_of c) ≡ (system_of c).cells
  unfolding file_of
  cells_back = back.cells_are_back (system_of c) ready

  -- its length
  pub length_file : length (file_of c)
      ≡ blocks_at + 8 * length (system_of c).blocks + 12 * length (system_of c).cells + 4 * length (all_operands (system_of c).cells)
  unfolding file_of
  length_file = back.length_file (system_of c)

  -- neither of the conditions 11 and 12 holds
  pub formed : WellFormed (file_of c)
  unfolding file_of
  formed = ready_formed (system_of c) ready
