-- The tables, shapes and flags of an accepted case are those that the writers ask, and the equations of the shapes are the case's.
use mathlib.Core.Path.{◌≡◌, refl, sym, ap, ◌∙◌}
use mathlib.Core.Bool.{Bool, true, false, cond, ◌&&◌, ◌||◌}
use mathlib.Core.List.{List, ◌∷◌, map}
use Prim.Native.Nat.{ℕ, zero, suc, ◌+◌, ◌*◌, ◌≤◌, ◌<◌}
use native.Mathlib.Omega.{arith}
use borrow.Author.Tests.{not-false}
use lib.Dec.{T, eqb, ltb, ltb→lt, lt→ltb}
use lib.ListN.{length, get_or, take, length-map}
use Rattle.sets.specs.Lists.{numbers_from, every}
use Rattle.sets.proofs.Lists.{false_true, and_left, and_right, all_at, all_mono, length_table, table_at}
use Rattle.cases.specs.Action.{Action}
use Rattle.cases.specs.Formula.{Formula}
use Rattle.cases.specs.declared.Node.{Node}
use Rattle.cases.specs.declared.Transition.{Transition}
use Rattle.cases.specs.Prefix.{arity_in, formula_arities, exactly, formula_at}
use Rattle.cases.proofs.PrefixRules.{node_in_lem}
use Rattle.cases.specs.File.{node_in, header_of, label_limit, transition_limit, node_limit, transition_table, formula_table}
use Rattle.cases.specs.Case.{case_action, case_of, distinct}
use Rattle.cases.specs.Conditions.{transition_ok, node_at, node_ok, is_binder, bad_formula, Accepted}
use Rattle.cases.specs.internal.Checks.{transitions_in, nodes_in, transition_part, formula_part}
use Rattle.cases.specs.internal.Links.{FirstFlags}
use Rattle.cases.specs.internal.Tables.{FormulaTable}
use Rattle.cases.proofs.Spans.{exactly_whole, second_node}
use Rattle.cases.proofs.Trees.{arity_at}
use Rattle.cases.proofs.TableTrees.{held, each_kind, formula_table_lem}
use Rattle.cases.proofs.ModelRules.{transitions_inside}
use Rattle.translate.specs.declared.Shape.{Shape}
use Rattle.translate.specs.Whole.{whole, block_in}
use Rattle.translate.specs.Bytes.{System, system_of, all_operands}
use Rattle.translate.specs.internal.Writing.{second_of}
use Rattle.translate.specs.internal.Shapes.{shape_at, shapes_from, shape_by, shape_in, table_shapes}
use Rattle.translate.specs.internal.Parts.{distinct_in}
use Rattle.translate.specs.internal.Sources.{shape_system, Sources}
use Rattle.translate.specs.internal.Readable.{Readable}
use Rattle.translate.specs.internal.Tabled.{HoldsShapes}
use Rattle.translate.proofs.AllLaws.{all_distinct}
use Rattle.cases.proofs.FirstAppearances.{flagged_distinct}
use Rattle.translate.proofs.ShapeFields.{added_small}
use Rattle.translate.proofs.TableShapes.{shape_blocks_lem, shape_cells_lem, table_shapes_lem}
use Rattle.translate.proofs.ShapeLaws.{shape_cell_lem}
use Rattle.translate.proofs.CaseFile.{operands_high}
use Rattle.cases.proofs.Accepting.{Passed, passed}
use Rattle.cases.proofs.Tallies.{model_holds}
use Rattle.translate.proofs.AcceptedCases.{length_formula, variables_known, fit}

-- ---- the tables

-- the argument of a box or diamond that passes condition 8 is an action node
modal_inside : (a arg k : ℕ) → k ≤ 8 → (eqb k 4 || eqb k 5) ≡ true → T (node_ok a (record { kind = k; arg = arg })) → arg < a
modal_inside a arg =
    each_kind (λ k. (eqb k 4 || eqb k 5) ≡ true → T (node_ok a (record { kind = k; arg = arg })) → arg < a)
    none none none none (λ e t. ltb→lt arg a t) (λ e t. ltb→lt arg a t) none none none
  where
    none : {P : Type 0} → false ≡ true → P → arg < a
    none e t = absurd (false_true e)

-- a node of a table that passes condition 8
pub nodes_pass : (a : ℕ) (t : List Node) → bad_formula a t ≡ false → (i : ℕ) → i < length t → T (node_ok a (node_at t i))
unfolding bad_formula
nodes_pass a t e i h =
    let oks : Bool = every (node_ok a) t in
    let fits : Bool = exactly 1 (map (arity_in formula_arities) t) in
    all_at (node_ok a) t i (record { kind = 0; arg = 0 }) h (and_left oks fits (held (oks && fits) (not-false (oks && fits) e)))

-- as many shapes as nodes, and one more where a nu is put before the root
pub length_table_shapes : (action : ℕ → Action) (t : List Node) → length (table_shapes action t) ≡ cond (is_binder (node_at t 0)) 0 1 + length t
unfolding table_shapes
length_table_shapes action t = go (is_binder (node_at t 0))
  where
    go : (r : Bool) → length (cond r (map (shape_in action t 0) (numbers_from 0 (length t)))
        (Shape.Nu 0 ∷ map (shape_in action t 1) (numbers_from 0 (length t)))) ≡ cond r 0 1 + length t
    go true = omega (arith, length_table (shape_in action t 0) (length t))
    go false = omega (arith, length_table (shape_in action t 1) (length t))

-- a second operand is within the limit: only the kinds with two operands, and and or, have one
second_small : (next labels bound own k : ℕ) → k ≤ 8 → (get_or formula_arities k 0 ≡ 2 → next ≤ node_limit) → second_of (shape_by next labels bound own k) ≤ node_limit
second_small next labels bound own =
    each_kind (λ k. (get_or formula_arities k 0 ≡ 2 → next ≤ node_limit) → second_of (shape_by next labels bound own k) ≤ node_limit)
    (λ h. omega arith) (λ h. omega arith) (λ h. h refl) (λ h. h refl) (λ h. omega arith) (λ h. omega arith) (λ h. omega arith)
    (λ h. omega arith) (λ h. omega arith)

module _ (action : ℕ → Action) (t : List Node) (table : FormulaTable t) (few : length t ≤ node_limit) where
  -- the second operand of a node
  shape_fine : (added : ℕ) → added ≤ 1 → (i : ℕ) → i < length t → second_of (shape_in action t added i) ≤ node_limit
  unfolding shape_in
  shape_fine added l i h =
      let ks : List ℕ = map (arity_in formula_arities) t in
      let long : length ks ≡ length t = length-map t (arity_in formula_arities) in
      let inside : i < length ks = omega arith in
      second_small _ _ _ _ (node_at t i).kind (table.kinds i h)
      (λ two. omega (arith, second_node 1 ks (exactly_whole 1 ks table.whole) i inside (arity_at formula_arities t i h ∙ two)))

  -- and of every node, with the nu that is put before the root
  shapes_fine : (i : ℕ) → i < length (table_shapes action t) → second_of (shape_at (table_shapes action t) i) ≤ node_limit
  unfolding table_shapes
  shapes_fine = go (is_binder (node_at t 0))
    where
      rows : ℕ → List Shape
      rows added = map (shape_in action t added) (numbers_from 0 (length t))

      row_fine : (added : ℕ) → added ≤ 1 → (i : ℕ) → i < length (rows added) → second_of (shape_at (rows added) i) ≤ node_limit
      row_fine added l i h =
          let inside : i < length t = omega (arith, length_table (shape_in action t added) (length t)) in
          rw (table_at (shape_in action t added) (length t) i _ inside) (shape_fine added l i inside)

      go : (r : Bool) (i : ℕ) → i < length (cond r (rows 0) (Shape.Nu 0 ∷ rows 1))
          → second_of (shape_at (cond r (rows 0) (Shape.Nu 0 ∷ rows 1)) i) ≤ node_limit
      go true i h = row_fine 0 (omega arith) i h
      go false zero h = omega arith
      go false (suc i) h = row_fine 1 (omega arith) i (omega arith)

module _ (b : List ℕ) (accepted : Accepted b) where
  -- what the conditions give
  abbrev good : Passed b
  good = passed b accepted

  -- the case's formula table
  abbrev table : List Node
  table = formula_table b

  formed : FormulaTable table
  formed = formula_table_lem (header_of b).actions table good.formula

  -- an accepted case has a formula table that can be read, where there is a mask for each of its action nodes
  pub readable : (i : ℕ) → i < (header_of b).nodes → Readable (header_of b).actions (header_of b).nodes (node_in (formula_part b) i)
  unfolding formula_table nodes_in
  readable i h =
      let inside : i < length table = omega (arith, length_formula b) in
      let known : Readable (header_of b).actions (header_of b).nodes (node_at table i) = (
        formed.kinds i inside,
        λ k. omega (arith, (variables_known b accepted i inside k).before, length_formula b),
        λ m. modal_inside (header_of b).actions (node_at table i).arg (node_at table i).kind (formed.kinds i inside) m
            (nodes_pass (header_of b).actions table good.formula i inside),
      ) in
      rw (node_in_lem (formula_part b) (header_of b).nodes i (record { kind = 0; arg = 0 }) h) at known

  -- its parts and counts are within their limits
  pub parts : (6 * (header_of b).transitions ≤ length (transition_part b)) × ((header_of b).transitions ≤ transition_limit) × (1 ≤ (header_of b).nodes)
      × ((header_of b).transitions_at ≤ length b) × ((header_of b).actions_at ≤ length b) × ((header_of b).formula_at ≤ length b) × ((header_of b).labels_at ≤ length b)
  parts =
      let l = good.lies in
      let c = l.counts in (
        transitions_inside l,
        c.few_transitions,
        c.some_node,
        omega (arith, l.ends, l.transitions),
        omega (arith, l.ends, l.actions),
        omega (arith, l.ends, l.formula),
        omega (arith, l.ends, l.labels),
      )

  -- ---- the equations

  -- the action formulas, the formula that is translated, and the distinct transitions
  abbrev action : ℕ → Action
  action = case_action b

  abbrev formula : Formula
  formula = whole (formula_at action table 0)

  abbrev transitions : List Transition
  transitions = distinct (transition_table b)

  -- each label of a distinct transition has a bit in a mask
  labels_low : T (every (λ t. ltb t.label label_limit) transitions)
  labels_low =
      let n : ℕ = (header_of b).states in
      let l : ℕ = (header_of b).labels in
      all_distinct (λ t. ltb t.label label_limit) (transition_table b)
      (all_mono (transition_ok n l) (λ t. ltb t.label label_limit)
      (λ t h.
      let two : T (ltb t.source n && ltb t.label l) = and_left (ltb t.source n && ltb t.label l) (ltb t.target n) h in
      let low : t.label < l = ltb→lt t.label l (and_right (ltb t.source n) (ltb t.label l) two) in
      lt→ltb t.label label_limit (omega (arith, good.lies.counts.few_labels)))
      (transition_table b) (held (every (transition_ok n l) (transition_table b)) (model_holds b good.model).1))

  -- the shapes of the table are those of the formula that is translated
  shapes_of_table : shapes_from (block_in formula) formula 0 ≡ table_shapes action table
  shapes_of_table =
      table_shapes_lem action table formed
      (λ i h k.
      let known = variables_known b accepted i h k in
      (omega (arith, known.before), known.binder))

  -- the equations of the formula's shapes are the case's
  system_of_shapes : shape_system (header_of b).states (header_of b).initial transitions (shapes_from (block_in formula) formula 0) ≡ system_of (case_of b)
  unfolding shape_system system_of case_of
  system_of_shapes =
      let n : ℕ = (header_of b).states in
      rw (
        shape_blocks_lem n (block_in formula) formula 0,
        shape_cells_lem n transitions (block_in formula) (shape_cell_lem n transitions labels_low (block_in formula)) formula 0,
      )

  -- flags and shapes that were read from the tables
  module _ (first : List Bool) (shapes : List Shape) (k : ℕ) (flags : FirstFlags (transition_part b) (header_of b).transitions first)
      (holds_shapes : HoldsShapes action (formula_part b) (header_of b).nodes shapes)
      (count : k ≡ cond (is_binder (node_at (nodes_in (formula_part b) (header_of b).nodes) 0)) 0 1 + (header_of b).nodes) where
    -- the flagged transitions are the distinct ones
    transitions_same : distinct_in (transition_part b) first (header_of b).transitions ≡ transitions
    unfolding distinct_in transition_table transitions_in
    transitions_same = flagged_distinct (transition_part b) (header_of b).transitions first flags

    -- there are k shapes
    shape_count : k ≡ length (table_shapes action table)
    unfolding formula_table nodes_in
    shape_count = count ∙ sym (length_table_shapes action table ∙ rw (length_formula b))

    -- and the array starts with them
    shapes_taken : take k shapes ≡ table_shapes action table
    unfolding formula_table nodes_in
    shapes_taken = rw shape_count holds_shapes.starts

    -- The equations of the shapes are the case's.
    pub system_of_lem : shape_system (header_of b).states (header_of b).initial (distinct_in (transition_part b) first (header_of b).transitions) (take k shapes) ≡ system_of (case_of b)
    system_of_lem = rw (transitions_same, shapes_taken, ← shapes_of_table) system_of_shapes

    -- The writers are handed what they ask.
    pub sources : Sources (transition_part b) first (header_of b).transitions (take k shapes) (header_of b).states
    unfolding shape_system
    sources =
        let l = good.lies in
        let few : length table ≤ node_limit = omega (arith, length_formula b, l.counts.few_nodes) in
        let all : length (take k shapes) ≤ node_limit + 1 = omega (arith, ap length shapes_taken, shape_count, count, l.counts.few_nodes, added_small (is_binder (node_at (nodes_in (formula_part b) (header_of b).nodes) 0)) refl) in
        let operands = ap (λ (y : System). length (all_operands y.cells)) system_of_lem in
        record {
          few_transitions = parts.1;
          few_nodes = all;
          few_states = l.counts.few_states;
          second = rw shapes_taken (shapes_fine action table formed few);
          few_operands = omega (arith, operands, operands_high (case_of b) (fit b accepted));
        }
