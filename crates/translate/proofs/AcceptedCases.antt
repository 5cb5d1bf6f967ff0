-- An accepted case is within the limits of its equations, and each of its variables is bound.
use mathlib.Core.Path.{◌≡◌, refl, ap, ◌∙◌}
use mathlib.Core.Bool.{Bool, true, false, cond, ◌||◌}
use mathlib.Core.List.{List, map}
use Prim.Native.Nat.{ℕ, ◌+◌, ◌≤◌, ◌<◌}
use native.Mathlib.Omega.{arith}
use borrow.Author.Tests.{ltb-false}
use lib.Dec.{eqb}
use lib.ListN.{length, length-map, length-append}
use Rattle.sets.proofs.Lists.{length_table}
use Rattle.cases.specs.Action.{Action}
use Rattle.cases.specs.Formula.{Formula, False, True, And, Or, Box, Diamond, Variable, Fix, nodes}
use Rattle.cases.specs.internal.Scope.{binders}
use Rattle.cases.specs.declared.Node.{Node}
use Rattle.cases.specs.Prefix.{arity_in, formula_arities, formula_at}
use Rattle.cases.specs.File.{header_of, formula_table, node_in}
use Rattle.cases.specs.internal.Checks.{formula_part}
use Rattle.cases.specs.Case.{case_action, case_of}
use Rattle.cases.specs.Conditions.{node_at, is_binder, block_total, too_deep, Accepted}
use Rattle.cases.specs.internal.Tables.{made, formula_operator, FormulaTable}
use Rattle.cases.proofs.Spans.{span_length}
use Rattle.cases.proofs.TableTrees.{each_kind, formula_table_lem, formula_at_lem, root}
use Rattle.cases.proofs.Counting.{nodes_span, binders_all}
use Rattle.cases.proofs.Scopes.{Bound, variable_bound, formula_scoped}
use Rattle.cases.proofs.Accepting.{Passed, passed}
use Rattle.cases.proofs.Tallies.{model_holds, length_transitions}
use Rattle.translate.specs.Whole.{raise, binds_first, whole, binder_nodes}
use Rattle.translate.proofs.Equations.{raised}
use Rattle.translate.proofs.Closing.{closed_whole}
use Rattle.translate.proofs.CaseFile.{Fit}

-- how long the formula table is
pub length_formula : (b : List ℕ) → length (formula_table b) ≡ (header_of b).nodes
unfolding formula_table
length_formula b = length_table (node_in (formula_part b)) (header_of b).nodes

-- ---- the formula

-- the list of binders is as long as there are binders
length_binders : (a : Formula) → length (binder_nodes a) ≡ binders a
unfolding binder_nodes binders
length_binders False = refl
length_binders True = refl
length_binders (And a b) = simp length-append (omega (arith, length_binders a, length_binders b))
length_binders (Or a b) = simp length-append (omega (arith, length_binders a, length_binders b))
length_binders (Box α a) = length_binders a
length_binders (Diamond α a) = length_binders a
length_binders (Variable i) = refl
length_binders (Fix sign i a) = omega (arith, length_binders a)

-- the formula that is translated has one binder more if its root was none
binders_whole : (a : Formula) → length (binder_nodes (whole a)) ≡ cond (binds_first a) 0 1 + binders a
unfolding whole binder_nodes
binders_whole a = go (binds_first a)
  where
    go : (r : Bool) → length (binder_nodes (cond r a (Fix true 0 (raise a)))) ≡ cond r 0 1 + binders a
    go true = omega (arith, length_binders a)
    go false = omega (arith, length_binders a, ap length (raised a), length-map (binder_nodes a) (λ i. i + 1))

-- what a node of kind k makes is a binder if the kind is one
binds_made : (action : ℕ → Action) (i arg : ℕ) (f g : Formula) (k : ℕ) → k ≤ 8
    → binds_first (made (formula_operator action i arg k) f g) ≡ (eqb k 7 || eqb k 8)
unfolding binds_first
binds_made action i arg f g =
    each_kind (λ k. binds_first (made (formula_operator action i arg k) f g) ≡ (eqb k 7 || eqb k 8))
    refl refl refl refl refl refl refl refl refl

module _ (action : ℕ → Action) (t : List Node) (table : FormulaTable t) where
  -- the root is a binder in the table if it is one in the formula
  binds_root : binds_first (formula_at action t 0) ≡ is_binder (node_at t 0)
  binds_root =
      ap binds_first (formula_at_lem action t table 0 (node_at t 0).kind (root t table) refl)
      ∙ binds_made action 0 (node_at t 0).arg _ _ (node_at t 0).kind (table.kinds 0 (root t table))

  -- the table's blocks are the binders of the formula that is translated
  pub blocks_all : length (binder_nodes (whole (formula_at action t 0))) ≡ block_total t
  unfolding block_total
  blocks_all =
      binders_whole (formula_at action t 0)
      ∙ rw (binds_root, binders_all action t table)

  -- the formula has no more nodes than the table
  pub nodes_table : nodes (formula_at action t 0) ≤ length t
  nodes_table =
      omega (
        arith,
        nodes_span action t table 0 (root t table),
        span_length 1 (map (arity_in formula_arities) t),
        length-map t (arity_in formula_arities),
      )

-- ---- the case

-- An accepted case has what its equations need.
pub fit : (b : List ℕ) → Accepted b → Fit (case_of b)
unfolding case_of too_deep
fit b ok =
    let p : Passed b = passed b ok in
    let t : List Node = formula_table b in
    let action : ℕ → Action = case_action b in
    let table : FormulaTable t = formula_table_lem (header_of b).actions t p.formula in
    let model = model_holds b p.model in
    record {
      states_low = p.lies.counts.some_state;
      states_high = p.lies.counts.few_states;
      initial_low = model.0;
      transitions_ok = model.1;
      transitions_high = omega (arith, p.lies.counts.few_transitions, length_transitions b);
      nodes_high = omega (arith, p.lies.counts.few_nodes, nodes_table action t table, length_formula b);
      binders_high = rw (blocks_all action t table) (ltb-false _ _ p.depth);
      scoped = closed_whole _ (formula_scoped action t table p.variables);
    }

-- Each variable of an accepted case has an earlier node as its argument, and that is a binder with the variable in its subtree.
pub variables_known : (b : List ℕ) → Accepted b → (i : ℕ) → i < length (formula_table b) → (node_at (formula_table b) i).kind ≡ 6
    → Bound (formula_table b) i
variables_known b ok = variable_bound (formula_table b) (passed b ok).variables
