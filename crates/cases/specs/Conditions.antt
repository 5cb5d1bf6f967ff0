-- The conditions of a case, in order.
use Rattle.std.specs.Prelude.{◌≡◌, Bool, true, cond, not, ◌&&◌, ◌||◌, List, [], ◌∷◌, ◌++◌, map, ℕ, ◌+◌, eqb, ltb, leb, length, get_or}
use Rattle.sets.specs.Lists.{numbers_from, every, for_some}
use Rattle.sets.specs.Words.{state_limit}
use Rattle.solver.specs.File.{block_limit}
use Rattle.sets.specs.Refusals.{between, Conditions, first_of}
use Rattle.cases.specs.Prefix.{Node, arity_in, action_arities, formula_arities, whole_formulas, exactly, end_of}
use Rattle.cases.specs.File.{Header, header_size, header_of, version, label_limit, name_limit, transition_limit, action_limit, node_limit}
use Rattle.cases.specs.File.{labels_start, transitions_start, actions_start, formula_start, file_end, Label, Transition, label_table, transition_table, action_table, formula_table}
use Rattle.cases.specs.Labels.{record_numbers}

-- 1: fewer bytes than a header of its version has
unfoldable pub too_small : List ℕ → Bool
too_small b = ltb (length b) (header_size (version b))

-- 2: the version is none of those that are taken
unfoldable pub other_version : List ℕ → List ℕ → Bool
other_version taken b = not (for_some (eqb (version b)) taken)

-- the versions that a call which takes a case takes
abbrev pub versions : List ℕ
versions = 1 ∷ 2 ∷ []

-- 3: a count outside its range
unfoldable pub bad_count : Header → Bool
bad_count h = not (every (λ test. test)
    (between 1 state_limit h.states
    ∷ between 0 transition_limit h.transitions
    ∷ between 1 label_limit h.labels
    ∷ between 0 action_limit h.actions
    ∷ between 1 node_limit h.nodes
    ∷ []))

-- 4: an offset differs
unfoldable pub bad_offset : Header → Bool
bad_offset h =
    not (eqb h.labels_at (labels_start h) && eqb h.transitions_at (transitions_start h) && eqb h.actions_at (actions_start h) && eqb h.formula_at (formula_start h))

-- 5: the length differs
unfoldable pub bad_length : List ℕ → Bool
bad_length b = not (eqb (length b) (file_end (header_of b)))

-- 6: the initial state, a source or a target is not below n, or a label not below l
abbrev pub transition_ok : ℕ → ℕ → Transition → Bool
transition_ok n l t = ltb t.source n && ltb t.label l && ltb t.target n

unfoldable pub bad_model : List ℕ → Bool
bad_model b = not (ltb (header_of b).initial (header_of b).states && every (transition_ok (header_of b).states (header_of b).labels) (transition_table b))

-- 15: a label record with a name above the limit, or with a name behind a 0
unfoldable pub padded : List ℕ → Bool
padded [] = true
padded (k ∷ ks) = cond (eqb k 0) (every (λ x. eqb x 0) ks) (padded ks)

abbrev pub label_ok : Label → Bool
label_ok r = every (λ k. leb k name_limit) (record_numbers r) && padded (record_numbers r)

unfoldable pub bad_labels : List ℕ → Bool
bad_labels b = not (every label_ok (label_table b))

-- 7: an action node's kind or argument, or no whole formulas. The argument of a label (2) is a label, of any other kind 0.
abbrev pub action_ok : ℕ → Node → Bool
action_ok l x = leb x.kind 6 && cond (eqb x.kind 2) (ltb x.arg l) (eqb x.arg 0)

unfoldable pub bad_actions : List ℕ → Bool
bad_actions b = not (every (action_ok (header_of b).labels) (action_table b) && whole_formulas 0 (map (arity_in action_arities) (action_table b)))

-- 8: a formula node's kind or argument, or not one whole formula. A box (4) or diamond (5) has an action node, a variable (6) is
-- exempt, and the argument of any other kind is 0. It looks at the formula table and the number of action nodes only.
abbrev pub node_ok : ℕ → Node → Bool
node_ok a x = leb x.kind 8 && cond (eqb x.kind 6) true (cond (eqb x.kind 4 || eqb x.kind 5) (ltb x.arg a) (eqb x.arg 0))

unfoldable pub bad_formula : ℕ → List Node → Bool
bad_formula a table = not (every (node_ok a) table && exactly 1 (map (arity_in formula_arities) table))

-- 9: a variable whose argument is not a mu (7) or nu (8) node with that variable in its subtree
abbrev pub is_binder : Node → Bool
is_binder x = eqb x.kind 7 || eqb x.kind 8

abbrev pub node_at : List Node → ℕ → Node
node_at table i = get_or table i (record { kind = 0; arg = 0 })

unfoldable pub bound_ok : List Node → ℕ → Bool
bound_ok table i =
    let j : ℕ = (node_at table i).arg in
    not (eqb (node_at table i).kind 6) || (is_binder (node_at table j) && ltb j i && ltb i (end_of (map (arity_in formula_arities) table) j))

unfoldable pub bad_variable : List Node → Bool
bad_variable table = not (every (bound_ok table) (numbers_from 0 (length table)))

-- 10: more than six blocks. Blocks are the binders, and one more if the root is none.
unfoldable pub binder_count : List Node → ℕ
binder_count [] = 0
binder_count (x ∷ xs) = cond (is_binder x) 1 0 + binder_count xs

unfoldable pub block_total : List Node → ℕ
block_total table = cond (is_binder (node_at table 0)) 0 1 + binder_count table

unfoldable pub too_deep : List Node → Bool
too_deep table = ltb block_limit (block_total table)

-- Conditions 1 to 5 are of the layout, 6, 15 and 7 of the model, the label records and the action table, 8 to 10 of a formula table by the number of
-- action nodes.
unfoldable pub layout_conditions : List ℕ → Conditions
layout_conditions b =
    (1, too_small b) ∷ (2, other_version versions b) ∷ (3, bad_count (header_of b)) ∷ (4, bad_offset (header_of b)) ∷ (5, bad_length b) ∷ []

unfoldable pub model_conditions : List ℕ → Conditions
model_conditions b = (6, bad_model b) ∷ (15, bad_labels b) ∷ (7, bad_actions b) ∷ []

unfoldable pub formula_conditions : ℕ → List Node → Conditions
formula_conditions a table = (8, bad_formula a table) ∷ (9, bad_variable table) ∷ (10, too_deep table) ∷ []

-- all of them, in the order in which they are looked at
unfoldable pub case_conditions : List ℕ → Conditions
case_conditions b = layout_conditions b ++ (model_conditions b ++ formula_conditions (header_of b).actions (formula_table b))

-- the number of the first condition that holds, or 0
unfoldable pub case_refusal : List ℕ → ℕ
case_refusal b = first_of (case_conditions b)

-- A case is accepted if no condition on its own bytes holds.
abbrev pub Accepted : List ℕ → Type 0
Accepted b = case_refusal b ≡ 0
