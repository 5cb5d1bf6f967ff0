-- Conditions 6, 15 and 7: what the tests of the code come to; and the parts of a case that can be read.
use mathlib.Core.Path.{◌≡◌, refl}
use mathlib.Core.Bool.{Bool, true, false, not}
use mathlib.Core.List.{List, map}
use Prim.Native.Nat.{ℕ, ◌*◌, ◌≤◌, ◌<◌}
use native.Mathlib.Omega.{arith}
use borrow.Author.Tests.{le-ltb, lt-ltb}
use lib.ListN.{length, drop, length-drop}
use Rattle.sets.specs.Lists.{every}
use Rattle.cases.specs.Prefix.{arity_in, action_arities, whole_formulas}
use Rattle.cases.specs.File.{Header, header_of, label_records, label_table, transition_table, action_table, formula_table, action_limit, node_limit}
use Rattle.cases.specs.Conditions.{bad_model, bad_labels, bad_actions, transition_ok, label_ok, action_ok}
use Rattle.cases.specs.internal.Checks.{label_part, transition_part, action_part, formula_part, labels_in, transitions_in, nodes_in, LabelPart, NodesFit, Laid}

module _ {b : List ℕ} {h : Header} (l : Laid b h) where
  -- ---- the tables of a case are read from its parts

  module _ {part : List ℕ} {k : ℕ} where
    pub labels_read : part ≡ label_part b → k ≡ label_records h → labels_in part k ≡ label_table b
    unfolding label_table labels_in
    labels_read p e = rw (p, e, l.read) refl

    pub transitions_read : part ≡ transition_part b → k ≡ h.transitions → transitions_in part k ≡ transition_table b
    unfolding transition_table transitions_in
    transitions_read p e = rw (p, e, l.read) refl

    pub actions_read : part ≡ action_part b → k ≡ h.actions → nodes_in part k ≡ action_table b
    unfolding action_table nodes_in
    actions_read p e = rw (p, e, l.read) refl

    pub formula_read : part ≡ formula_part b → k ≡ h.nodes → nodes_in part k ≡ formula_table b
    unfolding formula_table nodes_in
    formula_read p e = rw (p, e, l.read) refl

  -- ---- 6

  -- the initial state is no state
  pub initial_fails : h.states ≤ h.initial → true ≡ bad_model b
  unfolding bad_model
  initial_fails g = simp (le-ltb (header_of b).initial (header_of b).states (rw l.read at g))

  -- it is one: the transitions decide
  pub transitions_decide : h.initial < h.states → (r : Bool) → r ≡ every (transition_ok h.states h.labels) (transition_table b) → not r ≡ bad_model b
  unfolding bad_model
  transitions_decide g r e = simp (lt-ltb (header_of b).initial (header_of b).states (rw l.read at g), e, l.read)

  -- ---- 15

  pub labels_decide : (k : ℕ) → k ≡ label_records h → (r : Bool) → r ≡ every label_ok (labels_in (drop h.labels_at b) k) → not r ≡ bad_labels b
  unfolding bad_labels label_table labels_in
  labels_decide k is r e = simp (e, is, l.read)

  -- ---- 7

  -- a node's kind or argument is wrong
  pub actions_fail : every (action_ok h.labels) (action_table b) ≡ false → true ≡ bad_actions b
  unfolding bad_actions
  actions_fail e = simp (rw l.read at e)

  -- none is: whether there are whole formulas decides
  pub whole_decides :
      every (action_ok h.labels) (action_table b) ≡ true
      → (r : Bool) → r ≡ whole_formulas 0 (map (arity_in action_arities) (action_table b)) → not r ≡ bad_actions b
  unfolding bad_actions
  whole_decides e r w = simp (rw l.read at e, w)

  -- ---- the parts hold their tables

  pub labels_inside : LabelPart (drop h.labels_at b) h
  labels_inside = record { few = l.counts.few_labels; inside = simp length-drop (omega arith) }

  pub transitions_inside : 6 * h.transitions ≤ length (drop h.transitions_at b)
  transitions_inside = simp length-drop (omega arith)

  pub actions_inside : NodesFit action_limit (drop h.actions_at b) h.actions
  actions_inside = record { few = l.counts.few_actions; inside = simp length-drop (omega arith) }

  pub nodes_inside : NodesFit node_limit (drop h.formula_at b) h.nodes
  nodes_inside = record { few = l.counts.few_nodes; inside = simp length-drop (omega arith) }
