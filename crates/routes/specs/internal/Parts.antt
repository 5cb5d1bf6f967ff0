-- The parts of a case that direct is handed, and what it needs of them.
use Rattle.std.specs.Prelude.{◌≡◌, true, false, List, ℕ, ◌*◌, ◌<◌, ◌≤◌, length, get_or, take}
use Rattle.sets.specs.Words.{state_limit}
use Rattle.sets.specs.Lists.{every}
use Rattle.solver.specs.File.{block_limit}
use Rattle.cases.specs.File.{label_limit, action_limit, node_limit}
use Rattle.cases.specs.declared.Header.{Header}
use Rattle.cases.specs.declared.Node.{Node}
use Rattle.cases.specs.Conditions.{transition_ok, node_at, is_binder, binder_count, bad_formula, bad_variable}
use Rattle.cases.specs.Prefix.{formula_at}
use Rattle.cases.specs.Case.{Case}
use Rattle.cases.specs.internal.Masks.{WholeActions, action_in}
use Rattle.cases.specs.internal.Checks.{transitions_in, nodes_in, LabelPart, NodesFit}

-- m transitions with their ends below n and their labels below l
pub record Records (part : List ℕ) (m n l : ℕ) : Type 0 where
  pub inside : 6 * m ≤ length part
  pub ok : every (transition_ok n l) (transitions_in part m) ≡ true
  pub few_states : n ≤ state_limit
  pub few_labels : l ≤ label_limit

-- a formula table of f nodes of which conditions 8 and 9 do not hold, with at most six binders
pub record FormulaPart (part : List ℕ) (f actions : ℕ) : Type 0 where
  pub holds : NodesFit node_limit part f
  pub formed : bad_formula actions (nodes_in part f) ≡ false
  pub bound : bad_variable (nodes_in part f) ≡ false
  pub shallow : binder_count (nodes_in part f) ≤ block_limit

-- the case of a header's counts and the parts of a file that start at its tables
unfoldable pub case_in : Header → List ℕ → List ℕ → List ℕ → List ℕ → Case
case_in h labels records actions formula = record {
  states = h.states;
  labels = h.labels;
  initial = h.initial;
  transitions = transitions_in records h.transitions;
  formula = formula_at (action_in h labels actions) (nodes_in formula h.nodes) 0;
}

-- What direct needs of the parts; those of an accepted case have it.
pub record CaseParts (h : Header) (labels records actions formula : List ℕ) : Type 0 where
  pub model : Records records h.transitions h.states h.labels
  pub initial : h.initial < h.states
  pub label_part : LabelPart labels h
  pub action_part : NodesFit action_limit actions h.actions
  pub whole_actions : WholeActions h.labels (nodes_in actions h.actions)
  pub formula_part : FormulaPart formula h.nodes h.actions

-- number i is the block of binder i: the binders before it are counted
pub record BinderBlocks (table : List Node) (blocks : List ℕ) : Type 0 where
  pub block : (i : ℕ) → i < length table → is_binder (node_at table i) ≡ true → get_or blocks i 0 ≡ binder_count (take i table)

-- room for a mask of each action formula, and the blocks of the nodes
pub record Beside (h : Header) (formula masks blocks : List ℕ) : Type 0 where
  pub masks_room : h.actions ≤ length masks
  pub blocks_room : h.nodes ≤ length blocks
  pub numbered : BinderBlocks (nodes_in formula h.nodes) blocks
