-- What the functions that check a case ask and promise.
use Rattle.std.specs.Prelude.{◌≡◌, Bool, false, ◌&&◌, eqb, ltb, List, map, ℕ, ◌+◌, ◌*◌, ◌≤◌, max, length, drop, Option, MatchOption}
use Rattle.sets.specs.Lists.{numbers_from}
use Rattle.sets.specs.Words.{state_limit}
use Rattle.cases.specs.Prefix.{Node, arity_in, formula_arities, exactly, end_of}
use Rattle.cases.specs.Conditions.{is_binder, node_at}
use Rattle.cases.specs.File.{Header, header_size, version, header_of, label_records, labels_start, transitions_start, actions_start, formula_start, file_end, Label, label_in, Transition, transition_in, node_in, label_limit, transition_limit, action_limit, node_limit}

-- the parts of a file that start at its tables
abbrev pub label_part : List ℕ → List ℕ
label_part b = drop (header_of b).labels_at b

abbrev pub transition_part : List ℕ → List ℕ
transition_part b = drop (header_of b).transitions_at b

abbrev pub action_part : List ℕ → List ℕ
action_part b = drop (header_of b).actions_at b

abbrev pub formula_part : List ℕ → List ℕ
formula_part b = drop (header_of b).formula_at b

-- the first label records, transitions, or nodes, of a part
unfoldable pub labels_in : List ℕ → ℕ → List Label
labels_in part k = map (label_in part) (numbers_from 0 k)

unfoldable pub transitions_in : List ℕ → ℕ → List Transition
transitions_in part m = map (transition_in part) (numbers_from 0 m)

unfoldable pub nodes_in : List ℕ → ℕ → List Node
nodes_in part k = map (node_in part) (numbers_from 0 k)

-- The node after the subtree of node i, if the subtree is whole: a table that is that subtree alone from node i on ends there.
abbrev pub WholeSubtree : List ℕ → ℕ → Option ℕ → Type 0
WholeSubtree arities i answer = MatchOption answer
    ((exactly 1 (drop i arities) ≡ false) × (end_of arities i ≡ max i (length arities)))
    (λ end. (exactly 1 (drop i arities) ≡ eqb end (length arities)) × (end_of arities i ≡ end))

-- whether node j of a table is a binder, and node i stands behind it in its subtree
abbrev pub binds : List Node → ℕ → ℕ → Bool
binds table j i = is_binder (node_at table j) && ltb j i && ltb i (end_of (map (arity_in formula_arities) table) j)

-- a part holds k nodes, and they are not more than `limit`
pub record NodesFit (limit : ℕ) (part : List ℕ) (k : ℕ) : Type 0 where
  pub few : k ≤ limit
  pub inside : 4 * k ≤ length part

-- each count is in its range
pub record CountsFit (h : Header) : Type 0 where
  pub some_state : 1 ≤ h.states
  pub few_states : h.states ≤ state_limit
  pub few_transitions : h.transitions ≤ transition_limit
  pub some_label : 1 ≤ h.labels
  pub few_labels : h.labels ≤ label_limit
  pub few_actions : h.actions ≤ action_limit
  pub some_node : 1 ≤ h.nodes
  pub few_nodes : h.nodes ≤ node_limit

-- a part holds the label records of a header with few labels
pub record LabelPart (part : List ℕ) (h : Header) : Type 0 where
  pub few : h.labels ≤ label_limit
  pub inside : 8 * label_records h ≤ length part

-- what holds of a case and its header if none of the conditions of its layout does, but for the version
pub record Laid (b : List ℕ) (h : Header) : Type 0 where
  pub read : h ≡ header_of b
  pub header : header_size (version b) ≤ length b
  pub counts : CountsFit h
  pub labels : h.labels_at ≡ labels_start h
  pub transitions : h.transitions_at ≡ transitions_start h
  pub actions : h.actions_at ≡ actions_start h
  pub formula : h.formula_at ≡ formula_start h
  pub ends : length b ≡ file_end h

-- how many bytes the header has that all versions have, and how many the longest one has; the code's HEADER and LONGEST_HEADER
abbrev pub common_header : ℕ
common_header = 20

abbrev pub longest_header : ℕ
longest_header = 22

-- the length of the largest case, the code's LARGEST
abbrev pub largest_case : ℕ
largest_case = longest_header + 8 * label_limit + 6 * transition_limit + 4 * action_limit + 4 * node_limit
