-- The case file: the header's numbers and the tables of any list of bytes, and how large it may be.
use Rattle.std.specs.Prelude.{Bool, cond, List, [], ◌∷◌, map, ℕ, ◌+◌, ◌*◌, eqb, get_or, take, drop}
use Rattle.sets.specs.Lists.{numbers_from}
use Rattle.cases.specs.Prefix.{Node}
pub use Rattle.cases.specs.declared.Header.{Header}
pub use Rattle.cases.specs.declared.Label.{Label}
pub use Rattle.cases.specs.declared.Transition.{Transition}

-- the 16-bit number at a place, low byte first
unfoldable pub u16 : List ℕ → ℕ → ℕ
u16 b at = get_or b at 0 + 256 * get_or b (at + 1) 0

-- The first number is the version. Here, in `header_of`, and in `head_for` of the crate records alone it is said at which byte a number of the header stands.
abbrev pub version : List ℕ → ℕ
version b = u16 b 0

-- Version 2 has label records, version 1 has none.
abbrev pub has_label_table : ℕ → Bool
has_label_table v = eqb v 2

-- How many bytes the header has, by the version: ten numbers, and one more where there are label records.
unfoldable pub header_size : ℕ → ℕ
header_size v = cond (has_label_table v) 22 20

-- The other numbers: states, transitions, labels, initial state, action nodes, formula nodes, and the offsets of the tables. That of the label
-- records is the last number; without such records it is taken to be the header's end. The code's names with a `_` stand in « ».
abbrev pub header_of : List ℕ → Header
header_of b = record {
  version = version b;
  states = u16 b 2;
  transitions = u16 b 4;
  labels = u16 b 6;
  initial = u16 b 8;
  actions = u16 b 10;
  nodes = u16 b 12;
  transitions_at = u16 b 14;
  actions_at = u16 b 16;
  formula_at = u16 b 18;
  labels_at = cond (has_label_table (version b)) (u16 b 20) (header_size (version b));
}

-- how many label records there are: one for each label, or none
unfoldable pub label_records : Header → ℕ
label_records h = cond (has_label_table h.version) h.labels 0

-- Where the tables have to stand by a header's version and counts: without gaps, a label record has 8 bytes, a transition 6 and a node 4.
abbrev pub labels_start : Header → ℕ
labels_start h = header_size h.version

abbrev pub transitions_start : Header → ℕ
transitions_start h = labels_start h + 8 * label_records h

abbrev pub actions_start : Header → ℕ
actions_start h = transitions_start h + 6 * h.transitions

abbrev pub formula_start : Header → ℕ
formula_start h = actions_start h + 4 * h.actions

abbrev pub file_end : Header → ℕ
file_end h = formula_start h + 4 * h.nodes

-- The case that bytes start with: as many of them as its header's version and counts say, or all there are.
unfoldable pub case_within : List ℕ → List ℕ
case_within b = take (file_end (header_of b)) b

-- In a part of the file that starts with them: a label record is four numbers,
abbrev pub label_in : List ℕ → ℕ → Label
label_in part j = record { names = u16 part (8 * j) ∷ u16 part (8 * j + 2) ∷ u16 part (8 * j + 4) ∷ u16 part (8 * j + 6) ∷ [] }

-- a transition is source, label, target,
abbrev pub transition_in : List ℕ → ℕ → Transition
transition_in part i = record { source = u16 part (6 * i); label = u16 part (6 * i + 2); target = u16 part (6 * i + 4) }

-- and a node is kind, argument.
abbrev pub node_in : List ℕ → ℕ → Node
node_in part i = record { kind = u16 part (4 * i); arg = u16 part (4 * i + 2) }

-- Each table is read from the part of the file that starts at its offset.
unfoldable pub label_table : List ℕ → List Label
label_table b = map (label_in (drop (header_of b).labels_at b)) (numbers_from 0 (label_records (header_of b)))

unfoldable pub transition_table : List ℕ → List Transition
transition_table b = map (transition_in (drop (header_of b).transitions_at b)) (numbers_from 0 (header_of b).transitions)

unfoldable pub action_table : List ℕ → List Node
action_table b = map (node_in (drop (header_of b).actions_at b)) (numbers_from 0 (header_of b).actions)

unfoldable pub formula_table : List ℕ → List Node
formula_table b = map (node_in (drop (header_of b).formula_at b)) (numbers_from 0 (header_of b).nodes)

-- How large a case may be. The code's LABELS, NAMES, TRANSITIONS, ACTIONS and NODES; states and blocks have the limits of the layers below.
abbrev pub label_limit : ℕ
label_limit = 64

abbrev pub name_limit : ℕ
name_limit = 255

abbrev pub transition_limit : ℕ
transition_limit = 2_048

abbrev pub action_limit : ℕ
action_limit = 128

abbrev pub node_limit : ℕ
node_limit = 64
