-- The labels that an action formula accepts, as one number, and the action tables that can be read.
use Rattle.std.specs.Prelude.{◌≡◌, Bool, true, List, [], ◌∷◌, map, ℕ, ◌<◌, ◌≤◌, length, get_or}
use Rattle.sets.specs.Lists.{numbers_from}
use Rattle.sets.specs.Words.{number_of_bits}
use Rattle.cases.specs.File.{Header, label_records, label_limit}
use Rattle.cases.specs.Labels.{alike_labels}
use Rattle.cases.specs.Action.{Action, accepts}
use Rattle.cases.specs.Prefix.{Node, arity_in, action_arities, whole_formulas, action_at}
use Rattle.cases.specs.Conditions.{node_at}
use Rattle.cases.specs.internal.Checks.{labels_in, nodes_in}

-- the number whose bit x says whether label x is accepted
abbrev pub mask_of : Action → ℕ
mask_of a = number_of_bits (map (accepts a) (numbers_from 0 label_limit))

-- The action of a node by its kind and argument, where a and b are the actions that stand next after it: its operands, as far as it takes any.
unfoldable pub action_of : (ℕ → List Bool) → ℕ → ℕ → Action → Action → Action
action_of alike_to kind arg a b =
    get_or
    (Action.False ∷ Action.True ∷ Action.Label (alike_to arg) ∷ Action.Not a ∷ Action.And a b ∷ Action.Or a b ∷ Action.Implies a b ∷ [])
    kind Action.False

-- Each node is of a kind that there is, a label is below l, and the nodes make whole formulas.
pub record WholeActions (l : ℕ) (table : List Node) : Type 0 where
  pub known : (i : ℕ) → i < length table → (node_at table i).kind ≤ 6
  pub small : (i : ℕ) → i < length table → (node_at table i).kind ≡ 2 → (node_at table i).arg < l
  pub whole : whole_formulas 0 (map (arity_in action_arities) table) ≡ true

-- the action formula at node j of an action part, by a header and the label part
abbrev pub action_in : Header → List ℕ → List ℕ → ℕ → Action
action_in h labels actions = action_at (alike_labels h (labels_in labels (label_records h))) (nodes_in actions h.actions)

-- Mask j is that of action formula j, for the first a of them.
pub record ActionMasks (action : ℕ → Action) (a : ℕ) (masks : List ℕ) : Type 0 where
  pub mask : (j : ℕ) → j < a → get_or masks j 0 ≡ mask_of (action j)
