-- Tables that can be read, and what each node makes of its operands.
use Rattle.std.specs.Prelude.{◌≡◌, Bool, true, false, List, [], ◌∷◌, map, ℕ, ◌≤◌, ◌<◌, length, get_or}
use Rattle.cases.specs.Action.{Action}
use Rattle.cases.specs.Formula.{Formula}
use Rattle.cases.specs.Prefix.{Node, arity_in, action_arities, formula_arities, whole_formulas, exactly}
use Rattle.cases.specs.Conditions.{node_at}

-- every node's kind is in range
abbrev pub KindsTo : ℕ → List Node → Type 0
KindsTo limit t = (i : ℕ) → i < length t → (node_at t i).kind ≤ limit

-- A table of whole action formulas, of known kinds.
pub record ActionTable (t : List Node) : Type 0 where
  pub kinds : KindsTo 6 t
  pub whole : whole_formulas 0 (map (arity_in action_arities) t) ≡ true

-- A table of one whole formula, of known kinds.
pub record FormulaTable (t : List Node) : Type 0 where
  pub kinds : KindsTo 8 t
  pub whole : exactly 1 (map (arity_in formula_arities) t) ≡ true

-- what a node makes: a formula of none, one or two formulas
pub data Operator (A : Type 0) : Type 0 where
  constant : A → Operator A
  unary : (A → A) → Operator A
  binary : (A → A → A) → Operator A

-- what it makes, where a and b are the formulas of its first and second operand, as far as it takes any
abbrev pub made : {A : Type 0} → Operator A → A → A → A
made (constant c) a b = c
made (unary f) a b = f a
made (binary f) a b = f a b

-- what an action node with argument arg makes, by its kind, where `alike_to j` is the set of the labels that are alike to label j
abbrev pub action_operator : (ℕ → List Bool) → ℕ → ℕ → Operator Action
action_operator alike_to arg k =
    get_or
    (constant Action.False ∷ constant Action.True ∷ constant (Action.Label (alike_to arg))
    ∷ unary Action.Not ∷ binary Action.And ∷ binary Action.Or ∷ binary Action.Implies ∷ [])
    k (constant Action.False)

-- what node i of a formula makes, with argument arg, by its kind
abbrev pub formula_operator : (ℕ → Action) → ℕ → ℕ → ℕ → Operator Formula
formula_operator action i arg k =
    get_or
    (constant Formula.False ∷ constant Formula.True ∷ binary Formula.And ∷ binary Formula.Or
    ∷ unary (Formula.Box (action arg)) ∷ unary (Formula.Diamond (action arg))
    ∷ constant (Formula.Variable arg) ∷ unary (Formula.Fix false i) ∷ unary (Formula.Fix true i) ∷ [])
    k (constant Formula.False)
