-- Tables in prefix order: a node, then its operands' subtrees.
use Rattle.std.specs.Prelude.{Bool, true, false, List, [], ◌∷◌, ℕ, zero, suc, ◌+◌, eqb, get_or, drop}
use Rattle.std.proofs.Math.Option.{Option, some, none}
use Rattle.cases.specs.Action.{Action}
pub use Rattle.cases.specs.declared.Node.{Node}
use Rattle.cases.specs.Formula.{Formula}

-- how many operands a kind has, by the list of all kinds in order; none where there is no such kind
abbrev pub arity_in : List ℕ → Node → ℕ
arity_in kinds x = get_or kinds x.kind 0

-- action kinds: false, true, label, not, and, or, implies
abbrev pub action_arities : List ℕ
action_arities = 0 ∷ 0 ∷ 0 ∷ 1 ∷ 2 ∷ 2 ∷ 2 ∷ []

-- formula kinds: false, true, and, or, box, diamond, variable, mu, nu
abbrev pub formula_arities : List ℕ
formula_arities = 0 ∷ 0 ∷ 2 ∷ 2 ∷ 1 ∷ 1 ∷ 0 ∷ 1 ∷ 1 ∷ []

-- Whether arities are those of zero or more whole formulas, where `due` operands are still to come.
unfoldable pub whole_formulas : ℕ → List ℕ → Bool
whole_formulas due [] = eqb due 0
whole_formulas zero (k ∷ ks) = whole_formulas k ks
whole_formulas (suc due) (k ∷ ks) = whole_formulas (due + k) ks

-- Whether they are those of `due` whole formulas and no more.
unfoldable pub exactly : ℕ → List ℕ → Bool
exactly due [] = eqb due 0
exactly zero (k ∷ ks) = false
exactly (suc due) (k ∷ ks) = exactly (due + k) ks

-- how many nodes the next `due` formulas have
unfoldable pub span : ℕ → List ℕ → ℕ
span due [] = 0
span zero (k ∷ ks) = 0
span (suc due) (k ∷ ks) = suc (span (due + k) ks)

-- the node after the subtree of node i
abbrev pub end_of : List ℕ → ℕ → ℕ
end_of ks i = i + span 1 (drop i ks)

-- ---- trees, read from the table's end: the formulas that start at a node or after it, outermost only, in order
module _ {A : Type 0} where
  abbrev pub leaf : A → List A → Option (List A)
  leaf a st = some (a ∷ st)

  abbrev pub unary_op : (A → A) → List A → Option (List A)
  unary_op f [] = none
  unary_op f (a ∷ st) = some (f a ∷ st)

  abbrev pub binary_op : (A → A → A) → List A → Option (List A)
  binary_op f [] = none
  binary_op f (a ∷ []) = none
  binary_op f (a ∷ b ∷ st) = some (f a b ∷ st)

  abbrev pub onto : Option (List A) → (List A → Option (List A)) → Option (List A)
  onto none f = none
  onto (some st) f = f st

  -- the formula on top, or d where there is none
  abbrev pub top_or : A → Option (List A) → A
  top_or d none = d
  top_or d (some []) = d
  top_or d (some (a ∷ st)) = a

  -- the trees of a table whose first node is node i; `place i x` puts node i, x by its kind and argument, onto the trees after it
  unfoldable pub trees : (ℕ → Node → List A → Option (List A)) → ℕ → List Node → Option (List A)
  trees place i [] = some []
  trees place i (x ∷ xs) = onto (trees place (suc i) xs) (place i x)

-- an action node by its kind, where `alike_to j` is the set of the labels that are alike to label j
abbrev pub place_action : (ℕ → List Bool) → ℕ → Node → List Action → Option (List Action)
place_action alike_to i x =
    get_or
    (leaf Action.False ∷ leaf Action.True ∷ leaf (Action.Label (alike_to x.arg)) ∷ unary_op Action.Not ∷ binary_op Action.And ∷ binary_op Action.Or ∷ binary_op Action.Implies ∷ [])
    x.kind (λ st. none)

-- a formula node by its kind, where `action j` is the action formula at action node j
abbrev pub place_formula : (ℕ → Action) → ℕ → Node → List Formula → Option (List Formula)
place_formula action i x =
    get_or
    (leaf Formula.False ∷ leaf Formula.True ∷ binary_op Formula.And ∷ binary_op Formula.Or
    ∷ unary_op (Formula.Box (action x.arg)) ∷ unary_op (Formula.Diamond (action x.arg))
    ∷ leaf (Formula.Variable x.arg) ∷ unary_op (Formula.Fix false i) ∷ unary_op (Formula.Fix true i) ∷ [])
    x.kind (λ st. none)

-- the action formula at action node j, and the formula at node i
unfoldable pub action_at : (ℕ → List Bool) → List Node → ℕ → Action
action_at alike_to table j = top_or Action.False (trees (place_action alike_to) j (drop j table))

unfoldable pub formula_at : (ℕ → Action) → List Node → ℕ → Formula
formula_at action table i = top_or Formula.False (trees (place_formula action) i (drop i table))
