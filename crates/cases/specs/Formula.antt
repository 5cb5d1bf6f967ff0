-- Formulas of the modal mu-calculus in positive form. Their nodes count from 0, in prefix order.
use Rattle.std.specs.Prelude.{◌≡◌, Bool, List, [], ◌∷◌, ◌++◌, ℕ, ◌+◌, ◌<◌, get_or}
use Rattle.cases.specs.Action.{Action}

-- A binder has its sign (false mu, true nu) and its node number; a variable has its binder's node number.
pub data Formula : Type 0 where
  False True : Formula
  And Or : Formula → Formula → Formula
  Box Diamond : Action → Formula → Formula
  Variable : ℕ → Formula
  Fix : Bool → ℕ → Formula → Formula

-- how many nodes a formula has
unfoldable pub nodes : Formula → ℕ
nodes False = 1
nodes True = 1
nodes (And a b) = 1 + nodes a + nodes b
nodes (Or a b) = 1 + nodes a + nodes b
nodes (Box α a) = 1 + nodes a
nodes (Diamond α a) = 1 + nodes a
nodes (Variable i) = 1
nodes (Fix sign i a) = 1 + nodes a

-- the subformulas of a formula, node by node
unfoldable pub subformulas : Formula → List Formula
subformulas False = False ∷ []
subformulas True = True ∷ []
subformulas (And a b) = And a b ∷ (subformulas a ++ subformulas b)
subformulas (Or a b) = Or a b ∷ (subformulas a ++ subformulas b)
subformulas (Box α a) = Box α a ∷ subformulas a
subformulas (Diamond α a) = Diamond α a ∷ subformulas a
subformulas (Variable i) = Variable i ∷ []
subformulas (Fix sign i a) = Fix sign i a ∷ subformulas a

-- the formula x stands at node i of a
abbrev pub Stands : Formula → ℕ → Formula → Type 0
Stands a i x = (i < nodes a) × (get_or (subformulas a) i False ≡ x)
