-- The formula that is translated: a root that is not a binder first gets a nu that binds nothing used, and node numbers rise by one.
use Rattle.std.specs.Prelude.{Bool, true, false, cond, List, [], ◌∷◌, ◌++◌, ℕ, suc, ◌+◌, eqb}
use Rattle.cases.specs.Formula.{Formula, False, True, And, Or, Box, Diamond, Variable, Fix}
use Rattle.cases.specs.declared.Transition.{Transition}
use Rattle.cases.specs.Case.{Case, distinct}

-- all node numbers one higher
unfoldable pub raise : Formula → Formula
raise False = False
raise True = True
raise (And a b) = And (raise a) (raise b)
raise (Or a b) = Or (raise a) (raise b)
raise (Box α a) = Box α (raise a)
raise (Diamond α a) = Diamond α (raise a)
raise (Variable i) = Variable (i + 1)
raise (Fix sign i a) = Fix sign (i + 1) (raise a)

unfoldable pub binds_first : Formula → Bool
binds_first False = false
binds_first True = false
binds_first (And a b) = false
binds_first (Or a b) = false
binds_first (Box α a) = false
binds_first (Diamond α a) = false
binds_first (Variable i) = false
binds_first (Fix sign i a) = true

unfoldable pub whole : Formula → Formula
whole a = cond (binds_first a) a (Fix true 0 (raise a))

-- the node numbers of the binders in prefix order
unfoldable pub binder_nodes : Formula → List ℕ
binder_nodes False = []
binder_nodes True = []
binder_nodes (And a b) = binder_nodes a ++ binder_nodes b
binder_nodes (Or a b) = binder_nodes a ++ binder_nodes b
binder_nodes (Box α a) = binder_nodes a
binder_nodes (Diamond α a) = binder_nodes a
binder_nodes (Variable i) = []
binder_nodes (Fix sign i a) = i ∷ binder_nodes a

-- the place of a number in a list
unfoldable pub index_in : ℕ → List ℕ → ℕ
index_in i [] = 0
index_in i (j ∷ js) = cond (eqb i j) 0 (suc (index_in i js))

-- Blocks are the binders in prefix order: the block of the binder at node i.
unfoldable pub block_in : Formula → ℕ → ℕ
block_in a i = index_in i (binder_nodes a)

-- Of a case: the formula that is translated, the block of each of its binders, and its distinct transitions.
abbrev pub formula_of : Case → Formula
formula_of c = whole c.formula

abbrev pub block_of : Case → ℕ → ℕ
block_of c = block_in (formula_of c)

abbrev pub steps_of : Case → List Transition
steps_of c = distinct c.transitions
