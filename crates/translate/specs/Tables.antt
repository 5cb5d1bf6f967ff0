-- The tables E and RHS of LTS2PBES, section 2 of the source, untimed and without data.
use Rattle.std.specs.Prelude.{Bool, true, false, List, [], ◌∷◌, ◌++◌, ℕ, eqb}
use Rattle.cases.specs.Action.{accepts}
use Rattle.cases.specs.Formula.{Formula, False, True, And, Or, Box, Diamond, Variable, Fix}
use Rattle.cases.specs.declared.Transition.{Transition}
use Rattle.sets.specs.Lists.{keep}

-- Right-hand sides as the table writes them; Sat is a truth value, for labels have no data. X k s is the variable of block k in state s.
mutual
  pub data Expression : Type 0 where
    Constant : Bool → Expression
    Conj Disj : Expression → Expression → Expression
    ⋀ ⋁ : Expressions → Expression
    Sat⇒ Sat∧ : Bool → Expression → Expression
    X : ℕ → ℕ → Expression

  -- what stands in the braces of ⋀ and ⋁
  pub data Expressions : Type 0 where
    nil : Expressions
    cons : Expression → Expressions → Expressions

-- { f t | t in ts }, in order
unfoldable pub each : (Transition → Expression) → List Transition → Expressions
each f [] = nil
each f (t ∷ ts) = cons (f t) (each f ts)

-- ts are the distinct transitions; block gives a binder's node its block
module _ (ts : List Transition) (block : ℕ → ℕ) where
  -- the transitions from s
  abbrev pub outgoing : ℕ → List Transition
  outgoing s = keep (λ t. eqb t.source s) ts

  unfoldable pub RHS : Formula → ℕ → Expression
  RHS False s = Constant false
  RHS True s = Constant true
  RHS (And a b) s = Conj (RHS a s) (RHS b s)
  RHS (Or a b) s = Disj (RHS a s) (RHS b s)
  RHS (Box α a) s = ⋀ (each (λ t. Sat⇒ (accepts α t.label) (RHS a t.target)) (outgoing s))
  RHS (Diamond α a) s = ⋁ (each (λ t. Sat∧ (accepts α t.label) (RHS a t.target)) (outgoing s))
  RHS (Variable i) s = X (block i) s
  RHS (Fix sign i a) s = X (block i) s

  -- an equation: sigma { X_s = side s | s in S }, X the variable of a block
  pub record Equation : Type 0 where
    pub sign : Bool
    pub of : ℕ
    pub side : ℕ → Expression

  unfoldable pub E : Formula → List Equation
  E False = []
  E True = []
  E (And a b) = E a ++ E b
  E (Or a b) = E a ++ E b
  E (Box α a) = E a
  E (Diamond α a) = E a
  E (Variable i) = []
  E (Fix sign i a) = record { sign = sign; of = block i; side = RHS a } ∷ E a
