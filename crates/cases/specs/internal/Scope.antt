-- What laws about formulas and transitions speak of: free variables, how many binders there are, and lists with the same transitions.
use Rattle.std.specs.Prelude.{Bool, false, not, ◌&&◌, ◌||◌, List, ℕ, ◌+◌, T, eqb}
use Rattle.sets.specs.Lists.{for_some}
use Rattle.cases.specs.Formula.{Formula, False, True, And, Or, Box, Diamond, Variable, Fix}
use Rattle.cases.specs.File.{Transition}
use Rattle.cases.specs.Case.{same_transition}

-- how many binders
unfoldable pub binders : Formula → ℕ
binders False = 0
binders True = 0
binders (And a b) = binders a + binders b
binders (Or a b) = binders a + binders b
binders (Box α a) = binders a
binders (Diamond α a) = binders a
binders (Variable i) = 0
binders (Fix sign i a) = 1 + binders a

-- whether variable i occurs outside of its binders
unfoldable pub free : ℕ → Formula → Bool
free i False = false
free i True = false
free i (And a b) = free i a || free i b
free i (Or a b) = free i a || free i b
free i (Box α a) = free i a
free i (Diamond α a) = free i a
free i (Variable j) = eqb i j
free i (Fix sign j a) = not (eqb i j) && free i a

-- each transition of ts is one of us
abbrev pub Within : List Transition → List Transition → Type 0
Within ts us = (t : Transition) → T (for_some (same_transition t) ts) → T (for_some (same_transition t) us)
