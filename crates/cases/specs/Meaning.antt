-- The meaning of a formula: a set of states.
use Rattle.std.specs.Prelude.{◌≡◌, Bool, true, false, not, ◌&&◌, ◌||◌, List, map, ℕ, eqb, replicate}
use Rattle.sets.specs.Lists.{numbers_from, every, for_some}
use Rattle.sets.specs.States.{States, has, Extremal, Valuation, update, Sized}
use Rattle.cases.specs.Action.{Action, accepts}
use Rattle.cases.specs.Formula.{Formula, False, True, And, Or, Box, Diamond, Variable, Fix}
use Rattle.cases.specs.File.{Transition}
use Rattle.cases.specs.Case.{Case}

-- the set of the states below n with the property f
abbrev pub set_of : ℕ → (ℕ → Bool) → States
set_of n f = map f (numbers_from 0 n)

-- intersection and union of sets of n states
abbrev pub intersection : ℕ → States → States → States
intersection n x y = set_of n (λ s. has x s && has y s)

abbrev pub union : ℕ → States → States → States
union n x y = set_of n (λ s. has x s || has y s)

-- a transition from s with an accepted label
abbrev pub from : ℕ → Action → Transition → Bool
from s α t = eqb t.source s && accepts α t.label

module _ (n : ℕ) (ts : List Transition) where
  -- every transition from s with an accepted label ends in v
  abbrev pub box_in : Action → States → ℕ → Bool
  box_in α v s = every (λ t. not (from s α t) || has v t.target) ts

  -- some such transition does
  abbrev pub diamond_in : Action → States → ℕ → Bool
  diamond_in α v s = for_some (λ t. from s α t && has v t.target) ts

  -- The paper's meaning. Means a ρ v: where ρ gives each binder its set, the formula a means v. Mu and nu give the least and the greatest set equal to the
  -- body's meaning with that set for the variable, while the sets of outer binders are held.
  unfoldable pub Means : Formula → Valuation → States → Type 0
  Means False ρ v = v ≡ replicate n false
  Means True ρ v = v ≡ replicate n true
  Means (And a b) ρ v = (x : States) × (y : States) × Means a ρ x × Means b ρ y × (v ≡ intersection n x y)
  Means (Or a b) ρ v = (x : States) × (y : States) × Means a ρ x × Means b ρ y × (v ≡ union n x y)
  Means (Box α a) ρ v = (x : States) × Means a ρ x × (v ≡ set_of n (box_in α x))
  Means (Diamond α a) ρ v = (x : States) × Means a ρ x × (v ≡ set_of n (diamond_in α x))
  Means (Variable i) ρ v = v ≡ ρ i
  Means (Fix sign i a) ρ v = Extremal n sign (λ u. Means a (update ρ i u) u) v

-- v is what the formula of a case means, where ρ gives a set of states to each variable. In an accepted case no variable is free.
abbrev pub MeansIn : Case → Valuation → States → Type 0
MeansIn c ρ v = Sized c.states ρ × Means c.states c.transitions c.formula ρ v
