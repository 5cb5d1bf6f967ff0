-- Direct: a formula's set worked out on sets of states, and how many rounds that takes.
use Rattle.std.specs.Prelude.{◌≡◌, true, false, ℕ, ◌+◌, List, replicate}
use Rattle.sets.specs.States.{States, start, Valuation, update}
use Rattle.sets.specs.Loop.{Loop, itself}
use Rattle.cases.specs.Formula.{Formula, False, True, And, Or, Box, Diamond, Variable, Fix}
use Rattle.cases.specs.declared.Transition.{Transition}
use Rattle.cases.specs.Meaning.{set_of, intersection, union, box_in, diamond_in}

-- a set that is worked out from those of two operands, left first; the rounds add up
pub record FromTwo (one two : States → ℕ → Type 0) (op : States → States → States) (v : States) (r : ℕ) : Type 0 where
  pub left : States
  pub right : States
  pub before : ℕ
  pub after : ℕ
  pub first : one left before
  pub second : two right after
  pub set : v ≡ op left right
  pub sum : r ≡ before + after

-- a set that is worked out from that of one operand, with no further round
pub record FromOne (one : States → ℕ → Type 0) (op : States → States) (v : States) (r : ℕ) : Type 0 where
  pub operand : States
  pub first : one operand r
  pub set : v ≡ op operand

module _ (n : ℕ) (ts : List Transition) where
  -- The paper's rule. Direct a ρ v r: where ρ gives each binder its set, the rules work out v for the formula a, in r rounds, as if there were no limit.
  -- A binder starts empty (mu) or full (nu) and runs the loop over its body.
  unfoldable pub Direct : Formula → Valuation → States → ℕ → Type 0
  Direct False ρ v r = (v ≡ replicate n false) × (r ≡ 0)
  Direct True ρ v r = (v ≡ replicate n true) × (r ≡ 0)
  Direct (And a b) ρ v r = FromTwo (Direct a ρ) (Direct b ρ) (intersection n) v r
  Direct (Or a b) ρ v r = FromTwo (Direct a ρ) (Direct b ρ) (union n) v r
  Direct (Box α a) ρ v r = FromOne (Direct a ρ) (λ x. set_of n (box_in n ts α x)) v r
  Direct (Diamond α a) ρ v r = FromOne (Direct a ρ) (λ x. set_of n (diamond_in n ts α x)) v r
  Direct (Variable i) ρ v r = (v ≡ ρ i) × (r ≡ 0)
  Direct (Fix sign i a) ρ v r = Loop (itself (λ u. Direct a (update ρ i u))) (start n sign) v r
