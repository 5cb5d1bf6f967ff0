-- The meaning by a function. From sets of n states it is the paper's Means, by `means_exists` and `means_unique` (proofs/MeaningLaws.antt).
use Rattle.std.specs.Prelude.{true, false, List, ℕ, suc, replicate}
use Rattle.sets.specs.States.{States, start, Valuation, update}
use Rattle.sets.specs.computed.Iteration.{repeated}
use Rattle.cases.specs.Formula.{Formula, False, True, And, Or, Box, Diamond, Variable, Fix}
use Rattle.cases.specs.File.{Transition}
use Rattle.cases.specs.Meaning.{set_of, intersection, union, box_in, diamond_in}

module _ (n : ℕ) (ts : List Transition) where
  -- A binder's set is worked out from the empty (mu) or full (nu) set on, in at most n + 1 turns.
  unfoldable pub meaning : Formula → Valuation → States
  meaning False ρ = replicate n false
  meaning True ρ = replicate n true
  meaning (And a b) ρ = intersection n (meaning a ρ) (meaning b ρ)
  meaning (Or a b) ρ = union n (meaning a ρ) (meaning b ρ)
  meaning (Box α a) ρ = set_of n (box_in n ts α (meaning a ρ))
  meaning (Diamond α a) ρ = set_of n (diamond_in n ts α (meaning a ρ))
  meaning (Variable i) ρ = ρ i
  meaning (Fix sign i a) ρ = (repeated (suc n) (λ v. (meaning a (update ρ i v), 0)) (start n sign)).0
