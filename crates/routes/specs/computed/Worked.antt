-- What direct works out, by a function. From sets of n states the set and the rounds are those of the paper's Direct, by `direct_exists` and
-- `direct_one` (proofs/DirectLaws.antt).
use Rattle.std.specs.Prelude.{true, false, List, ℕ, suc, ◌+◌, replicate}
use Rattle.sets.specs.States.{start, Valuation, update}
use Rattle.sets.specs.computed.Iteration.{Worked, repeated}
use Rattle.cases.specs.Formula.{Formula, False, True, And, Or, Box, Diamond, Variable, Fix}
use Rattle.cases.specs.declared.Transition.{Transition}
use Rattle.cases.specs.Meaning.{set_of, box_in, diamond_in, intersection, union}

module _ (n : ℕ) (ts : List Transition) where
  -- Each loop has n + 1 turns at most.
  unfoldable pub worked : Formula → Valuation → Worked
  worked False ρ = (replicate n false, 0)
  worked True ρ = (replicate n true, 0)
  worked (And a b) ρ = let x : Worked = worked a ρ in let y : Worked = worked b ρ in (intersection n x.0 y.0, x.1 + y.1)
  worked (Or a b) ρ = let x : Worked = worked a ρ in let y : Worked = worked b ρ in (union n x.0 y.0, x.1 + y.1)
  worked (Box α a) ρ = let x : Worked = worked a ρ in (set_of n (box_in n ts α x.0), x.1)
  worked (Diamond α a) ρ = let x : Worked = worked a ρ in (set_of n (diamond_in n ts α x.0), x.1)
  worked (Variable i) ρ = (ρ i, 0)
  worked (Fix sign i a) ρ = repeated (suc n) (λ v. worked a (update ρ i v)) (start n sign)
