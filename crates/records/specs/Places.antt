-- Places of a transition table.
use Rattle.std.specs.Prelude.{cond, List, [], ◌∷◌, ℕ, suc, ◌-◌, length, take, set}
use Rattle.cases.specs.declared.Transition.{Transition}
use Rattle.cases.specs.Case.{same_transition, transition_at}

-- the first place where a transition stands; as many as there are where it does not
unfoldable pub place_of : Transition → List Transition → ℕ
place_of t [] = 0
place_of t (u ∷ us) = cond (same_transition u t) 0 (suc (place_of t us))

-- A table without the record at one of its places: the last record takes that place.
unfoldable pub without_at : List Transition → ℕ → List Transition
without_at ts i = take (length ts - 1) (set ts i (transition_at ts (length ts - 1)))
