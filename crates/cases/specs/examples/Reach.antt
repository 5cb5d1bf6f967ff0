-- Worked values: the states that can be reached, of small models by hand.
use Rattle.std.specs.Prelude.{◌≡◌, refl, true, false, ℕ}
use mathlib.Core.List.{List, [], ◌∷◌, map}
use Rattle.sets.specs.Lists.{numbers_from, for_some}
use Rattle.sets.specs.States.{States}
use Rattle.sets.specs.computed.Iteration.{repeated, same}
use Rattle.cases.specs.Formula.{True}
use Rattle.cases.specs.File.{Transition}
use Rattle.cases.specs.Case.{Case}
use Rattle.cases.specs.computed.Reached.{reachable}

-- transitions from their sources, labels and targets
unfoldable pub transitions : List ℕ → List Transition
transitions (s ∷ l ∷ t ∷ rest) = record { source = s; label = l; target = t } ∷ transitions rest
transitions few = []

-- a case of n states and an initial one
unfoldable pub model : ℕ → ℕ → List ℕ → Case
model n initial ts = record { states = n; labels = 2; initial = initial; transitions = transitions ts; formula = True }

-- cases, and the states that can be reached
unfoldable pub models : List (Case × States)
unfolding model transitions
models =
    -- P1: 0 to 1, its copy, 1 to 2; and without the last
    (model 3 0 (0 ∷ 0 ∷ 1 ∷ 0 ∷ 0 ∷ 1 ∷ 1 ∷ 1 ∷ 2 ∷ []), true ∷ true ∷ true ∷ [])
    ∷ (model 3 0 (0 ∷ 0 ∷ 1 ∷ 0 ∷ 0 ∷ 1 ∷ []), true ∷ true ∷ false ∷ [])
    -- no transitions: the initial state, which no transition enters
    ∷ (model 3 1 [], false ∷ true ∷ false ∷ [])
    -- a chain whose records stand from its end on
    ∷ (model 4 0 (2 ∷ 0 ∷ 3 ∷ 1 ∷ 0 ∷ 2 ∷ 0 ∷ 0 ∷ 1 ∷ []), true ∷ true ∷ true ∷ true ∷ [])
    -- 2 and 3 enter each other and state 0, and no path enters them
    ∷ (model 4 0 (2 ∷ 0 ∷ 3 ∷ 3 ∷ 0 ∷ 2 ∷ 2 ∷ 0 ∷ 0 ∷ 0 ∷ 1 ∷ 1 ∷ []), true ∷ true ∷ false ∷ false ∷ [])
    -- a loop, and a transition to the state itself
    ∷ (model 3 2 (2 ∷ 1 ∷ 2 ∷ 2 ∷ 0 ∷ 1 ∷ 1 ∷ 0 ∷ 2 ∷ 0 ∷ 0 ∷ 0 ∷ []), false ∷ true ∷ true ∷ [])
    ∷ []

pub reached : map (λ (x : Case × States). reachable x.0) models ≡ map (λ (x : Case × States). x.1) models
unfolding models reachable repeated same numbers_from for_some
reached = refl
