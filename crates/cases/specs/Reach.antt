-- The states of a case that can be reached from its initial state.
use Rattle.std.specs.Prelude.{◌≡◌, ◌↔◌, ℕ, T, length}
use mathlib.Core.List.{List, ◌++◌, Mem}
use Rattle.sets.specs.States.{States, has}
use Rattle.cases.specs.File.{Transition}
use Rattle.cases.specs.Case.{Case}

-- Reach ts s u: the state u is reached from s by zero or more transitions of the list, whatever their labels.
pub data Reach (ts : List Transition) (s : ℕ) : ℕ → Type 0 where
  here : Reach ts s s
  further : {t : Transition} → Reach ts s t.source → Mem t ts → Reach ts s t.target

-- a state that is reached from the initial state of a case
abbrev pub Reachable : Case → ℕ → Type 0
Reachable c = Reach c.transitions c.initial

-- v is the set of those states
pub record ReachableStates (c : Case) (v : States) : Type 0 where
  pub sized : length v ≡ c.states
  pub exactly : (s : ℕ) → T (has v s) ↔ Reachable c s

-- a set that holds the initial state of a case and is closed under its transitions
pub record Closed (c : Case) (v : States) : Type 0 where
  pub initial : T (has v c.initial)
  pub target : (t : Transition) → Mem t c.transitions → T (has v t.source) → T (has v t.target)

-- a case with further transitions
abbrev pub with_more : Case → List Transition → Case
with_more c us = record { states = c.states; labels = c.labels; initial = c.initial; transitions = c.transitions ++ us; formula = c.formula }

-- Two cases have the same states, initial state and formula, and the same transitions from the states that can be reached in the first. Those from
-- other states may be any.
pub record SameFromReachable (c c' : Case) : Type 0 where
  pub states : c.states ≡ c'.states
  pub initial : c.initial ≡ c'.initial
  pub formula : c.formula ≡ c'.formula
  pub transitions : (t : Transition) → Reachable c t.source → Mem t c.transitions ↔ Mem t c'.transitions
