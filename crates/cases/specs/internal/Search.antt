-- What the laws of the states that can be reached ask of a case, and what a search for them keeps.
use Rattle.std.specs.Prelude.{◌≡◌, ◌⊎◌, List, ℕ, T, ◌<◌, ◌≤◌, length, get_or}
use mathlib.Core.List.{Mem}
use Rattle.sets.specs.States.{States, has, Subset, size}
use Rattle.sets.specs.Words.{words, word_count, state_limit}
use Rattle.cases.specs.File.{Transition, transition_in}
use Rattle.cases.specs.Case.{Case}
use Rattle.cases.specs.internal.Links.{source_in}
use Rattle.cases.specs.declared.reach.Search.{Search}

-- The initial state of a case, and the target of each transition, are among its states. Those of an accepted case are.
pub record Bounded (c : Case) : Type 0 where
  pub initial : c.initial < c.states
  pub target : (t : Transition) → Mem t c.transitions → t.target < c.states

-- the target of record j of a part
abbrev pub target_in : List ℕ → ℕ → ℕ
target_in part j = (transition_in part j).target

-- The states of the set v are found, and stand once each at the first places of the order.
pub record FoundStates (s : Search) (v : States) : Type 0 where
  pub few : length v ≤ state_limit
  pub held : s.found ≡ words word_count v
  pub many : s.count ≡ size v
  pub placed : (x : ℕ) → T (has v x) → (i : ℕ) × (i < s.count) × (get_or s.order i 0 ≡ x)
  pub found_at : (i : ℕ) → i < s.count → T (has v (get_or s.order i 0))

-- No state is lost, and each keeps its place.
pub record Grown (s s' : Search) : Type 0 where
  pub more : s.count ≤ s'.count
  pub same : (i : ℕ) → i < s.count → get_or s'.order i 0 ≡ get_or s.order i 0

-- the first m records of a part end in states below the length of v
abbrev pub TargetsBelow : List ℕ → ℕ → States → Type 0
TargetsBelow part m v = (j : ℕ) → j < m → target_in part j < length v

-- w is the set v with the targets of the records before k, of the first m, that have the source s.
pub record Widened (part : List ℕ) (m k s : ℕ) (v w : States) : Type 0 where
  pub sized : length w ≡ length v
  pub keeps : Subset v w
  pub targets : (j : ℕ) → j < m → j < k → source_in part j ≡ s → T (has w (target_in part j))
  pub only : (x : ℕ) → T (has w x) → T (has v x) ⊎ ((j : ℕ) × (j < m) × (j < k) × (source_in part j ≡ s) × (target_in part j ≡ x))
