-- The records of a transition part linked by their source, and flagged where they are the first of their kind.
use Rattle.std.specs.Prelude.{◌≡◌, Bool, false, cond, List, ℕ, zero, suc, ◌+◌, ◌-◌, ◌*◌, ◌<◌, ◌≤◌, eqb, length, get_or}
use Rattle.sets.specs.Words.{state_limit}
use Rattle.cases.specs.File.{transition_in, transition_limit}
use Rattle.cases.specs.Case.{copies_before}
use Rattle.cases.specs.internal.Checks.{transitions_in}

-- the source of record j of a part
abbrev pub source_in : List ℕ → ℕ → ℕ
source_in part j = (transition_in part j).source

-- the first number from j on, of k numbers, where f is s; the limit on transitions where there is none
unfoldable pub first_on : (ℕ → ℕ) → ℕ → ℕ → ℕ → ℕ
first_on f s j zero = transition_limit
first_on f s j (suc k) = cond (eqb (f j) s) j (first_on f s (suc j) k)

-- the first of m records from j on that has the source s
abbrev pub next_from : List ℕ → ℕ → ℕ → ℕ → ℕ
next_from part m s j = first_on (source_in part) s j (m - j)

-- m records are there, and each source is a state
pub record Sourced (part : List ℕ) (m : ℕ) : Type 0 where
  pub few : m ≤ transition_limit
  pub inside : 6 * m ≤ length part
  pub source : (j : ℕ) → j < m → source_in part j < state_limit

-- The first record of each state, and the one after each record, are known from record i on.
pub record LinkedFrom (part : List ℕ) (m i : ℕ) (first after : List ℕ) : Type 0 where
  pub states : length first ≡ state_limit
  pub records : length after ≡ transition_limit
  pub from_state : (s : ℕ) → s < state_limit → get_or first s 0 ≡ next_from part m s i
  pub after_record : (j : ℕ) → i ≤ j → j < m → get_or after j 0 ≡ next_from part m (source_in part j) (j + 1)

-- They are of all records.
pub record Linked (part : List ℕ) (m : ℕ) (first after : List ℕ) : Type 0 where
  pub sourced : Sourced part m
  pub filled : LinkedFrom part m 0 first after

-- flag j says whether transition j is the first of its kind
pub record FirstFlags (part : List ℕ) (m : ℕ) (flags : List Bool) : Type 0 where
  pub long : m ≤ length flags
  pub at : (j : ℕ) → j < m → get_or flags j false ≡ eqb (copies_before (transitions_in part m) j) 0
