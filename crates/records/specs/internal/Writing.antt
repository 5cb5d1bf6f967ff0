-- What the writers of this crate ask and promise.
use Rattle.std.specs.Prelude.{◌≡◌, List, ◌++◌, ℕ, ◌+◌, ◌*◌, ◌<◌, length, get_or, take, drop}
use Rattle.cases.specs.declared.Header.{Header}
use Rattle.cases.specs.declared.Transition.{Transition}
use Rattle.records.specs.Replaced.{table_bytes}

-- each number is a byte
abbrev pub AllBytes : List ℕ → Type 0
AllBytes b = (i : ℕ) → get_or b i 0 < 256

-- bytes with others in their place from `at` on
abbrev pub over : List ℕ → ℕ → List ℕ → List ℕ
over s at vs = take at s ++ (vs ++ drop (at + length vs) s)

-- records were written from the first byte on, and there are r
pub record RecordsWritten (ts : List Transition) (before after : List ℕ) (r : ℕ) : Type 0 where
  pub exact : after ≡ table_bytes ts ++ drop (6 * length ts) before
  pub count : r ≡ length ts

-- a header for a table of k transitions, where the tables stand as they have to
abbrev pub recounted : Header → ℕ → Header
recounted h k = record {
  version = h.version;
  states = h.states;
  transitions = k;
  labels = h.labels;
  initial = h.initial;
  actions = h.actions;
  nodes = h.nodes;
  labels_at = h.labels_at;
  transitions_at = h.transitions_at;
  actions_at = h.transitions_at + 6 * k;
  formula_at = h.transitions_at + 6 * k + 4 * h.actions;
}
