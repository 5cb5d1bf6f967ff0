-- A case file with another transition table in place of its own, and where it is written.
use Rattle.std.specs.Prelude.{List, [], ◌∷◌, ◌++◌, ℕ, ◌+◌, ◌*◌, ◌/◌, ◌%◌, length, take, drop, set}
use Rattle.cases.specs.declared.Header.{Header}
use Rattle.cases.specs.declared.Transition.{Transition}
use Rattle.cases.specs.Case.{Case}
use Rattle.cases.specs.File.{header_of, transitions_start, actions_start}

-- a number of 16 bits, low byte first
abbrev pub bytes16 : ℕ → List ℕ
bytes16 x = x % 256 ∷ x / 256 % 256 ∷ []

-- a record: source, label, target
abbrev pub record_bytes : Transition → List ℕ
record_bytes t = bytes16 t.source ++ (bytes16 t.label ++ bytes16 t.target)

-- a table: its records one after another
unfoldable pub table_bytes : List Transition → List ℕ
table_bytes [] = []
table_bytes (t ∷ ts) = record_bytes t ++ table_bytes ts

-- bytes with another number of 16 bits at a place
unfoldable pub with_number : List ℕ → ℕ → ℕ → List ℕ
with_number b at x = set (set b at (x % 256)) (at + 1) (x / 256 % 256)

-- The head of a case, which is its header and label records, for a table of k transitions: the count of transitions, and the offsets of the
-- action nodes and of the formula nodes, which stand behind that table.
unfoldable pub head_for : Header → ℕ → List ℕ → List ℕ
head_for h k head =
    let actions : ℕ = transitions_start h + 6 * k in
    with_number (with_number (with_number head 4 k) 16 actions) 18 (actions + 4 * h.actions)

-- A case with the transitions ts in place of its own: the head for so many, their records, and all that stands behind the case's own table.
unfoldable pub with_transitions : List ℕ → List Transition → List ℕ
with_transitions b ts =
    head_for (header_of b) (length ts) (take (transitions_start (header_of b)) b) ++ (table_bytes ts ++ drop (actions_start (header_of b)) b)

-- The same of cases: the case c with the transitions ts.
abbrev pub case_with : Case → List Transition → Case
case_with c ts = record { states = c.states; labels = c.labels; initial = c.initial; transitions = ts; formula = c.formula }

-- A file written into a buffer from its first byte on; all behind it is unchanged.
abbrev pub written_to : List ℕ → List ℕ → List ℕ
written_to buffer file = file ++ drop (length file) buffer
