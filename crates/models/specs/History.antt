-- Histories: what was called after a model was opened, with nothing else writing it, and what each call then answers.
use Rattle.std.specs.Prelude.{◌≡◌, List, [], ◌∷◌, ℕ}
use Rattle.sets.specs.Refusals.{first_of, by_refusal, Outcome}
use Rattle.cases.specs.declared.Tally.{Tally}
use Rattle.cases.specs.declared.Transition.{Transition}
use Rattle.cases.specs.File.{header_of, transition_table, case_within}
use Rattle.cases.specs.Case.{Case, case_of, distinct}
use Rattle.routes.specs.Route.{direct, marks_only, Ran}
use Rattle.records.specs.Replaced.{with_transitions, case_with}
use Rattle.models.specs.Model.{adding, dropping, add_checks, drop_checks, Edited, add_conditions, added_model, drop_conditions, dropped_model}

-- A call and its answer: a transition with the number answered; or the marks lent and the limit, with the outcome and the tally answered and the
-- marks as they are left.
pub data Event : Type 0 where
  Add Drop : Transition → ℕ → Event
  Want : List ℕ → ℕ → Outcome → Tally → List ℕ → Event

-- Happened m es m': from the model m on these calls were made, in this order, each answered as its contract says, and m' is left. Nothing else
-- writes the model: each call finds what the one before it left.
pub data Happened : List ℕ → List Event → List ℕ → Type 0 where
  nothing : {m : List ℕ} → Happened m [] m
  added : {m m₁ m' : List ℕ} {t : Transition} {k : ℕ} {es : List Event}
      → Edited (add_conditions m t) (added_model m t) m k m₁ → Happened m₁ es m' → Happened m (Add t k ∷ es) m'
  dropped : {m m₁ m' : List ℕ} {t : Transition} {k : ℕ} {es : List Event}
      → Edited (drop_conditions m t) (dropped_model m t) m k m₁ → Happened m₁ es m' → Happened m (Drop t k ∷ es) m'
  wanted : {m m' marks marks' : List ℕ} {limit : ℕ} {o : Outcome} {y : Tally} {es : List Event}
      → Ran direct (case_within m) (marks_only marks) limit o y marks' → Happened m es m' → Happened m (Want marks limit o y marks' ∷ es) m'

-- The set that a history says, from the set ts on: an add or a drop that was not refused changes it, and nothing else does.
unfoldable pub held_after : List Transition → List Event → List Transition
held_after ts [] = ts
held_after ts (Add t k ∷ es) = held_after (by_refusal k (adding ts t) ts) es
held_after ts (Drop t k ∷ es) = held_after (by_refusal k (dropping ts t) ts) es
held_after ts (Want marks limit o y marks' ∷ es) = held_after ts es

-- What a call has to answer where b was opened and the set ts is held: 6, 16, 17 or success by the set; and where marks are wanted what direct answers
-- and leaves for the opened case with its transition table replaced by the set.
unfoldable pub Answers : List ℕ → List Transition → Event → Type 0
Answers b ts (Add t k) = k ≡ first_of (add_checks (header_of b).states (header_of b).labels ts t)
Answers b ts (Drop t k) = k ≡ first_of (drop_checks (header_of b).states (header_of b).labels ts t)
Answers b ts (Want marks limit o y marks') = Ran direct (with_transitions b ts) (marks_only marks) limit o y marks'

-- the set that opening a case holds: its transitions, each once
abbrev pub opened_set : List ℕ → List Transition
opened_set b = distinct (transition_table b)

-- the set that a history says after b was opened, and the opened case with that set in place of its transitions
abbrev pub held_by : List ℕ → List Event → List Transition
held_by b es = held_after (opened_set b) es

abbrev pub edited_case : List ℕ → List Event → Case
edited_case b es = case_with (case_of b) (held_by b es)
