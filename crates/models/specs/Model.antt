-- A model that is edited: lent bytes that start with a case. What opening one, adding a transition and dropping one answer and leave in it.
use Rattle.std.specs.Prelude.{◌≡◌, Result, Ok, Err, Bool, cond, not, ◌&&◌, List, [], ◌∷◌, ◌++◌, ℕ, ◌+◌, ◌-◌, ◌*◌, ltb, leb, length}
use Rattle.sets.specs.Lists.{for_some}
use Rattle.sets.specs.Refusals.{Conditions, first_of, by_refusal}
use Rattle.cases.specs.declared.Transition.{Transition}
use Rattle.cases.specs.File.{header_of, transition_table, case_within, transition_limit}
use Rattle.cases.specs.Case.{same_transition, distinct}
use Rattle.cases.specs.Conditions.{transition_ok, layout_conditions, case_conditions}
use Rattle.cases.specs.Opening.{case_number}
use Rattle.records.specs.Replaced.{with_transitions, written_to}
use Rattle.records.specs.Places.{place_of, without_at}
use Rattle.models.specs.declared.Cause.{Cause}
use Rattle.models.specs.declared.Cause.TheVariants.{Case, Range, Full, Absent, Memory}

-- the paper's number of each cause
abbrev pub cause_number : Cause → ℕ
cause_number (Case cause) = case_number cause
cause_number Range = 6
cause_number Full = 16
cause_number Absent = 17
cause_number Memory = 13

-- an answer's refusal number, 0 if there is none
abbrev pub change_number : Result (Unit {0}) Cause → ℕ
change_number (Ok done) = 0
change_number (Err cause) = cause_number cause

-- ---- sets of transitions, each of which stands once in a list

-- whether a transition is held
abbrev pub holds : List Transition → Transition → Bool
holds ts t = for_some (λ u. same_transition u t) ts

-- the set with a transition: one that is held leaves it unchanged
unfoldable pub adding : List Transition → Transition → List Transition
adding ts t = cond (holds ts t) ts (ts ++ (t ∷ []))

-- the set without a transition that is held
unfoldable pub dropping : List Transition → Transition → List Transition
dropping ts t = without_at ts (place_of t ts)

-- ---- the conditions of an edit, of a set of transitions between n states with l labels

-- 6: a number of the transition is out of range
abbrev pub out_of_range : ℕ → ℕ → Transition → Bool
out_of_range n l t = not (transition_ok n l t)

-- 16: the transition is new, and as many are held as a case may have
abbrev pub full : List Transition → Transition → Bool
full ts t = not (holds ts t) && leb transition_limit (length ts)

unfoldable pub add_checks : ℕ → ℕ → List Transition → Transition → Conditions
add_checks n l ts t = (6, out_of_range n l t) ∷ (16, full ts t) ∷ []

-- 17: the transition is not held
unfoldable pub drop_checks : ℕ → ℕ → List Transition → Transition → Conditions
drop_checks n l ts t = (6, out_of_range n l t) ∷ (17, not (holds ts t)) ∷ []

-- ---- the calls, on bytes of any content and length

-- What a call promises of the number k that it answers and of the model as it leaves it: the number of the first condition that holds, or 0; and
-- the bytes that it makes of the model, or after a refusal the model unchanged.
pub record Edited (cs : Conditions) (made before : List ℕ) (k : ℕ) (after : List ℕ) : Type 0 where
  pub number : k ≡ first_of cs
  pub bytes : after ≡ by_refusal (first_of cs) made before

-- How many bytes a model of a case needs: as many as the case would have with all transitions that a case may have.
unfoldable pub model_room : List ℕ → ℕ
model_room b = length b + 6 * (transition_limit - (header_of b).transitions)

-- Opening: the case's own conditions, then 13. The model then starts with the case, each of its transitions once.
unfoldable pub open_conditions : List ℕ → List ℕ → Conditions
open_conditions b model = case_conditions b ++ ((13, ltb (length model) (model_room b)) ∷ [])

unfoldable pub opened_model : List ℕ → List ℕ → List ℕ
opened_model b model = written_to model (with_transitions b (distinct (transition_table b)))

-- An edit is of the case that the model starts with. It looks at that case's layout only, conditions 1 to 5; what it does not read, it does not check.
module _ (model : List ℕ) (t : Transition) where
  abbrev b : List ℕ
  b = case_within model

  abbrev held : List Transition
  held = transition_table b

  -- Adding: 13, last, if the transition is new and there is no room for its record. A transition that is held leaves the model unchanged.
  unfoldable pub add_conditions : Conditions
  add_conditions =
      layout_conditions b ++ (add_checks (header_of b).states (header_of b).labels held t ++ ((13, not (holds held t) && ltb (length model) (length b + 6)) ∷ []))

  unfoldable pub added_model : List ℕ
  added_model = cond (holds held t) model (written_to model (with_transitions b (held ++ (t ∷ []))))

  -- Dropping needs no further room.
  unfoldable pub drop_conditions : Conditions
  drop_conditions = layout_conditions b ++ drop_checks (header_of b).states (header_of b).labels held t

  unfoldable pub dropped_model : List ℕ
  dropped_model = written_to model (with_transitions b (dropping held t))
