-- What `translate` answers, and what it leaves in the buffer.
use Rattle.std.specs.Prelude.{◌≡◌, List, [], ◌∷◌, ◌++◌, ℕ, ltb, length, drop, Result, Ok, Err}
use Rattle.sets.specs.Refusals.{Conditions, first_of, by_refusal}
use Rattle.cases.specs.Case.{case_of}
use Rattle.cases.specs.Conditions.{case_conditions}
use Rattle.cases.specs.Opening.{case_number}
use Rattle.translate.specs.Bytes.{file_of}
use Rattle.translate.specs.declared.Cause.{Cause}
use Rattle.translate.specs.declared.Cause.TheVariants.{Open, Memory}

-- the equation file of the case that any bytes are read as
abbrev pub file : List ℕ → List ℕ
file b = file_of (case_of b)

-- The conditions in order: those of the case, then 13: the buffer, of so many bytes, is shorter than the file.
unfoldable pub translate_conditions : List ℕ → ℕ → Conditions
translate_conditions b room = case_conditions b ++ ((13, ltb room (length (file b))) ∷ [])

-- the number of the first that holds, or 0
unfoldable pub translate_refusal : List ℕ → ℕ → ℕ
translate_refusal b room = first_of (translate_conditions b room)

-- the paper's number of each cause
unfoldable pub translate_number : Cause → ℕ
translate_number (Open cause) = case_number cause
translate_number Memory = 13

-- an answer's refusal number, 0 if there is none, and its file's length, 0 if there is none
unfoldable pub written_number : Result ℕ Cause → ℕ
written_number (Ok k) = 0
written_number (Err cause) = translate_number cause

unfoldable pub written_length : Result ℕ Cause → ℕ
written_length (Ok k) = k
written_length (Err cause) = 0

-- The buffer afterwards starts with the file, and all beyond it is unchanged; after a refusal nothing changed.
unfoldable pub file_after : List ℕ → List ℕ → List ℕ
file_after b before = by_refusal (translate_refusal b (length before)) (file b ++ drop (length (file b)) before) before

-- What translate promises of the number and the length that its answer stands for, and of the bytes of the buffer before and after.
pub record Translated (b before : List ℕ) (number long : ℕ) (after : List ℕ) : Type 0 where
  pub answers : number ≡ translate_refusal b (length before)
  pub long_is : long ≡ by_refusal (translate_refusal b (length before)) (length (file b)) 0
  pub bytes : after ≡ file_after b before
