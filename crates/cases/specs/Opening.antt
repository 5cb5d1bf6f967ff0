-- What opening a case answers: what was opened, or why it is refused.
use Rattle.std.specs.Prelude.{◌≡◌, ℕ, Result, Ok, Err}
use Rattle.cases.specs.declared.Cause.{Cause}
use Rattle.cases.specs.declared.Cause.TheVariants.{Small, Version, Count, Offset, Length, Model, Labels, Actions, Formula, Variable, Depth}

-- the paper's number of each cause
abbrev pub case_number : Cause → ℕ
case_number Small = 1
case_number Version = 2
case_number Count = 3
case_number Offset = 4
case_number Length = 5
case_number Model = 6
case_number Labels = 15
case_number Actions = 7
case_number Formula = 8
case_number Variable = 9
case_number Depth = 10

-- an answer's refusal number, 0 if there is none
unfoldable pub opened_number : {A : Type 0} → Result A Cause → ℕ
opened_number (Ok x) = 0
opened_number (Err cause) = case_number cause

-- The answer has the number k, and what it holds is right.
pub record Opens {A : Type 0} (k : ℕ) (right : A → Type 0) (answer : Result A Cause) : Type 0 where
  pub number : opened_number answer ≡ k
  pub value : (x : A) → answer ≡ Ok x → right x
