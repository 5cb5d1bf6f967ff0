-- The kinds of nodes, and the number of each in the file.
use Rattle.std.specs.Prelude.{◌≡◌, ℕ, ◌<◌, Result, MatchResult}
use Rattle.cases.specs.declared.kinds.ActionKind.{ActionKind}
use Rattle.cases.specs.declared.kinds.ActionKind.TheVariants as action
use Rattle.cases.specs.declared.kinds.FormulaKind.{FormulaKind}
use Rattle.cases.specs.declared.kinds.FormulaKind.TheVariants as formula

abbrev pub action_number : ActionKind → ℕ
action_number action.False = 0
action_number action.True = 1
action_number action.Label = 2
action_number action.Not = 3
action_number action.And = 4
action_number action.Or = 5
action_number action.Implies = 6

abbrev pub formula_number : FormulaKind → ℕ
formula_number formula.False = 0
formula_number formula.True = 1
formula_number formula.And = 2
formula_number formula.Or = 3
formula_number formula.Box = 4
formula_number formula.Diamond = 5
formula_number formula.Variable = 6
formula_number formula.Mu = 7
formula_number formula.Nu = 8

-- A number is read as the kind that has it, and refused above the last.
abbrev pub Reads : {A E : Type 0} → (A → ℕ) → ℕ → ℕ → Result A E → Type 0
Reads number last n result = MatchResult result (λ kind. number kind ≡ n) (λ e. last < n)
