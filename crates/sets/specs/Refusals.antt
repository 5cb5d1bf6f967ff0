-- What a call answers, in numbers: the first condition that holds, or a report.
use Rattle.std.specs.Prelude.{◌≡◌, Bool, true, false, not, ◌&&◌, List, [], ◌∷◌, ◌++◌, map, ℕ, zero, suc, T, leb}
use Rattle.sets.specs.Lists.{every}
use Rattle.sets.specs.States.{States, has, size}
use Rattle.sets.specs.Words.{bit}

-- whether x is from low to high
abbrev pub between : ℕ → ℕ → ℕ → Bool
between low high x = leb low x && leb x high

-- conditions in the order in which they are looked at, each with its number
abbrev pub Conditions : Type 0
Conditions = List (ℕ × Bool)

abbrev pub numbers_of : Conditions → List ℕ
numbers_of cs = map (λ c. c.0) cs

-- the number of the first that holds, or 0
unfoldable pub first_of : Conditions → ℕ
first_of [] = 0
first_of (c ∷ cs) = elim c.1 [ true ↦ c.0 | false ↦ first_of cs ]

-- none of them holds
abbrev pub NoneHolds : Conditions → Type 0
NoneHolds cs = T (every (λ c. not c.1) cs)

-- One with number k holds, and none before it. This is the paper's; first_of computes it.
pub record FirstHolds (cs : Conditions) (k : ℕ) : Type 0 where
  pub before : Conditions
  pub after : Conditions
  pub are : cs ≡ before ++ ((k, true) ∷ after)
  pub none : NoneHolds before

-- the refusal number (0 if none), the verdict as 1 or 0, the count and the rounds; the last three are 0 after a refusal
pub record Outcome : Type 0 where
  pub refusal : ℕ
  pub verdict : ℕ
  pub count : ℕ
  pub rounds : ℕ

-- A call gives marks exactly when it answers a report. It is spent if it refuses with 14.
abbrev pub GivesMarks : Outcome → Type 0
GivesMarks o = o.refusal ≡ 0

abbrev pub Spent : Outcome → Type 0
Spent o = o.refusal ≡ 14

abbrev pub refused : ℕ → Outcome
refused k = record { refusal = k; verdict = 0; count = 0; rounds = 0 }

-- the report of a set of marked states: is the initial state marked, how many are, and the rounds
abbrev pub report_of : ℕ → States → ℕ → Outcome
report_of initial v rounds = record { refusal = 0; verdict = bit (has v initial); count = size v; rounds = rounds }

-- by a refusal number: what holds after success, or after a refusal
abbrev pub by_refusal : {A : Type 0} → ℕ → A → A → A
by_refusal zero success refusal = success
by_refusal (suc k) success refusal = refusal

-- the report if no condition holds, else the number of the first that does
unfoldable pub outcome_by : Conditions → Outcome → Outcome
outcome_by cs report = by_refusal (first_of cs) report (refused (first_of cs))
