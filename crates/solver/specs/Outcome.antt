-- What solve answers, and what marks and working bytes are afterwards.
use Rattle.std.specs.Prelude.{◌≡◌, Bool, false, not, ◌||◌, List, [], ◌∷◌, ◌++◌, map, ℕ, ◌≤◌, ltb, length, get_or, drop, Result, Ok, Err}
use Rattle.sets.specs.States.{Valuation, all_empty}
use Rattle.sets.specs.Words.{words, bit, word_count}
use Rattle.sets.specs.Refusals.{Conditions, first_of, Outcome, Spent, refused, report_of, by_refusal, outcome_by}
use Rattle.solver.specs.computed.Solved.{evaluate, run}
use Rattle.solver.specs.File.{sizes_of, blocks, cells}
use Rattle.solver.specs.Conditions.{layout_ok, tables_ok}
use Rattle.solver.specs.Solution.{Solves}
use Rattle.solver.specs.declared.Cause.{Cause}
use Rattle.solver.specs.declared.Cause.TheVariants.{Layout, Table, Memory, Spent as Exceeded}
use Rattle.solver.specs.declared.Report.{Report}

-- the paper's number of each cause
unfoldable pub solve_number : Cause → ℕ
solve_number Layout = 11
solve_number Table = 12
solve_number Memory = 13
solve_number Exceeded = 14

-- the outcome that an answer stands for
unfoldable pub solve_answer : Result Report Cause → Outcome
solve_answer (Ok r) = record { refusal = 0; verdict = bit r.verdict; count = r.count; rounds = r.rounds }
solve_answer (Err cause) = refused (solve_number cause)

-- Own rounds: what the rules count without a limit, from block 0 until that block stops. This is the paper's.
unfoldable pub FileRounds : List ℕ → ℕ → Type 0
FileRounds e r = (σ : Valuation) × Solves (sizes_of e).states (cells e) (blocks e) 0 (all_empty (sizes_of e).states) σ r

-- ---- the conditions in order; work and marks are the lent numbers of working bytes and mark words

-- 11: fewer bytes than a header has, or the version, a count, the initial state, an offset or the length is wrong
unfoldable pub bad_layout : List ℕ → Bool
bad_layout e = not (layout_ok e)

-- 12: a block, cell or operand breaks its rule
unfoldable pub bad_table : List ℕ → Bool
bad_table e = not (tables_ok e)

-- 13: lent memory too short: fewer working bytes than cells, or fewer mark words than a set has
unfoldable pub solve_too_short : List ℕ → ℕ → ℕ → Bool
solve_too_short e work marks = ltb work (sizes_of e).cells || ltb marks word_count

-- 14: the rounds exceed the limit. `run` computes them; of a well-formed file they are the own rounds, by `exceeds_iff` (proofs/Promises.antt).
unfoldable pub solve_exceeds : List ℕ → ℕ → Bool
solve_exceeds e limit = ltb limit (run e).1

unfoldable pub solve_conditions : List ℕ → ℕ → ℕ → ℕ → Conditions
solve_conditions e work marks limit = (11, bad_layout e) ∷ (12, bad_table e) ∷ (13, solve_too_short e work marks) ∷ (14, solve_exceeds e limit) ∷ []

-- the number of the first condition that holds, or 0
unfoldable pub solve_refusal : List ℕ → ℕ → ℕ → ℕ → ℕ
solve_refusal e work marks limit = first_of (solve_conditions e work marks limit)

-- Lent memory is enough if 13 does not hold.
abbrev pub SolveEnough : List ℕ → ℕ → ℕ → Type 0
SolveEnough e work marks = solve_too_short e work marks ≡ false

-- ---- what is answered

-- marked are the states of block 0's set
unfoldable pub report : List ℕ → Outcome
report e = report_of (sizes_of e).initial ((run e).0 0) (run e).1

unfoldable pub solve_outcome : List ℕ → ℕ → ℕ → ℕ → Outcome
solve_outcome e work marks limit = outcome_by (solve_conditions e work marks limit) (report e)

-- ---- what lent memory holds afterwards

-- After success the first words are block 0's set; a refusal changes nothing.
unfoldable pub solve_marks : List ℕ → ℕ → List ℕ → ℕ → List ℕ
solve_marks e work marks limit =
    by_refusal (solve_refusal e work (length marks) limit) (words word_count ((run e).0 0) ++ drop word_count marks) marks

-- After success the first bytes are the cells' values under the solution of all blocks; a refusal but 14 changes nothing.
unfoldable pub solve_work : List ℕ → List ℕ → ℕ → ℕ → List ℕ
solve_work e work marks limit =
    by_refusal (solve_refusal e (length work) marks limit) (map bit (evaluate (cells e) (run e).0) ++ drop (sizes_of e).cells work) work

-- after 14 each of the first c bytes is 0 or 1, and the rest is unchanged
pub record Scratch (c : ℕ) (work after : List ℕ) : Type 0 where
  pub bytes : List ℕ
  pub sized : length bytes ≡ c
  pub bits : (i : ℕ) → get_or bytes i 0 ≤ 1
  pub are : after ≡ bytes ++ drop c work

-- ---- the contract

-- What solve promises of the outcome o of its answer, with the bytes and words lent and as they are afterwards.
pub record Answered (e work marks : List ℕ) (limit : ℕ) (o : Outcome) (work' marks' : List ℕ) : Type 0 where
  pub answers : o ≡ solve_outcome e (length work) (length marks) limit
  pub marks_are : marks' ≡ solve_marks e (length work) marks limit
  pub work_is : ¬ Spent o → work' ≡ solve_work e work (length marks) limit
  pub work_14 : Spent o → Scratch (sizes_of e).cells work work'
