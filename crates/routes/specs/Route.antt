-- The two routes: what each works out, its own rounds, what it answers, and what it leaves in lent memory; and what the programs lend.
use Rattle.std.specs.Prelude.{◌≡◌, Bool, false, ◌||◌, List, [], ◌∷◌, ◌++◌, map, ℕ, ltb, length, drop, replicate, Result, Ok, Err}
use Rattle.sets.specs.States.{States, has, size, all_empty}
use Rattle.sets.specs.Words.{words, bit, word_count}
use Rattle.sets.specs.computed.Iteration.{Worked}
use Rattle.sets.specs.Refusals.{Conditions, first_of, Outcome, Spent, refused, by_refusal, outcome_by}
use Rattle.solver.specs.computed.Solved.{evaluate, run}
use Rattle.solver.specs.File.{sizes_of, cells, cell_limit}
use Rattle.solver.specs.declared.Report.{Report}
use Rattle.solver.specs.Outcome.{Scratch, solve_number, FileRounds, solve_too_short}
use Rattle.cases.specs.Case.{Case, case_of}
use Rattle.cases.specs.Meaning.{intersection}
use Rattle.cases.specs.computed.Reached.{reachable}
use Rattle.cases.specs.Tally.{tally_of}
use Rattle.cases.specs.declared.Tally.{Tally}
use Rattle.translate.specs.Bytes.{file_of}
use Rattle.cases.specs.Conditions.{case_conditions}
use Rattle.cases.specs.Opening.{case_number}
use Rattle.translate.specs.Translating.{file, file_after}
use Rattle.routes.specs.declared.Cause.{Cause}
use Rattle.routes.specs.declared.Cause.TheVariants.{Open, Run}
use Rattle.routes.specs.declared.Numbers.{Numbers}
use Rattle.routes.specs.Direct.{Direct}
use Rattle.routes.specs.computed.Worked.{worked}

-- the paper's number of each cause
unfoldable pub route_number : Cause → ℕ
route_number (Open cause) = case_number cause
route_number (Run cause) = solve_number cause

-- the outcome that an answer stands for
unfoldable pub route_answer : Result Report Cause → Outcome
route_answer (Ok r) = record { refusal = 0; verdict = bit r.verdict; count = r.count; rounds = r.rounds }
route_answer (Err cause) = refused (route_number cause)

-- the outcome that numbers stand for
unfoldable pub shown : Numbers → Outcome
shown n = record { refusal = n.refusal; verdict = n.verdict; count = n.count; rounds = n.rounds }

-- ---- what a route works out of a case

pub data Route : Type 0 where
  direct equation : Route

-- Own rounds: what a route's rules count without a limit. Of direct: until the root's set is worked out. Of the equation route: on the
-- case's equation file, from block 0 until that block stops. This is the paper's.
unfoldable pub OwnRounds : Route → Case → ℕ → Type 0
OwnRounds direct c r = (v : States) × Direct c.states c.transitions c.formula (all_empty c.states) v r
OwnRounds equation c r = FileRounds (file_of c) r

-- The same by functions that compute: the set of the root, or of block 0, and the rounds.
unfoldable pub run_of : Route → Case → Worked
run_of direct c = worked c.states c.transitions c.formula (all_empty c.states)
run_of equation c = ((run (file_of c)).0 0, (run (file_of c)).1)

-- ---- the conditions in order

-- what is lent: bytes for the equation file, working bytes and mark words, as they are before the call
pub record Lent : Type 0 where
  pub file : List ℕ
  pub work : List ℕ
  pub marks : List ℕ

abbrev pub lent : List ℕ → List ℕ → List ℕ → Lent
lent file work marks = record { file = file; work = work; marks = marks }

-- direct is lent mark words only
abbrev pub marks_only : List ℕ → Lent
marks_only marks = lent [] [] marks

-- 13: the lent memory is too short. It looks at the marks in both routes, and in the equation route also at the file buffer, which needs
-- the file's length, and at the working bytes.
unfoldable pub too_short : Route → Case → Lent → Bool
too_short direct c l = ltb (length l.marks) word_count
too_short equation c l = ltb (length l.file) (length (file_of c)) || solve_too_short (file_of c) (length l.work) (length l.marks)

-- 14: the rounds exceed the limit. Of an accepted case they are the own rounds, by `exceeds_iff` (proofs/Promises.antt).
unfoldable pub exceeds : Route → Case → ℕ → Bool
exceeds R c limit = ltb limit (run_of R c).1

-- the conditions of a run over a case
unfoldable pub run_conditions : Route → Case → Lent → ℕ → Conditions
run_conditions R c l limit = (13, too_short R c l) ∷ (14, exceeds R c limit) ∷ []

-- A case's own conditions come first; a route asks neither 11 nor 12.
unfoldable pub route_conditions : Route → List ℕ → Lent → ℕ → Conditions
route_conditions R b l limit = case_conditions b ++ run_conditions R (case_of b) l limit

-- Lent memory is enough for a route if 13 does not hold.
abbrev pub Enough : Route → Case → Lent → Type 0
Enough R c l = too_short R c l ≡ false

-- ---- what is answered and left, by the conditions

-- The report of a run that marks the states v of a case, where w are those that can be reached: whether the initial state is marked, how many states
-- are marked and can be reached, and the rounds.
abbrev pub run_report : Case → States → States → ℕ → Outcome
run_report c v w rounds = record { refusal = 0; verdict = bit (has v c.initial); count = size (intersection c.states v w); rounds = rounds }

-- the report, or the number of the first condition that holds
unfoldable pub route_outcome : Conditions → Route → Case → Outcome
route_outcome cs R c = outcome_by cs (run_report c (run_of R c).0 (reachable c) (run_of R c).1)

-- of any bytes
abbrev pub outcome_of : Route → List ℕ → Lent → ℕ → Outcome
outcome_of R b l limit = route_outcome (route_conditions R b l limit) R (case_of b)

-- After success the first words are the route's set; a refusal changes nothing.
unfoldable pub marks_after : Conditions → Route → Case → List ℕ → List ℕ
marks_after cs R c marks = by_refusal (first_of cs) (words word_count (run_of R c).0 ++ drop word_count marks) marks

-- After success the first working bytes are 1 or 0 for each cell under the solution; a refusal but 14 changes nothing.
unfoldable pub work_after : List ℕ → Lent → ℕ → List ℕ
work_after b l limit =
    by_refusal (first_of (route_conditions equation b l limit))
    (map bit (evaluate (cells (file b)) (run (file b)).0) ++ drop (sizes_of (file b)).cells l.work) l.work

-- ---- the contracts

-- What every run promises of the outcome o of its answer, and of the words lent and as they are afterwards: by the conditions cs, of the case c.
pub record RanBy (cs : Conditions) (R : Route) (c : Case) (marks : List ℕ) (o : Outcome) (after : List ℕ) : Type 0 where
  pub answers : o ≡ route_outcome cs R c
  pub marks_are : after ≡ marks_after cs R c marks

-- What a route promises of any bytes: of the outcome o, and beside it of the tally t, which is that of the bytes, whatever is lent and answered.
-- Direct promises this.
pub record Ran (R : Route) (b : List ℕ) (l : Lent) (limit : ℕ) (o : Outcome) (t : Tally) (after : List ℕ) : Type 0 where
  pub by : RanBy (route_conditions R b l limit) R (case_of b) l.marks o after
  pub tally_is : t ≡ tally_of b

-- What the equation route promises: this, and the bytes of the file buffer, which are translate's whatever solve then answers, and the working
-- bytes. After 14 each of the c working bytes is 0 or 1.
pub record EquationRan (b : List ℕ) (l : Lent) (limit : ℕ) (o : Outcome) (t : Tally) (file' work' marks' : List ℕ) : Type 0 where
  pub ran : Ran equation b l limit o t marks'
  pub file_is : file' ≡ file_after b l.file
  pub work_is : ¬ Spent o → work' ≡ work_after b l limit
  pub work_14 : Spent o → Scratch (sizes_of (file b)).cells l.work work'

-- ---- what the programs lend

-- Their limit, their bytes for the equation file, and their memory: fresh, with working bytes and mark words for every file.
abbrev pub program_limit : ℕ
program_limit = 1_000_000

abbrev pub program_file : ℕ
program_file = 65_536

abbrev pub program_memory : Lent
program_memory = record { file = replicate program_file 0; work = replicate cell_limit 0; marks = replicate word_count 0 }
