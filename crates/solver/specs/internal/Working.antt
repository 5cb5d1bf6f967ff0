-- What the code's parts hold while blocks are solved, and what each part of the code answers.
use Rattle.std.specs.Prelude.{◌≡◌, Bool, false, ◌&&◌, List, [], map, ℕ, ◌+◌, ◌<◌, ◌≤◌, eqb, ltb, length, get_or, drop, Ok, Option, MatchOption}
use Rattle.std.specs.declared.ops.ControlFlow.{ControlFlow}
use Rattle.std.specs.ControlFlow.{MatchControlFlow}
use Rattle.sets.specs.States.{States, start, Valuation, update}
use Rattle.sets.specs.Words.{words, bit, word_count, state_limit}
use Rattle.sets.specs.Refusals.{report_of}
use Rattle.solver.specs.Cells.{Values}
use Rattle.solver.specs.computed.Solved.{evaluate, run}
use Rattle.solver.specs.File.{sizes_of, blocks, block_at, cells, operands, block_limit}
use Rattle.solver.specs.Conditions.{WellFormed}
use Rattle.solver.specs.Solution.{RightSides, Solves}
use Rattle.solver.specs.declared.Sizes.{Sizes}
use Rattle.solver.specs.Outcome.{solve_answer}
use Rattle.solver.specs.declared.Found.{Found}
use Rattle.solver.specs.declared.Report.{Report}

-- a well-formed file and its counts
pub record OpenFile (e : List ℕ) (sizes : Sizes) : Type 0 where
  pub formed : WellFormed e
  pub counts : sizes ≡ sizes_of e

-- a working byte of 0 or 1 for each cell
pub record Ready (e : List ℕ) (work : List ℕ) : Type 0 where
  pub room : length work ≡ (sizes_of e).cells
  pub bits : (i : ℕ) → get_or work i 0 ≤ 1

-- the operand table has `count` cell numbers from a place on
pub record ListAt (e : List ℕ) (from count : ℕ) : Type 0 where
  pub fits : from + count ≤ (sizes_of e).operands
  pub below : (j : ℕ) → j < count → get_or (operands e) (from + j) 0 < (sizes_of e).cells

-- row k is the words of block k's set
pub record HoldsRows (n : ℕ) (rows : List (List ℕ)) (ρ : Valuation) : Type 0 where
  pub sized : (k : ℕ) → length (ρ k) ≡ n
  pub row : (k : ℕ) → k < block_limit → get_or rows k [] ≡ words word_count (ρ k)

-- the working bytes from cell `from` on are the values vs
pub record Shows (vs : List Bool) (from : ℕ) (work : List ℕ) : Type 0 where
  pub byte : (j : ℕ) → from ≤ j → j < length vs → get_or work j 0 ≡ bit (get_or vs j false)

-- the truth values of working bytes
unfoldable pub truths : List ℕ → List Bool
truths work = map (λ x. eqb x 1) work

-- a cell's value, where those of the cells above it are shown
pub record Valued (e : List ℕ) (rows : List (List ℕ)) (i : ℕ) (work : List ℕ) (answer : Bool) : Type 0 where
  pub right : (ρ : Valuation) (vs : List Bool) → HoldsRows (sizes_of e).states rows ρ → Values (cells e) ρ vs → Shows vs (i + 1) work → answer ≡ get_or vs i false

-- the values of the cells from `from` on
pub record CellsValued (e : List ℕ) (rows : List (List ℕ)) (from : ℕ) (work : List ℕ) : Type 0 where
  pub ready : Ready e work
  pub right : (ρ : Valuation) (vs : List Bool) → HoldsRows (sizes_of e).states rows ρ → Values (cells e) ρ vs → Shows vs from work

-- SolvesFrom e k ρ σ r: from block k, with the sets ρ, the file's blocks are solved at σ after r rounds
unfoldable pub SolvesFrom : List ℕ → ℕ → Valuation → Valuation → ℕ → Type 0
SolvesFrom e k ρ σ r = Solves (sizes_of e).states (cells e) (drop k (blocks e)) k ρ σ r

abbrev pub RightSidesOf : List ℕ → ℕ → Valuation → States → Type 0
RightSidesOf e k σ w = RightSides (sizes_of e).states (cells e) (block_at e k).first σ w

-- block k's set is replaced by its right-hand sides, and the working bytes afterwards
pub record Applied (e : List ℕ) (rows : List (List ℕ)) (k : ℕ) (work : List ℕ) (rows_after : List (List ℕ)) : Type 0 where
  pub ready : Ready e work
  pub right : (σ : Valuation) (w : States) → HoldsRows (sizes_of e).states rows σ → RightSidesOf e k σ w → HoldsRows (sizes_of e).states rows_after (update σ k w)

-- the first k blocks where they start, no state for mu and every state for nu; the others empty
unfoldable pub starting : List ℕ → ℕ → Valuation
starting e k j = start (sizes_of e).states (ltb j k && (block_at e j).sign)

-- the blocks from k on are held where they start
pub record Started (e : List ℕ) (k : ℕ) (rows : List (List ℕ)) : Type 0 where
  pub row : (j : ℕ) → k ≤ j → j < (sizes_of e).blocks → get_or rows j [] ≡ words word_count (start (sizes_of e).states (block_at e j).sign)

-- Solving from block k takes more rounds than are left.
pub record TooMany (e : List ℕ) (rows : List (List ℕ)) (k budget : ℕ) : Type 0 where
  pub over : (ρ σ : Valuation) (r : ℕ) → HoldsRows (sizes_of e).states rows ρ → SolvesFrom e k ρ σ r → budget < r

-- The blocks from k on are solved, and the rounds counted.
pub record Settled (e : List ℕ) (rows : List (List ℕ)) (k budget : ℕ) (rows_after : List (List ℕ)) (budget_after : ℕ) : Type 0 where
  pub low : budget_after ≤ budget
  pub right : (ρ σ : Valuation) (r : ℕ) → HoldsRows (sizes_of e).states rows ρ → SolvesFrom e k ρ σ r →
      (budget ≡ budget_after + r) × HoldsRows (sizes_of e).states rows_after σ

-- Solving from block k, with `budget` rounds left: None exactly if it takes more.
pub record Solving (e : List ℕ) (rows : List (List ℕ)) (k budget : ℕ) (work : List ℕ) (answer : Option (List (List ℕ))) (budget_after : ℕ) : Type 0 where
  pub ready : Ready e work
  pub answers : MatchOption answer (TooMany e rows k budget) (λ rows_after. Settled e rows k budget rows_after budget_after)

-- A round of block k takes more rounds than are left: those of the later blocks, and one.
pub record TooManyInRound (e : List ℕ) (rows : List (List ℕ)) (k budget : ℕ) : Type 0 where
  pub over : (ρ τ : Valuation) (q : ℕ) → HoldsRows (sizes_of e).states rows ρ → SolvesFrom e (k + 1) ρ τ q → budget < q + 1

-- The rounds of the later blocks are counted, and one.
pub record RoundCounted (e : List ℕ) (rows : List (List ℕ)) (k budget budget_after : ℕ) : Type 0 where
  pub low : budget_after < budget
  pub counted : (ρ τ : Valuation) (q : ℕ) → HoldsRows (sizes_of e).states rows ρ → SolvesFrom e (k + 1) ρ τ q → budget ≡ budget_after + q + 1

-- The later blocks are solved, and block k's set is its right-hand sides.
pub record IsStable (e : List ℕ) (rows : List (List ℕ)) (k budget : ℕ) (rows_after : List (List ℕ)) (budget_after : ℕ) : Type 0 where
  pub round : RoundCounted e rows k budget budget_after
  pub kept : (ρ τ : Valuation) (q : ℕ) → HoldsRows (sizes_of e).states rows ρ → SolvesFrom e (k + 1) ρ τ q → HoldsRows (sizes_of e).states rows_after τ
  pub same : (ρ τ : Valuation) (q : ℕ) (w : States) → HoldsRows (sizes_of e).states rows ρ → SolvesFrom e (k + 1) ρ τ q → RightSidesOf e k τ w → w ≡ ρ k

-- Block k's set is replaced by its right-hand sides, which differ from it.
pub record IsReplaced (e : List ℕ) (rows : List (List ℕ)) (k budget : ℕ) (rows_after : List (List ℕ)) (budget_after : ℕ) : Type 0 where
  pub round : RoundCounted e rows k budget budget_after
  pub differs : (ρ τ : Valuation) (q : ℕ) (w : States) → HoldsRows (sizes_of e).states rows ρ → SolvesFrom e (k + 1) ρ τ q → RightSidesOf e k τ w →
      (get_or rows_after k [] ≡ words word_count w) × ¬ (w ≡ ρ k)

-- One round of block k: the later blocks are solved, a round is counted, and the right-hand sides are compared with the set held. It breaks where they are that set.
pub record Turned (e : List ℕ) (rows : List (List ℕ)) (k budget : ℕ) (work : List ℕ) (answer : Option (ControlFlow (List (List ℕ)) (List (List ℕ)))) (budget_after : ℕ) : Type 0 where
  pub ready : Ready e work
  pub answers : MatchOption answer (TooManyInRound e rows k budget) (λ end.
      MatchControlFlow end (λ rows_after. IsReplaced e rows k budget rows_after budget_after) (λ rows_after. IsStable e rows k budget rows_after budget_after))

-- What solving all blocks finds, and the working bytes afterwards.
pub record IsFound (e : List ℕ) (limit : ℕ) (work : List ℕ) (found : Found) : Type 0 where
  pub within : (run e).1 ≤ limit
  pub counted : found.rounds ≡ (run e).1
  pub first : found.row ≡ words word_count ((run e).0 0)
  pub values : work ≡ map bit (evaluate (cells e) (run e).0)

-- All blocks solved, and all cells worked out: None exactly if the rounds exceed the limit.
pub record AllSolved (e : List ℕ) (limit : ℕ) (work : List ℕ) (answer : Option Found) : Type 0 where
  pub ready : Ready e work
  pub answers : MatchOption answer (limit < (run e).1) (IsFound e limit work)

-- the report of a set that is held in words, with an initial state and rounds
pub record Reported (set : List ℕ) (initial rounds : ℕ) (report : Report) : Type 0 where
  pub are : (v : States) → length v ≤ state_limit → set ≡ words word_count v → solve_answer (Ok report) ≡ report_of initial v rounds
