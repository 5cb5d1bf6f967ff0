-- What the writers of a case's equations are handed, and what they leave in the buffer.
use Rattle.std.specs.Prelude.{◌≡◌, Bool, cond, List, ◌++◌, ℕ, ◌+◌, ◌*◌, ◌≤◌, ◌<◌, ltb, length, drop, Result, Ok, Err}
use Rattle.sets.specs.Words.{state_limit}
use Rattle.solver.specs.File.{blocks_at, operand_limit}
use Rattle.cases.specs.File.{transition_limit, node_limit}
use Rattle.cases.specs.declared.Transition.{Transition}
use Rattle.translate.specs.Bytes.{System, all_operands, bytes, numbers}
use Rattle.translate.specs.internal.Writing.{second_of}
use Rattle.translate.specs.internal.Shapes.{shape_at, shape_cells, shape_blocks}
use Rattle.translate.specs.internal.Parts.{distinct_in}
use Rattle.translate.specs.declared.Shape.{Shape}
use Rattle.translate.specs.declared.Cause.{Cause}
use Rattle.translate.specs.declared.Cause.TheVariants.{Memory}

-- the equations of nodes with these shapes; ts are the distinct transitions
unfoldable pub shape_system : ℕ → ℕ → List Transition → List Shape → System
shape_system n initial ts xs = record { states = n; initial = initial; blocks = shape_blocks n 0 xs; cells = shape_cells n ts 0 xs }

-- m records with their flags, the shapes of all nodes and n states are within limits, as those of an accepted case
pub record Sources (part : List ℕ) (first : List Bool) (m : ℕ) (shapes : List Shape) (n : ℕ) : Type 0 where
  pub few_transitions : m ≤ transition_limit
  pub few_nodes : length shapes ≤ node_limit + 1
  pub few_states : n ≤ state_limit
  pub second : (i : ℕ) → i < length shapes → second_of (shape_at shapes i) ≤ node_limit
  pub few_operands : length (all_operands (shape_cells n (distinct_in part first m) 0 shapes)) ≤ operand_limit

-- so many cells, blocks and operands, and a buffer of `room` bytes has room for their file
pub record RoomFor (y : System) (c d p room : ℕ) : Type 0 where
  pub blocks : d ≡ length y.blocks
  pub cells : c ≡ length y.cells
  pub operands : p ≡ length (all_operands y.cells)
  pub few_blocks : d ≤ node_limit + 1
  pub roomy : blocks_at + 8 * d + 12 * c + 4 * p ≤ room

-- The file of some equations is written to the start of a buffer, and all beyond it unchanged; where there is no room for it nothing changed.
pub record Emitted (y : System) (before : List ℕ) (w : Result ℕ Cause) (after : List ℕ) : Type 0 where
  pub answer : w ≡ cond (ltb (length before) (length (bytes (numbers y)))) (Err Memory) (Ok (length (bytes (numbers y))))
  pub written : after ≡ cond (ltb (length before) (length (bytes (numbers y)))) before (bytes (numbers y) ++ drop (length (bytes (numbers y))) before)
