-- What the writers of the equation file promise of the part of the output that they are handed.
use Rattle.std.specs.Prelude.{◌≡◌, Bool, false, cond, ◌&&◌, List, [], ◌∷◌, ◌++◌, map, ℕ, ◌+◌, ◌*◌, ◌≤◌, length, get_or, take, drop}
use Rattle.sets.specs.Lists.{numbers_from, keep}
use Rattle.solver.specs.Cells.{Cell}
use Rattle.cases.specs.File.{transition_in}
use Rattle.cases.specs.declared.Transition.{Transition}
use Rattle.translate.specs.declared.bytes.Writer.{Writer}
use Rattle.translate.specs.Bytes.{bytes, all_operands, cell_numbers}
use Rattle.translate.specs.internal.Writing.{leaves}

-- a writer has room for k numbers more
abbrev pub HasRoom : Writer → ℕ → Type 0
HasRoom w k = 4 * (w.done + k) ≤ length w.out.now

-- the numbers xs were written behind those that stood there, and no other byte changed
pub record Wrote (xs : List ℕ) (before after : Writer) : Type 0 where
  pub same_buffer : after.out.ghost_name ≡ before.out.ghost_name
  pub long : length after.out.now ≡ length before.out.now
  pub done : after.done ≡ before.done + length xs
  pub written : take (4 * after.done) after.out.now ≡ take (4 * before.done) before.out.now ++ bytes xs
  pub behind : drop (4 * after.done) after.out.now ≡ drop (4 * after.done) before.out.now

-- the cells cs were written, where their operands follow `used` others, and r are used then
pub record WroteCells (used : ℕ) (cs : List Cell) (before after : Writer) (r : ℕ) : Type 0 where
  pub wrote : Wrote (cell_numbers used cs) before after
  pub count : r ≡ used + length (all_operands cs)

-- a buffer starts with the numbers xs, and no byte behind them changed
abbrev pub Starts : List ℕ → List ℕ → List ℕ → Type 0
Starts xs before after = after ≡ bytes xs ++ drop (4 * length xs) before

-- whether record j is flagged as the first of its kind
abbrev pub flagged : List Bool → ℕ → Bool
flagged first j = get_or first j false

-- the distinct transitions: the flagged ones of the first m records
unfoldable pub distinct_in : List ℕ → List Bool → ℕ → List Transition
distinct_in part first m = map (transition_in part) (keep (flagged first) (numbers_from 0 m))

-- whether record j is a distinct transition from s with its label in the mask
unfoldable pub leaves_at : List ℕ → List Bool → ℕ → ℕ → ℕ → Bool
leaves_at part first s labels j = flagged first j && leaves s labels (transition_in part j)

-- the transitions from s with their labels in the mask
unfoldable pub leaving : List ℕ → List Bool → ℕ → ℕ → ℕ → List Transition
leaving part first s labels m = keep (leaves s labels) (distinct_in part first m)

-- operands for transitions: the cells of their targets, in the row of cells that starts at `base`
unfoldable pub target_cells : ℕ → List Transition → List ℕ
target_cells base ts = map (λ t. base + t.target) ts

-- the operand that record j gives, if it leaves s
unfoldable pub target_cell : List ℕ → List Bool → ℕ → ℕ → ℕ → ℕ → List ℕ
target_cell part first base s labels j = cond (leaves_at part first s labels j) ((base + (transition_in part j).target) ∷ []) []
