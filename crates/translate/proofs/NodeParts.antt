-- The cells of one node more.
use mathlib.Core.Path.{◌≡◌, refl, ap, ◌∙◌}
use mathlib.Core.List.{List, [], ◌∷◌, ◌++◌, map, append_assoc, append-nil}
use Prim.Native.Nat.{ℕ, ◌+◌, ◌-◌, ◌*◌, ◌≤◌, ◌<◌}
use native.Mathlib.Numerals.{add-one}
use native.Mathlib.Omega.{arith}
use lib.ListN.{length, take, drop, length-append}
use lib.Seq.{take_all, take-suc, take-add, length-take-le}
use Rattle.sets.specs.Lists.{numbers_from}
use Rattle.sets.proofs.Lists.{length_table}
use Rattle.solver.specs.Cells.{Cell}
use Rattle.cases.specs.declared.Transition.{Transition}
use Rattle.translate.specs.declared.Shape.{Shape}
use Rattle.translate.specs.Bytes.{all_operands}
use Rattle.translate.specs.internal.Writing.{shape_cell}
use Rattle.translate.specs.internal.Shapes.{shape_at, shape_cells}
use Rattle.translate.proofs.Counts.{operands_append}

module _ (n : ℕ) (ts : List Transition) where
  -- the cells of two lists of shapes follow one another
  cells_append : (i : ℕ) (xs ys : List Shape) → shape_cells n ts i (xs ++ ys) ≡ shape_cells n ts i xs ++ shape_cells n ts (i + length xs) ys
  unfolding shape_cells
  cells_append i [] ys = let e : i ≡ i + 0 = omega arith in ap (λ (j : ℕ). shape_cells n ts j ys) e
  cells_append i (x ∷ xs) ys =
      let e : i + 1 + length xs ≡ i + length (x ∷ xs) = omega arith in
      rw (cells_append (i + 1) xs ys, e, append_assoc)

  length_all : (xs : List Shape) (i : ℕ) → length (shape_cells n ts i xs) ≡ length xs * n
  unfolding shape_cells
  length_all [] i = omega arith
  length_all (x ∷ xs) i =
      omega (arith, length-append (map (shape_cell n ts x i) (numbers_from 0 n)) (shape_cells n ts (i + 1) xs), length_table (shape_cell n ts x i) n, length_all xs (i + 1))

  -- the cells of node i, of a shape x, and of the first k nodes
  abbrev pub row : Shape → ℕ → List Cell
  row x i = map (shape_cell n ts x i) (numbers_from 0 n)

  abbrev pub cells_to : List Shape → ℕ → List Cell
  cells_to xs k = shape_cells n ts 0 (take k xs)

  cells_of_one : (x : Shape) (i : ℕ) → shape_cells n ts i (x ∷ []) ≡ row x i
  unfolding shape_cells
  cells_of_one x i = append-nil (row x i)

  pub cells_none : (xs : List Shape) → cells_to xs 0 ≡ []
  unfolding shape_cells
  cells_none xs = refl

  pub cells_more : (xs : List Shape) (i : ℕ) → i < length xs → cells_to xs (i + 1) ≡ cells_to xs i ++ row (shape_at xs i) i
  cells_more xs i h =
      let x : Shape = shape_at xs i in
      let next : take (i + 1) xs ≡ take i xs ++ (x ∷ []) = rw add-one (take-suc xs i Shape.False h) in
      let l : 0 + length (take i xs) ≡ i = omega (arith, length-take-le i xs (omega arith)) in
      ap (shape_cells n ts 0) next ∙ cells_append 0 (take i xs) (x ∷ [])
      ∙ ap (λ (j : ℕ). cells_to xs i ++ shape_cells n ts j (x ∷ [])) l ∙ ap (λ (cs : List Cell). cells_to xs i ++ cs) (cells_of_one x i)

  -- of all nodes
  pub cells_all : (xs : List Shape) (k : ℕ) → length xs ≤ k → cells_to xs k ≡ shape_cells n ts 0 xs
  cells_all xs k h = ap (shape_cells n ts 0) (take_all k xs h)

  pub length_cells : (xs : List Shape) → length (shape_cells n ts 0 xs) ≡ length xs * n
  length_cells xs = length_all xs 0

  -- so many cells
  pub length_cells_to : (xs : List Shape) (k : ℕ) → k ≤ length xs → length (cells_to xs k) ≡ k * n
  length_cells_to xs k h = length_all (take k xs) 0 ∙ ap (λ (j : ℕ). j * n) (length-take-le k xs h)

  -- and their operands
  pub operands_more : (xs : List Shape) (i : ℕ) → i < length xs
      → all_operands (cells_to xs (i + 1)) ≡ all_operands (cells_to xs i) ++ all_operands (row (shape_at xs i) i)
  operands_more xs i h = ap all_operands (cells_more xs i h) ∙ operands_append (cells_to xs i) (row (shape_at xs i) i)

  -- the operands of fewer nodes are not more
  pub operands_fewer : (xs : List Shape) (i k : ℕ) → i < k → k ≤ length xs
      → length (all_operands (cells_to xs i)) + length (all_operands (row (shape_at xs i) i)) ≤ length (all_operands (cells_to xs k))
  operands_fewer xs i k h l =
      let s : k ≡ i + 1 + (k - (i + 1)) = omega arith in
      let e : take k xs ≡ take (i + 1) xs ++ take (k - (i + 1)) (drop (i + 1) xs) = ap (λ (m : ℕ). take m xs) s ∙ take-add (i + 1) (k - (i + 1)) xs in
      let rest : List Cell = shape_cells n ts (0 + length (take (i + 1) xs)) (take (k - (i + 1)) (drop (i + 1) xs)) in
      let split : cells_to xs k ≡ cells_to xs (i + 1) ++ rest = ap (shape_cells n ts 0) e ∙ cells_append 0 (take (i + 1) xs) (take (k - (i + 1)) (drop (i + 1) xs)) in
      omega (
        arith,
        ap (λ (cs : List Cell). length (all_operands cs)) split,
        ap length (operands_append (cells_to xs (i + 1)) rest),
        length-append (all_operands (cells_to xs (i + 1))) (all_operands rest),
        ap length (operands_more xs i (omega arith)),
        length-append (all_operands (cells_to xs i)) (all_operands (row (shape_at xs i) i)),
      )

  -- the operands of the first i nodes and of node i are among those of all
  pub operands_fit : (xs : List Shape) (i : ℕ) → i < length xs
      → length (all_operands (cells_to xs i)) + length (all_operands (row (shape_at xs i) i)) ≤ length (all_operands (shape_cells n ts 0 xs))
  operands_fit xs i h =
      omega (arith, operands_fewer xs i (length xs) h (omega arith), ap (λ (cs : List Cell). length (all_operands cs)) (cells_all xs (length xs) (omega arith)))
