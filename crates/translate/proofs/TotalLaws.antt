-- How many operands cells have: a sum over states, and over nodes.
use mathlib.Core.Path.{◌≡◌, refl, sym, ap, ◌∙◌}
use mathlib.Core.List.{List, [], ◌∷◌, map}
use Prim.Native.Nat.{ℕ, ◌+◌, ◌*◌, ◌≤◌}
use native.Mathlib.Omega.{arith}
use lib.ListN.{length, length-append, length-map}
use Rattle.std.specs.List.{range_with_len, sum_by}
use Rattle.std.proofs.lemmas.List.Sums.{sum_by-cons}
use Rattle.std.proofs.lemmas.List.FromFn.{length-range_with_len}
use Rattle.sets.proofs.Ranges.{range_is}
use Rattle.sets.specs.Lists.{numbers_from, keep}
use Rattle.solver.specs.Cells.{operands_of}
use Rattle.cases.specs.File.{transition_limit}
use Rattle.cases.specs.declared.Transition.{Transition}
use Rattle.cases.proofs.Distinct.{length_keep}
use Rattle.translate.specs.declared.Shape.{Shape}
use Rattle.translate.specs.Bytes.{all_operands}
use Rattle.translate.specs.internal.Shapes.{shape_cells}
use Rattle.translate.specs.internal.Writing.{leaves, shape_operands, shape_cell}
use Rattle.translate.proofs.Counts.{operands_append}

module _ (ts : List Transition) where
  -- how many operands the cell of a shape has in state s
  abbrev pub size : Shape → ℕ → ℕ
  size x s = length (shape_operands 0 ts x 0 s)

  -- at each node, and of each number of states
  pub size_is : (x : Shape) (n i s : ℕ) → length (shape_operands n ts x i s) ≡ size x s
  unfolding shape_cell operands_of
  size_is Shape.False n i s = refl
  size_is Shape.True n i s = refl
  size_is (Shape.And second) n i s = refl
  size_is (Shape.Or second) n i s = refl
  size_is (Shape.Box labels) n i s = length-map (keep (leaves s labels) ts) (λ t. (i + 1) * n + t.target) ∙ sym (length-map (keep (leaves s labels) ts) (λ t. (0 + 1) * 0 + t.target))
  size_is (Shape.Diamond labels) n i s = length-map (keep (leaves s labels) ts) (λ t. (i + 1) * n + t.target) ∙ sym (length-map (keep (leaves s labels) ts) (λ t. (0 + 1) * 0 + t.target))
  size_is (Shape.Variable block) n i s = refl
  size_is (Shape.Mu block) n i s = refl
  size_is (Shape.Nu block) n i s = refl

  -- of all states of a node, and of all nodes
  pub states_sum : (n : ℕ) (x : Shape) (i : ℕ) (ss : List ℕ) → sum_by (size x) ss ≡ length (all_operands (map (shape_cell n ts x i) ss))
  unfolding all_operands
  states_sum n x i [] = refl
  states_sum n x i (s ∷ ss) =
      omega (arith, sum_by-cons (size x) s ss, states_sum n x i ss, size_is x n i s, length-append (shape_operands n ts x i s) (all_operands (map (shape_cell n ts x i) ss)))

  pub node_sum : (n : ℕ) (x : Shape) (i : ℕ) → sum_by (size x) (range_with_len 0 n) ≡ length (all_operands (map (shape_cell n ts x i) (numbers_from 0 n)))
  node_sum n x i = states_sum n x i (range_with_len 0 n) ∙ ap (λ (ss : List ℕ). length (all_operands (map (shape_cell n ts x i) ss))) (range_is 0 n)

  abbrev pub node_size : ℕ → Shape → ℕ
  node_size n x = length (all_operands (map (shape_cell n ts x 0) (numbers_from 0 n)))

  pub nodes_sum : (n : ℕ) (xs : List Shape) (i : ℕ) → sum_by (node_size n) xs ≡ length (all_operands (shape_cells n ts i xs))
  unfolding all_operands shape_cells
  nodes_sum n [] i = refl
  nodes_sum n (x ∷ xs) i =
      let row = map (shape_cell n ts x i) (numbers_from 0 n) in
      omega (
        arith,
        sum_by-cons (node_size n) x xs,
        sym (node_sum n x 0) ∙ node_sum n x i,
        nodes_sum n xs (i + 1),
        ap length (operands_append row (shape_cells n ts (i + 1) xs)),
        length-append (all_operands row) (all_operands (shape_cells n ts (i + 1) xs)),
      )

  -- there are not many
  module _ (few : length ts ≤ transition_limit) where
    size_few : (x : Shape) (s : ℕ) → size x s ≤ transition_limit + 2
    unfolding shape_cell operands_of
    size_few Shape.False s = omega arith
    size_few Shape.True s = omega arith
    size_few (Shape.And second) s = omega arith
    size_few (Shape.Or second) s = omega arith
    size_few (Shape.Box labels) s = omega (arith, few, length-map (keep (leaves s labels) ts) (λ t. (0 + 1) * 0 + t.target), length_keep (leaves s labels) ts)
    size_few (Shape.Diamond labels) s = omega (arith, few, length-map (keep (leaves s labels) ts) (λ t. (0 + 1) * 0 + t.target), length_keep (leaves s labels) ts)
    size_few (Shape.Variable block) s = omega arith
    size_few (Shape.Mu block) s = omega arith
    size_few (Shape.Nu block) s = omega arith

    states_few : (x : Shape) (ss : List ℕ) → sum_by (size x) ss ≤ (transition_limit + 2) * length ss
    states_few x [] = omega arith
    states_few x (s ∷ ss) = omega (arith, sum_by-cons (size x) s ss, size_few x s, states_few x ss)

    pub node_few : (n : ℕ) (x : Shape) → sum_by (size x) (range_with_len 0 n) ≤ (transition_limit + 2) * n
    node_few n x = omega (arith, states_few x (range_with_len 0 n), length-range_with_len 0 n)
