-- The shapes of a formula's nodes: the cells and blocks that are written of them, and the shapes that a formula table gives.
use mathlib.Core.Path.{◌≡◌, refl, sym, ap, ap₂, ◌∙◌}
use mathlib.Core.Bool.{Bool, true, false, cond, ◌||◌}
use mathlib.Core.List.{List, [], ◌∷◌, ◌++◌, map, append-nil, append_assoc, map-append}
use Prim.Native.Nat.{ℕ, zero, suc, ◌+◌, ◌≤◌, ◌<◌}
use native.Mathlib.Nat.{add-zero}
use native.Mathlib.Numerals.{add-one}
use native.Mathlib.Omega.{arith}
use borrow.Author.Tests.{ne_eqb}
use lib.Dec.{eqb, eqb-suc-suc}
use lib.ListN.{length, get_or, length-append, get_or-map}
use Rattle.sets.specs.Lists.{numbers_from}
use Rattle.solver.specs.Cells.{Cell}
use Rattle.solver.specs.File.{Block}
use Rattle.cases.specs.Action.{Action}
use Rattle.cases.specs.Formula.{Formula, False, True, And, Or, Box, Diamond, Variable, Fix, nodes}
use Rattle.cases.specs.declared.Node.{Node}
use Rattle.cases.specs.declared.Transition.{Transition}
use Rattle.cases.specs.Prefix.{arity_in, formula_arities, end_of, formula_at}
use Rattle.cases.specs.internal.Masks.{mask_of}
use Rattle.cases.specs.Conditions.{node_at, is_binder}
use Rattle.cases.specs.internal.Tables.{made, formula_operator, FormulaTable}
use Rattle.cases.proofs.Trees.{arity_at}
use Rattle.cases.proofs.TableTrees.{each_kind, formula_at_lem, root}
use Rattle.translate.specs.declared.Shape.{Shape}
use Rattle.translate.specs.Cells.{cell_of, cells_from, blocks_from}
use Rattle.translate.specs.Whole.{raise, binds_first, whole, binder_nodes, index_in, block_in}
use Rattle.translate.specs.internal.Writing.{shape_of, shape_cell}
use Rattle.translate.specs.internal.Shapes.{shapes_from, shape_cells, shape_block, shape_blocks, shape_by, shape_in, table_shapes}
use Rattle.translate.proofs.Counts.{nodes_raise}
use Rattle.translate.proofs.Equations.{raised}
use Rattle.translate.proofs.BinderNodes.{collect, operand_lists, second_at, listed_all, block_of_binder}

-- a formula has as many shapes as nodes
pub length_shapes : (block : ℕ → ℕ) (a : Formula) (i : ℕ) → length (shapes_from block a i) ≡ nodes a
unfolding shapes_from nodes
length_shapes block False i = refl
length_shapes block True i = refl
length_shapes block (And a b) i =
    simp length-append (omega (arith, length_shapes block a (i + 1), length_shapes block b (i + 1 + nodes a)))
length_shapes block (Or a b) i =
    simp length-append (omega (arith, length_shapes block a (i + 1), length_shapes block b (i + 1 + nodes a)))
length_shapes block (Box α a) i = omega (arith, length_shapes block a (i + 1))
length_shapes block (Diamond α a) i = omega (arith, length_shapes block a (i + 1))
length_shapes block (Variable j) i = refl
length_shapes block (Fix sign j a) i = omega (arith, length_shapes block a (i + 1))

-- What is written of shapes node by node, `item x i` of shape x at node i.
module _ {B : Type 0} (written : ℕ → List Shape → List B) (item : Shape → ℕ → List B) (none : (i : ℕ) → written i [] ≡ [])
    (more : (i : ℕ) (x : Shape) (xs : List Shape) → written i (x ∷ xs) ≡ item x i ++ written (i + 1) xs) where
  -- it is written of two lists, one after the other
  written_append : (i : ℕ) (xs ys : List Shape) → written i (xs ++ ys) ≡ written i xs ++ written (i + length xs) ys
  written_append i [] ys = rw (none i, add-zero i)
  written_append i (x ∷ xs) ys =
      let next : i + 1 + length xs ≡ i + suc (length xs) = omega arith in
      more i x (xs ++ ys)
      ∙ ap (λ (l : List B). item x i ++ l) (written_append (i + 1) xs ys)
      ∙ ap (λ (m : ℕ). item x i ++ (written (i + 1) xs ++ written m ys)) next
      ∙ sym (append_assoc (item x i) (written (i + 1) xs) (written (i + suc (length xs)) ys))
      ∙ ap (λ (l : List B). l ++ written (i + suc (length xs)) ys) (sym (more i x xs))

  -- and so of two formulas
  written_both : (block : ℕ → ℕ) (a : Formula) (i : ℕ) (ys : List Shape) {us vs : List B}
      → written i (shapes_from block a i) ≡ us → written (i + nodes a) ys ≡ vs → written i (shapes_from block a i ++ ys) ≡ us ++ vs
  written_both block a i ys p q = written_append i (shapes_from block a i) ys ∙ rw (length_shapes block a i, p, q)

-- ---- blocks
blocks_both : (n : ℕ) (block : ℕ → ℕ) (a : Formula) (i : ℕ) (ys : List Shape) {us vs : List Block}
    → shape_blocks n i (shapes_from block a i) ≡ us → shape_blocks n (i + nodes a) ys ≡ vs → shape_blocks n i (shapes_from block a i ++ ys) ≡ us ++ vs
unfolding shape_blocks
blocks_both n = written_both (shape_blocks n) (λ x i. shape_block n i x) (λ i. refl) (λ i x xs. refl)

-- The blocks of a formula's shapes are the formula's blocks.
pub shape_blocks_lem : (n : ℕ) (block : ℕ → ℕ) (a : Formula) (i : ℕ) → shape_blocks n i (shapes_from block a i) ≡ blocks_from n a i
unfolding shapes_from shape_of shape_blocks shape_block blocks_from
shape_blocks_lem n block False i = refl
shape_blocks_lem n block True i = refl
shape_blocks_lem n block (And a b) i =
    blocks_both n block a (i + 1) _ (shape_blocks_lem n block a (i + 1)) (shape_blocks_lem n block b (i + 1 + nodes a))
shape_blocks_lem n block (Or a b) i =
    blocks_both n block a (i + 1) _ (shape_blocks_lem n block a (i + 1)) (shape_blocks_lem n block b (i + 1 + nodes a))
shape_blocks_lem n block (Box α a) i = shape_blocks_lem n block a (i + 1)
shape_blocks_lem n block (Diamond α a) i = shape_blocks_lem n block a (i + 1)
shape_blocks_lem n block (Variable j) i = refl
shape_blocks_lem n block (Fix true j a) i = rw (shape_blocks_lem n block a (i + 1))
shape_blocks_lem n block (Fix false j a) i = rw (shape_blocks_lem n block a (i + 1))

-- ---- cells
module _ (n : ℕ) (ts : List Transition) (block : ℕ → ℕ)
    (shape_cell_lem : (x : Formula) (i s : ℕ) → shape_cell n ts (shape_of block x i) i s ≡ cell_of n ts block x i s) where
  -- the cells of a node are those of its shape
  node_cells : (x : Formula) (i : ℕ) → map (shape_cell n ts (shape_of block x i) i) (numbers_from 0 n) ≡ map (cell_of n ts block x i) (numbers_from 0 n)
  node_cells x i = λ k. map (λ s. shape_cell_lem x i s k) (numbers_from 0 n)

  cells_both : (a : Formula) (i : ℕ) (ys : List Shape) {us vs : List Cell}
      → shape_cells n ts i (shapes_from block a i) ≡ us → shape_cells n ts (i + nodes a) ys ≡ vs → shape_cells n ts i (shapes_from block a i ++ ys) ≡ us ++ vs
  unfolding shape_cells
  cells_both = written_both (shape_cells n ts) (λ x i. map (shape_cell n ts x i) (numbers_from 0 n)) (λ i. refl) (λ i x xs. refl) block

  -- The cells of a formula's shapes are the formula's cells.
  pub shape_cells_lem : (a : Formula) (i : ℕ) → shape_cells n ts i (shapes_from block a i) ≡ cells_from n ts block a i
  unfolding shapes_from shape_cells cells_from
  shape_cells_lem False i = append-nil _ ∙ node_cells False i
  shape_cells_lem True i = append-nil _ ∙ node_cells True i
  shape_cells_lem (And a b) i =
      ap₂ ◌++◌ (node_cells (And a b) i) (cells_both a (i + 1) _ (shape_cells_lem a (i + 1)) (shape_cells_lem b (i + 1 + nodes a)))
  shape_cells_lem (Or a b) i =
      ap₂ ◌++◌ (node_cells (Or a b) i) (cells_both a (i + 1) _ (shape_cells_lem a (i + 1)) (shape_cells_lem b (i + 1 + nodes a)))
  shape_cells_lem (Box α a) i = ap₂ ◌++◌ (node_cells (Box α a) i) (shape_cells_lem a (i + 1))
  shape_cells_lem (Diamond α a) i = ap₂ ◌++◌ (node_cells (Diamond α a) i) (shape_cells_lem a (i + 1))
  shape_cells_lem (Variable j) i = append-nil _ ∙ node_cells (Variable j) i
  shape_cells_lem (Fix sign j a) i = ap₂ ◌++◌ (node_cells (Fix sign j a) i) (shape_cells_lem a (i + 1))

-- ---- raised formulas
-- a shape whose node number or block is one higher, where its kind has one
abbrev up : Shape → Shape
up Shape.False = Shape.False
up Shape.True = Shape.True
up (Shape.And second) = Shape.And (second + 1)
up (Shape.Or second) = Shape.Or (second + 1)
up (Shape.Box labels) = Shape.Box labels
up (Shape.Diamond labels) = Shape.Diamond labels
up (Shape.Variable block) = Shape.Variable (block + 1)
up (Shape.Mu block) = Shape.Mu (block + 1)
up (Shape.Nu block) = Shape.Nu (block + 1)

-- blocks rise by one with the node numbers
module _ (block higher : ℕ → ℕ) (rises : (j : ℕ) → higher (j + 1) ≡ block j + 1) where
  shape_raise : (x : Formula) (i : ℕ) → shape_of higher (raise x) (i + 1) ≡ up (shape_of block x i)
  unfolding shape_of raise
  shape_raise False i = refl
  shape_raise True i = refl
  shape_raise (And a b) i = let next : i + 1 + 1 + nodes a ≡ i + 1 + nodes a + 1 = omega arith in rw (nodes_raise a, next)
  shape_raise (Or a b) i = let next : i + 1 + 1 + nodes a ≡ i + 1 + nodes a + 1 = omega arith in rw (nodes_raise a, next)
  shape_raise (Box α a) i = refl
  shape_raise (Diamond α a) i = refl
  shape_raise (Variable j) i = rw (rises j)
  shape_raise (Fix true j a) i = rw (rises j)
  shape_raise (Fix false j a) i = rw (rises j)

  -- the shapes of two operands
  raise_both : (a : Formula) (i : ℕ) (b : Formula)
      → shapes_from higher (raise a) (i + 1 + 1) ≡ map up (shapes_from block a (i + 1))
      → shapes_from higher (raise b) (i + 1 + nodes a + 1) ≡ map up (shapes_from block b (i + 1 + nodes a))
      → shapes_from higher (raise a) (i + 1 + 1) ++ shapes_from higher (raise b) (i + 1 + 1 + nodes (raise a))
      ≡ map up (shapes_from block a (i + 1) ++ shapes_from block b (i + 1 + nodes a))
  raise_both a i b p q =
      let next : i + 1 + 1 + nodes (raise a) ≡ i + 1 + nodes a + 1 = omega (arith, nodes_raise a) in
      rw (next, p, q, map-append)

  -- The shapes of a raised formula are those of the formula, one higher.
  shapes_raise : (a : Formula) (i : ℕ) → shapes_from higher (raise a) (i + 1) ≡ map up (shapes_from block a i)
  unfolding shapes_from raise
  shapes_raise False i = ap (λ (x : Shape). x ∷ []) (shape_raise False i)
  shapes_raise True i = ap (λ (x : Shape). x ∷ []) (shape_raise True i)
  shapes_raise (And a b) i =
      ap₂ ◌∷◌ (shape_raise (And a b) i) (raise_both a i b (shapes_raise a (i + 1)) (shapes_raise b (i + 1 + nodes a)))
  shapes_raise (Or a b) i =
      ap₂ ◌∷◌ (shape_raise (Or a b) i) (raise_both a i b (shapes_raise a (i + 1)) (shapes_raise b (i + 1 + nodes a)))
  shapes_raise (Box α a) i = ap₂ ◌∷◌ (shape_raise (Box α a) i) (shapes_raise a (i + 1))
  shapes_raise (Diamond α a) i = ap₂ ◌∷◌ (shape_raise (Diamond α a) i) (shapes_raise a (i + 1))
  shapes_raise (Variable j) i = ap (λ (x : Shape). x ∷ []) (shape_raise (Variable j) i)
  shapes_raise (Fix sign j a) i = ap₂ ◌∷◌ (shape_raise (Fix sign j a) i) (shapes_raise a (i + 1))

-- a number's place stays where all numbers rise by one
place_raise : (j : ℕ) (xs : List ℕ) → index_in (j + 1) (map (λ i. i + 1) xs) ≡ index_in j xs
unfolding index_in
place_raise j [] = refl
place_raise j (x ∷ xs) =
    let one : eqb (j + 1) (x + 1) ≡ eqb j x = rw (add-one j, add-one x) (eqb-suc-suc j x) in
    rw (one, place_raise j xs)

-- a nu before a raised formula is block 0, and blocks rise by one
block_raise : (a : Formula) (j : ℕ) → block_in (Fix true 0 (raise a)) (j + 1) ≡ block_in a j + 1
unfolding block_in binder_nodes index_in
block_raise a j =
    rw (ne_eqb (j + 1) 0 (λ q. omega arith), raised a, place_raise j (binder_nodes a)) (sym (add-one (index_in j (binder_nodes a))))

-- ---- tables
-- a shape of the table, one higher
shape_up : (action : ℕ → Action) (t : List Node) (i : ℕ) → up (shape_in action t 0 i) ≡ shape_in action t 1 i
unfolding shape_in
shape_up action t i = rw (← get_or-map up, add-zero, add-zero, add-zero)

shapes_up : (action : ℕ → Action) (t : List Node) (is : List ℕ) → map up (map (shape_in action t 0) is) ≡ map (shape_in action t 1) is
shapes_up action t [] = refl
shapes_up action t (i ∷ is) = ap₂ ◌∷◌ (shape_up action t i) (shapes_up action t is)

-- single items are a map
collect_map : {A : Type 0} (f : ℕ → A) (k i : ℕ) → collect (λ j. f j ∷ []) i k ≡ map f (numbers_from i k)
unfolding collect numbers_from
collect_map f zero i = refl
collect_map f (suc k) i = ap (λ (l : List _). f i ∷ l) (collect_map f k (suc i))

-- What is shown of the shapes that node i makes by its kind k, where `bound` is the block of a variable, `here` that of a binder, and `next`
-- the second operand.
abbrev MadeShapes : (ℕ → Action) → (ℕ → ℕ) → ℕ → ℕ → ℕ → ℕ → ℕ → Formula → Formula → ℕ → Type 0
MadeShapes action block i arg bound here next f g k =
    (k ≡ 6 → block arg ≡ bound) → ((eqb k 7 || eqb k 8) ≡ true → block i ≡ here) → (get_or formula_arities k 0 ≡ 2 → i + 1 + nodes f ≡ next)
    → shapes_from block (made (formula_operator action i arg k) f g) i
    ≡ shape_by (next + 0) (mask_of (action arg)) (bound + 0) (here + 0) k
    ∷ operand_lists (get_or formula_arities k 0) (shapes_from block f (i + 1)) (shapes_from block g (i + 1 + nodes f))

made_shapes : (action : ℕ → Action) (block : ℕ → ℕ) (i arg bound here next : ℕ) (f g : Formula) (k : ℕ) → k ≤ 8
    → MadeShapes action block i arg bound here next f g k
unfolding shapes_from shape_of
made_shapes action block i arg bound here next f g = each_kind (MadeShapes action block i arg bound here next f g)
    (λ v b s. refl) (λ v b s. refl) (λ v b s. rw (add-zero next, s refl)) (λ v b s. rw (add-zero next, s refl)) (λ v b s. refl) (λ v b s. refl)
    (λ v b s. rw (add-zero bound, v refl)) (λ v b s. rw (add-zero here, b refl)) (λ v b s. rw (add-zero here, b refl))

module _ (action : ℕ → Action) (t : List Node) (table : FormulaTable t) where
  abbrev root_formula : Formula
  root_formula = formula_at action t 0

  -- the root's formula is a binder if the root is
  root_binds : binds_first root_formula ≡ is_binder (node_at t 0)
  unfolding binds_first
  root_binds =
      ap binds_first (formula_at_lem action t table 0 (node_at t 0).kind (root t table) refl)
      ∙ each_kind (λ k. binds_first (made (formula_operator action 0 (node_at t 0).arg k) (formula_at action t (0 + 1))
      (formula_at action t (end_of (map (arity_in formula_arities) t) (0 + 1)))) ≡ eqb k 7 || eqb k 8)
      refl refl refl refl refl refl refl refl refl (node_at t 0).kind (table.kinds 0 (root t table))

  -- every variable has a binder of the table
  module _ (bound : (i : ℕ) → i < length t → (node_at t i).kind ≡ 6
      → ((node_at t i).arg < length t) × (is_binder (node_at t (node_at t i).arg) ≡ true)) where
    -- the shapes of node i and its operands
    node_shapes : (i : ℕ) → i < length t → shapes_from (block_in root_formula) (formula_at action t i) i
        ≡ shape_in action t 0 i ∷ operand_lists (get_or (map (arity_in formula_arities) t) i 0) (shapes_from (block_in root_formula) (formula_at action t (i + 1)) (i + 1))
        (shapes_from (block_in root_formula) (formula_at action t (end_of (map (arity_in formula_arities) t) (i + 1))) (i + 1 + nodes (formula_at action t (i + 1))))
    unfolding shape_in
    node_shapes i h =
        ap (λ (a : Formula). shapes_from (block_in root_formula) a i) (formula_at_lem action t table i (node_at t i).kind h refl)
        ∙ rw (arity_at formula_arities t i h)
        (made_shapes action (block_in root_formula) i (node_at t i).arg _ _ _ _ _ (node_at t i).kind (table.kinds i h)
        (λ e. block_of_binder action t table (node_at t i).arg (bound i h e).0 (bound i h e).1)
        (λ e. block_of_binder action t table i h e)
        (λ e. second_at action t table i h (arity_at formula_arities t i h ∙ e)))

    -- The shapes of the table's formula are those of its nodes.
    formula_shapes : shapes_from (block_in root_formula) root_formula 0 ≡ map (shape_in action t 0) (numbers_from 0 (length t))
    formula_shapes =
        listed_all action t table (shapes_from (block_in root_formula)) (λ i. shape_in action t 0 i ∷ []) node_shapes
        ∙ collect_map (shape_in action t 0) (length t) 0

    -- The shapes of the formula that is translated are those of the table.
    pub table_shapes_lem : shapes_from (block_in (whole root_formula)) (whole root_formula) 0 ≡ table_shapes action t
    unfolding whole table_shapes shapes_from shape_of block_in binder_nodes index_in
    table_shapes_lem = rw root_binds (go (is_binder (node_at t 0)))
      where
        go : (r : Bool) → shapes_from (block_in (cond r root_formula (Fix true 0 (raise root_formula)))) (cond r root_formula (Fix true 0 (raise root_formula))) 0
            ≡ cond r (map (shape_in action t 0) (numbers_from 0 (length t)))
            (Shape.Nu 0 ∷ map (shape_in action t 1) (numbers_from 0 (length t)))
        go true = formula_shapes
        go false =
            ap (λ (xs : List Shape). Shape.Nu 0 ∷ xs)
            (shapes_raise (block_in root_formula) (block_in (Fix true 0 (raise root_formula))) (block_raise root_formula) root_formula 0
            ∙ ap (map up) formula_shapes ∙ shapes_up action t (numbers_from 0 (length t)))
