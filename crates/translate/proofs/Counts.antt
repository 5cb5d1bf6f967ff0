-- How many blocks, cells and operands the equations of a case have.
use mathlib.Core.Path.{◌≡◌, refl, ap}
use mathlib.Core.Bool.{Bool, true, false, cond, ◌&&◌}
use mathlib.Core.List.{List, [], ◌∷◌, ◌++◌, map, append_assoc}
use Prim.Native.Nat.{ℕ, zero, suc, ◌+◌, ◌*◌, ◌≤◌, ◌<◌}
use native.Mathlib.Omega.{arith}
use lib.Dec.{eqb}
use lib.ListN.{length, length-append, length-map}
use borrow.Author.Tests.{eqb-true, ne_eqb}
use Rattle.sets.specs.Lists.{numbers_from, keep}
use Rattle.solver.specs.Cells.{Cell, operands_of}
use Rattle.cases.specs.File.{transition_limit}
use Rattle.cases.specs.Action.{Action, accepts}
use Rattle.cases.specs.Formula.{Formula, False, True, And, Or, Box, Diamond, Variable, Fix, nodes}
use Rattle.cases.specs.declared.Transition.{Transition}
use Rattle.cases.specs.Meaning.{from}
use Rattle.translate.specs.Whole.{raise, binds_first, whole, binder_nodes}
use Rattle.translate.specs.Cells.{targets, cell_of, cells_from, blocks_from}
use Rattle.translate.specs.Bytes.{all_operands}

-- raising node numbers changes no node count
pub nodes_raise : (a : Formula) → nodes (raise a) ≡ nodes a
unfolding nodes raise
nodes_raise False = refl
nodes_raise True = refl
nodes_raise (And a b) = omega (arith, nodes_raise a, nodes_raise b)
nodes_raise (Or a b) = omega (arith, nodes_raise a, nodes_raise b)
nodes_raise (Box α a) = omega (arith, nodes_raise a)
nodes_raise (Diamond α a) = omega (arith, nodes_raise a)
nodes_raise (Variable i) = refl
nodes_raise (Fix sign i a) = omega (arith, nodes_raise a)

-- a formula that is translated has at most one node more
pub nodes_whole : (a : Formula) → nodes (whole a) ≤ nodes a + 1
unfolding whole nodes
nodes_whole a = go (binds_first a)
  where
    go : (b : Bool) → nodes (cond b a (Fix true 0 (raise a))) ≤ nodes a + 1
    go true = omega arith
    go false = omega (arith, nodes_raise a)

-- and at least one binder, its root
pub binders_whole : (a : Formula) → 1 ≤ length (binder_nodes (whole a))
unfolding whole binds_first binder_nodes
binders_whole False = omega arith
binders_whole True = omega arith
binders_whole (And a b) = omega arith
binders_whole (Or a b) = omega arith
binders_whole (Box α a) = omega arith
binders_whole (Diamond α a) = omega arith
binders_whole (Variable i) = omega arith
binders_whole (Fix sign i a) = omega arith

-- every formula has a node
pub nodes_low : (a : Formula) → 1 ≤ nodes a
unfolding nodes
nodes_low False = omega arith
nodes_low True = omega arith
nodes_low (And a b) = omega arith
nodes_low (Or a b) = omega arith
nodes_low (Box α a) = omega arith
nodes_low (Diamond α a) = omega arith
nodes_low (Variable i) = omega arith
nodes_low (Fix sign i a) = omega arith

-- one block for each binder
pub length_blocks : (n : ℕ) (a : Formula) (i : ℕ) → length (blocks_from n a i) ≡ length (binder_nodes a)
unfolding blocks_from binder_nodes
length_blocks n False i = refl
length_blocks n True i = refl
length_blocks n (And a b) i = simp length-append (omega (arith, length_blocks n a (i + 1), length_blocks n b (i + 1 + nodes a)))
length_blocks n (Or a b) i = simp length-append (omega (arith, length_blocks n a (i + 1), length_blocks n b (i + 1 + nodes a)))
length_blocks n (Box α a) i = length_blocks n a (i + 1)
length_blocks n (Diamond α a) i = length_blocks n a (i + 1)
length_blocks n (Variable j) i = refl
length_blocks n (Fix sign j a) i = ap suc (length_blocks n a (i + 1))

-- the operands of cells that follow one another
pub operands_append : (xs ys : List Cell) → all_operands (xs ++ ys) ≡ all_operands xs ++ all_operands ys
unfolding all_operands
operands_append [] ys = refl
operands_append (x ∷ xs) ys = rw (operands_append xs ys, append_assoc)

-- the sum of f over the k numbers from i on
unfoldable total : (ℕ → ℕ) → ℕ → ℕ → ℕ
total f i zero = 0
total f i (suc k) = f i + total f (suc i) k

-- a sum of zeros
total_zero : (i k : ℕ) → total (λ s. 0) i k ≡ 0
unfolding total
total_zero i zero = refl
total_zero i (suc k) = omega (arith, total_zero (suc i) k)

-- a sum of twos
total_two : (i k : ℕ) → total (λ s. 2) i k ≡ 2 * k
unfolding total
total_two i zero = refl
total_two i (suc k) = omega (arith, total_two (suc i) k)

-- a sum of sums
total_add : (f g h : ℕ → ℕ) → ((s : ℕ) → f s ≡ g s + h s) → (i k : ℕ) → total f i k ≡ total g i k + total h i k
unfolding total
total_add f g h e i zero = refl
total_add f g h e i (suc k) = omega (arith, e i, total_add f g h e (suc i) k)

-- equal functions have equal sums
total_same : (f g : ℕ → ℕ) → ((s : ℕ) → f s ≡ g s) → (i k : ℕ) → total f i k ≡ total g i k
unfolding total
total_same f g e i zero = refl
total_same f g e i (suc k) = omega (arith, e i, total_same f g e (suc i) k)

-- the operands of a row of cells
length_row : (f : ℕ → Cell) (i k : ℕ) → length (all_operands (map f (numbers_from i k))) ≡ total (λ s. length (operands_of (f s))) i k
unfolding all_operands numbers_from total
length_row f i zero = refl
length_row f i (suc k) = simp length-append (omega (arith, length_row f (suc i) k))

-- 1 where x is s and b holds
abbrev hit : ℕ → Bool → ℕ → ℕ
hit x b s = cond (eqb x s && b) 1 0

hit_one : (x : ℕ) (b : Bool) (s : ℕ) → hit x b s ≤ 1
hit_one x b s = go (eqb x s && b)
  where
    go : (d : Bool) → cond d 1 0 ≤ 1
    go true = omega arith
    go false = omega arith

-- no hit past x
hits_none : (x : ℕ) (b : Bool) (i k : ℕ) → x < i → total (hit x b) i k ≡ 0
unfolding total
hits_none x b i zero h = refl
hits_none x b i (suc k) h = rw (ne_eqb x i (λ e. omega arith)) (omega (arith, hits_none x b (suc i) k (omega arith)))

-- at most one hit
hits_one : (x : ℕ) (b : Bool) (i k : ℕ) → total (hit x b) i k ≤ 1
unfolding total
hits_one x b i zero = omega arith
hits_one x b i (suc k) = go (eqb x i) refl (hits_one x b (suc i) k)
  where
    go : (d : Bool) → eqb x i ≡ d → total (hit x b) (suc i) k ≤ 1 → hit x b i + total (hit x b) (suc i) k ≤ 1
    go true e ih = omega (arith, hit_one x b i, hits_none x b (suc i) k (omega (arith, eqb-true x i e)))
    go false e ih = rw e (omega arith)

module _ (α : Action) where
  -- how many accepted transitions leave s
  abbrev leaving : List Transition → ℕ → ℕ
  leaving ts s = length (keep (from s α) ts)

  leaving_cons : (t : Transition) (ts : List Transition) (s : ℕ) → leaving (t ∷ ts) s ≡ hit t.source (accepts α t.label) s + leaving ts s
  unfolding keep
  leaving_cons t ts s = go (from s α t)
    where
      go : (d : Bool) → length (cond d (t ∷ keep (from s α) ts) (keep (from s α) ts)) ≡ cond d 1 0 + leaving ts s
      go true = omega arith
      go false = omega arith

  -- each transition leaves one state
  leaving_all : (ts : List Transition) (i k : ℕ) → total (leaving ts) i k ≤ length ts
  unfolding keep
  leaving_all [] i k = omega (arith, total_zero i k)
  leaving_all (t ∷ ts) i k =
      let each = total_add (leaving (t ∷ ts)) (hit t.source (accepts α t.label)) (leaving ts) (leaving_cons t ts) i k in
      omega (arith, each, hits_one t.source (accepts α t.label) i k, leaving_all ts i k)

module _ (n : ℕ) (ts : List Transition) (block : ℕ → ℕ) where
  -- the cells of one node
  abbrev pub row : Formula → ℕ → List Cell
  row a i = map (cell_of n ts block a i) (numbers_from 0 n)

  -- the operands of one node, over all states
  module _ (small : 2 * n ≤ transition_limit) (few : length ts ≤ transition_limit) where
    row_modal : (i : ℕ) (α : Action) → total (λ s. length (targets n ts block i α s)) 0 n ≤ transition_limit
    unfolding targets
    row_modal i α =
        let same = total_same (λ s. length (targets n ts block i α s)) (leaving α ts) (λ s. length-map (keep (from s α) ts) _) 0 n in
        omega (arith, same, leaving_all α ts 0 n)

    row_operands : (a : Formula) (i : ℕ) → length (all_operands (row a i)) ≤ transition_limit
    unfolding cell_of operands_of
    row_operands False i = omega (arith, length_row (cell_of n ts block False i) 0 n, total_zero 0 n)
    row_operands True i = omega (arith, length_row (cell_of n ts block True i) 0 n, total_zero 0 n)
    row_operands (And a b) i = omega (arith, length_row (cell_of n ts block (And a b) i) 0 n, total_two 0 n)
    row_operands (Or a b) i = omega (arith, length_row (cell_of n ts block (Or a b) i) 0 n, total_two 0 n)
    row_operands (Box α a) i = omega (arith, length_row (cell_of n ts block (Box α a) i) 0 n, row_modal (i + 1) α)
    row_operands (Diamond α a) i = omega (arith, length_row (cell_of n ts block (Diamond α a) i) 0 n, row_modal (i + 1) α)
    row_operands (Variable j) i = omega (arith, length_row (cell_of n ts block (Variable j) i) 0 n, total_zero 0 n)
    row_operands (Fix sign j a) i = omega (arith, length_row (cell_of n ts block (Fix sign j a) i) 0 n, total_zero 0 n)

    -- the operands of a formula
    pub length_operands : (a : Formula) (i : ℕ) → length (all_operands (cells_from n ts block a i)) ≤ nodes a * transition_limit
    unfolding cells_from nodes
    length_operands False i = omega (arith, row_operands False i)
    length_operands True i = omega (arith, row_operands True i)
    length_operands (And a b) i =
        simp (operands_append, length-append) (omega (arith, row_operands (And a b) i, length_operands a (i + 1), length_operands b (i + 1 + nodes a)))
    length_operands (Or a b) i =
        simp (operands_append, length-append) (omega (arith, row_operands (Or a b) i, length_operands a (i + 1), length_operands b (i + 1 + nodes a)))
    length_operands (Box α a) i = simp (operands_append, length-append) (omega (arith, row_operands (Box α a) i, length_operands a (i + 1)))
    length_operands (Diamond α a) i = simp (operands_append, length-append) (omega (arith, row_operands (Diamond α a) i, length_operands a (i + 1)))
    length_operands (Variable j) i = omega (arith, row_operands (Variable j) i)
    length_operands (Fix sign j a) i = simp (operands_append, length-append) (omega (arith, row_operands (Fix sign j a) i, length_operands a (i + 1)))
