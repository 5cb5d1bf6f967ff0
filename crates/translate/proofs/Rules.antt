-- The equations of a formula keep the rules of an equation file: operands are cells further on, variables have a block and a state.
use mathlib.Core.Path.{◌≡◌, subst}
use mathlib.Core.Bool.{Bool, true, false, cond, ◌&&◌, ◌||◌}
use mathlib.Core.List.{List, [], ◌∷◌, ◌++◌, map}
use Prim.Native.Nat.{ℕ, zero, suc, ◌+◌, ◌*◌, ◌≤◌, ◌<◌}
use native.Mathlib.Omega.{arith}
use native.Mathlib.Nat.{add-mul, mul-le-mul_right}
use lib.Arith.{digits_lt}
use lib.Dec.{T, eqb, ltb, leb, lt→ltb, ltb→lt, le→leb}
use lib.ListN.{length}
use Rattle.sets.specs.Lists.{numbers_from, every, for_some}
use Rattle.sets.proofs.Lists.{and_left, and_right, and_both, length_map_range}
use Rattle.solver.specs.Cells.{Cell}
use Rattle.solver.specs.File.{Block}
use Rattle.cases.specs.Action.{Action}
use Rattle.cases.specs.Formula.{Formula, False, True, And, Or, Box, Diamond, Variable, Fix, nodes}
use Rattle.cases.specs.declared.Transition.{Transition}
use Rattle.cases.specs.Meaning.{from}
use Rattle.translate.specs.Whole.{binder_nodes, index_in}
use Rattle.translate.specs.Cells.{targets, cell_of, cells_from, blocks_from}
use Rattle.translate.proofs.AllLaws.{all_append, all_first, all_second, all_kept_map}
use Rattle.translate.proofs.Counts.{row, nodes_low}
use Rattle.translate.proofs.Unfold.{cells_long}

-- whether each variable of a formula has its number among those of a list
unfoldable pub closed : List ℕ → Formula → Bool
closed js False = true
closed js True = true
closed js (And a b) = closed js a && closed js b
closed js (Or a b) = closed js a && closed js b
closed js (Box α a) = closed js a
closed js (Diamond α a) = closed js a
closed js (Variable i) = for_some (eqb i) js
closed js (Fix sign i a) = closed js a

-- a number that is among others has its place there
pub place_below : (i : ℕ) (js : List ℕ) → T (for_some (eqb i) js) → index_in i js < length js
unfolding index_in for_some
place_below i [] t = absurd t
place_below i (j ∷ js) t = go (eqb i j) t (place_below i js)
  where
    go : (b : Bool) → T (b || for_some (eqb i) js) → (T (for_some (eqb i) js) → index_in i js < length js) → cond b 0 (suc (index_in i js)) < suc (length js)
    go true t h = omega arith
    go false t h = omega (arith, h t)

-- n states, d blocks, c cells
module _ (n d c : ℕ) where
  -- whether cell i keeps its rule
  unfoldable pub rule_ok : ℕ → Cell → Bool
  rule_ok i (Cell.And os) = every (λ o. ltb i o && ltb o c) os
  rule_ok i (Cell.Or os) = every (λ o. ltb i o && ltb o c) os
  rule_ok i (Cell.Variable k s) = ltb k d && ltb s n

  -- whether the cells from i on do
  unfoldable pub rules_ok : ℕ → List Cell → Bool
  rules_ok i [] = true
  rules_ok i (x ∷ xs) = rule_ok i x && rules_ok (i + 1) xs

  -- the rule of the first cell, and those of the others
  pub rule_first : (i : ℕ) (x : Cell) (xs : List Cell) → T (rules_ok i (x ∷ xs)) → T (rule_ok i x)
  unfolding rules_ok
  rule_first i x xs t = and_left (rule_ok i x) (rules_ok (i + 1) xs) t

  pub rule_others : (i : ℕ) (x : Cell) (xs : List Cell) → T (rules_ok i (x ∷ xs)) → T (rules_ok (i + 1) xs)
  unfolding rules_ok
  rule_others i x xs t = and_right (rule_ok i x) (rules_ok (i + 1) xs) t

  -- cells that follow one another
  rules_append : (xs ys : List Cell) (i j : ℕ) → i + length xs ≡ j → T (rules_ok i xs) → T (rules_ok j ys) → T (rules_ok i (xs ++ ys))
  unfolding rules_ok
  rules_append [] ys i j e s t =
      let same : j ≡ i = omega arith in
      subst (λ (k : ℕ). T (rules_ok k ys)) same t
  rules_append (x ∷ xs) ys i j e s t =
      and_both (rule_ok i x) (rules_ok (i + 1) (xs ++ ys)) (rule_first i x xs s) (rules_append xs ys (i + 1) j (omega arith) (rule_others i x xs s) t)

  -- the cells of one node
  rules_row : (f : ℕ → Cell) (b s k i : ℕ) → b + s ≡ i → ((r : ℕ) → r < s + k → T (rule_ok (b + r) (f r))) → T (rules_ok i (map f (numbers_from s k)))
  unfolding rules_ok numbers_from
  rules_row f b s zero i e h = tt
  rules_row f b s (suc k) i e h =
      and_both (rule_ok i (f s)) (rules_ok (i + 1) (map f (numbers_from (suc s) k)))
      (subst (λ (j : ℕ). T (rule_ok j (f s))) e (h s (omega arith)))
      (rules_row f b (suc s) k (i + 1) (omega arith) (λ r g. h r (omega arith)))

-- a row further on
row_next : (i n : ℕ) → (i + 1) * n ≡ i * n + n
row_next i n = omega (arith, add-mul i 1 n)

row_after : (i k n : ℕ) → (i + 1 + k) * n ≡ i * n + n + k * n
row_after i k n = omega (arith, add-mul (i + 1) k n, row_next i n)

-- n states, m nodes, d blocks, the transitions ts; the binders' numbers are js
module _ (n m d : ℕ) (ts : List Transition) (block : ℕ → ℕ) (js : List ℕ)
    (ends : T (every (λ t. ltb t.target n) ts)) (bound : (j : ℕ) → T (for_some (eqb j) js) → block j < d) where
  -- a cell of a later node
  later : (i j s t : ℕ) → i < j → j < m → s < n → t < n → T (ltb (i * n + s) (j * n + t) && ltb (j * n + t) (m * n))
  later i j s t h g a b =
      let up : i * n + s < j * n + t = omega (arith, digits_lt {q = i} {m = j} {r = s} {c = n} h a) in
      and_both (ltb (i * n + s) (j * n + t)) (ltb (j * n + t) (m * n)) (lt→ltb (i * n + s) (j * n + t) up) (lt→ltb (j * n + t) (m * n) (digits_lt g b))

  -- the cells of two later nodes
  two_later : (i j k s : ℕ) → i < j → j < m → i < k → k < m → s < n
      → T (every (λ o. ltb (i * n + s) o && ltb o (m * n)) ((j * n + s) ∷ (k * n + s) ∷ []))
  unfolding every
  two_later i j k s h g a b l =
      and_both (ltb (i * n + s) (j * n + s) && ltb (j * n + s) (m * n)) _ (later i j s s h g l l)
      (and_both (ltb (i * n + s) (k * n + s) && ltb (k * n + s) (m * n)) true (later i k s s a b l l) tt)

  -- the targets of transitions, at a later node
  targets_later : (i j s : ℕ) (α : Action) → i < j → j < m → s < n → T (every (λ o. ltb (i * n + s) o && ltb o (m * n)) (targets n ts block j α s))
  unfolding targets
  targets_later i j s α h g l =
      all_kept_map (λ t. ltb t.target n) (from s α) (λ t. j * n + t.target) (λ o. ltb (i * n + s) o && ltb o (m * n))
      (λ t b. later i j s t.target h g l (ltb→lt t.target n b)) ts ends

  -- a block and a state
  variable_rule : (j s : ℕ) → T (for_some (eqb j) js) → s < n → T (ltb (block j) d && ltb s n)
  variable_rule j s t l = and_both (ltb (block j) d) (ltb s n) (lt→ltb (block j) d (bound j t)) (lt→ltb s n l)

  -- the cell of node i in state s
  cell_rule : (a : Formula) (i s : ℕ) → i + nodes a ≤ m → T (closed js a) → T (every (λ j. for_some (eqb j) js) (binder_nodes a)) → s < n
      → T (rule_ok n d (m * n) (i * n + s) (cell_of n ts block a i s))
  unfolding cell_of rule_ok closed binder_nodes nodes every
  cell_rule False i s h t u l = tt
  cell_rule True i s h t u l = tt
  cell_rule (And a b) i s h t u l =
      two_later i (i + 1) (i + 1 + nodes a) s (omega arith) (omega (arith, nodes_low a, nodes_low b)) (omega arith) (omega (arith, nodes_low b)) l
  cell_rule (Or a b) i s h t u l =
      two_later i (i + 1) (i + 1 + nodes a) s (omega arith) (omega (arith, nodes_low a, nodes_low b)) (omega arith) (omega (arith, nodes_low b)) l
  cell_rule (Box α a) i s h t u l = targets_later i (i + 1) s α (omega arith) (omega (arith, nodes_low a)) l
  cell_rule (Diamond α a) i s h t u l = targets_later i (i + 1) s α (omega arith) (omega (arith, nodes_low a)) l
  cell_rule (Variable j) i s h t u l = variable_rule j s t l
  cell_rule (Fix sign j a) i s h t u l = variable_rule j s (and_left (for_some (eqb j) js) _ u) l

  -- the row of node i
  row_rule : (a : Formula) (i : ℕ) → i + nodes a ≤ m → T (closed js a) → T (every (λ j. for_some (eqb j) js) (binder_nodes a))
      → T (rules_ok n d (m * n) (i * n) (row n ts block a i))
  row_rule a i h t u = rules_row n d (m * n) (cell_of n ts block a i) (i * n) 0 n (i * n) (omega arith) (λ r g. cell_rule a i r h t u (omega arith))

  length_row : (a : Formula) (i : ℕ) → i * n + length (row n ts block a i) ≡ (i + 1) * n
  length_row a i = omega (arith, row_next i n, length_map_range (cell_of n ts block a i) 0 n)

  -- two formulas that follow one another
  after : (a b : Formula) (i : ℕ) → T (rules_ok n d (m * n) ((i + 1) * n) (cells_from n ts block a (i + 1)))
      → T (rules_ok n d (m * n) ((i + 1 + nodes a) * n) (cells_from n ts block b (i + 1 + nodes a)))
      → T (rules_ok n d (m * n) ((i + 1) * n) (cells_from n ts block a (i + 1) ++ cells_from n ts block b (i + 1 + nodes a)))
  after a b i s t =
      rules_append n d (m * n) (cells_from n ts block a (i + 1)) (cells_from n ts block b (i + 1 + nodes a)) ((i + 1) * n) ((i + 1 + nodes a) * n)
      (omega (arith, row_after i (nodes a) n, row_next i n, cells_long n ts block a (i + 1))) s t

  -- a row and the cells after it
  onto : (a : Formula) (i : ℕ) (xs : List Cell) → T (rules_ok n d (m * n) (i * n) (row n ts block a i)) → T (rules_ok n d (m * n) ((i + 1) * n) xs)
      → T (rules_ok n d (m * n) (i * n) (row n ts block a i ++ xs))
  onto a i xs s t = rules_append n d (m * n) (row n ts block a i) xs (i * n) ((i + 1) * n) (length_row a i) s t

  -- all cells
  pub cells_rule : (a : Formula) (i : ℕ) → i + nodes a ≤ m → T (closed js a) → T (every (λ j. for_some (eqb j) js) (binder_nodes a))
      → T (rules_ok n d (m * n) (i * n) (cells_from n ts block a i))
  unfolding cells_from closed binder_nodes nodes every
  cells_rule False i h t u = row_rule False i h t u
  cells_rule True i h t u = row_rule True i h t u
  cells_rule (And a b) i h t u =
      onto (And a b) i _ (row_rule (And a b) i h t u)
      (after a b i
      (cells_rule a (i + 1) (omega arith) (and_left (closed js a) (closed js b) t) (all_first (λ j. for_some (eqb j) js) (binder_nodes a) (binder_nodes b) u))
      (cells_rule b (i + 1 + nodes a) (omega arith) (and_right (closed js a) (closed js b) t) (all_second (λ j. for_some (eqb j) js) (binder_nodes a) (binder_nodes b) u)))
  cells_rule (Or a b) i h t u =
      onto (Or a b) i _ (row_rule (Or a b) i h t u)
      (after a b i
      (cells_rule a (i + 1) (omega arith) (and_left (closed js a) (closed js b) t) (all_first (λ j. for_some (eqb j) js) (binder_nodes a) (binder_nodes b) u))
      (cells_rule b (i + 1 + nodes a) (omega arith) (and_right (closed js a) (closed js b) t) (all_second (λ j. for_some (eqb j) js) (binder_nodes a) (binder_nodes b) u)))
  cells_rule (Box α a) i h t u = onto (Box α a) i _ (row_rule (Box α a) i h t u) (cells_rule a (i + 1) (omega arith) t u)
  cells_rule (Diamond α a) i h t u = onto (Diamond α a) i _ (row_rule (Diamond α a) i h t u) (cells_rule a (i + 1) (omega arith) t u)
  cells_rule (Variable j) i h t u = row_rule (Variable j) i h t u
  cells_rule (Fix sign j a) i h t u =
      onto (Fix sign j a) i _ (row_rule (Fix sign j a) i h t u) (cells_rule a (i + 1) (omega arith) t (and_right (for_some (eqb j) js) _ u))

-- whether a block has a cell for each state
abbrev pub roomy : ℕ → ℕ → Block → Bool
roomy n c b = leb (b.first + n) c

-- each block does
pub blocks_roomy : (n m : ℕ) (a : Formula) (i : ℕ) → i + nodes a ≤ m → T (every (roomy n (m * n)) (blocks_from n a i))
unfolding blocks_from nodes every
blocks_roomy n m False i h = tt
blocks_roomy n m True i h = tt
blocks_roomy n m (And a b) i h =
    all_append (roomy n (m * n)) (blocks_from n a (i + 1)) (blocks_from n b (i + 1 + nodes a))
    (blocks_roomy n m a (i + 1) (omega arith)) (blocks_roomy n m b (i + 1 + nodes a) (omega arith))
blocks_roomy n m (Or a b) i h =
    all_append (roomy n (m * n)) (blocks_from n a (i + 1)) (blocks_from n b (i + 1 + nodes a))
    (blocks_roomy n m a (i + 1) (omega arith)) (blocks_roomy n m b (i + 1 + nodes a) (omega arith))
blocks_roomy n m (Box α a) i h = blocks_roomy n m a (i + 1) (omega arith)
blocks_roomy n m (Diamond α a) i h = blocks_roomy n m a (i + 1) (omega arith)
blocks_roomy n m (Variable j) i h = tt
blocks_roomy n m (Fix sign j a) i h =
    let more : i + 1 + 1 ≤ m = omega (arith, nodes_low a) in
    let up : (i + 1) * n + n ≤ m * n = omega (arith, row_next (i + 1) n, mul-le-mul_right n more) in
    and_both (leb ((i + 1) * n + n) (m * n)) _ (le→leb _ _ up) (blocks_roomy n m a (i + 1) (omega arith))
