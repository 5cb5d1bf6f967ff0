-- How many nodes and binders the formula at a node has, counted in the table.
use mathlib.Core.Path.{◌≡◌, refl, sym, ap, ap₂, ◌∙◌}
use mathlib.Core.Bool.{cond, ◌||◌}
use mathlib.Core.List.{List, [], ◌∷◌, ◌++◌, map}
use Prim.Native.Nat.{ℕ, zero, suc, ◌+◌, ◌≤◌, ◌<◌}
use native.Mathlib.Numerals.{add-one}
use native.Mathlib.Omega.{arith}
use lib.Dec.{eqb}
use lib.ListN.{length, get_or, drop, take, length-map, length-drop}
use lib.Seq.{drop-cons, drop-drop, take-add, take_all, length-take-le}
use Rattle.cases.specs.Action.{Action}
use Rattle.cases.specs.Formula.{Formula, nodes}
use Rattle.cases.specs.internal.Scope.{binders}
use Rattle.cases.specs.Prefix.{Node, arity_in, formula_arities, span, end_of, formula_at}
use Rattle.cases.specs.Conditions.{node_at, binder_count}
use Rattle.cases.specs.internal.Tables.{made, formula_operator, FormulaTable}
use Rattle.cases.proofs.Spans.{span_none, span_length, span_add, end_next, exactly_whole, exactly_span, by_operands}
use Rattle.cases.proofs.Trees.{arity_at}
use Rattle.cases.proofs.TableTrees.{each_kind, formula_at_lem, root}

-- the sum over the operands, of which there are at most two
abbrev operand_sum : ℕ → ℕ → ℕ → ℕ
operand_sum zero a b = 0
operand_sum (suc zero) a b = a
operand_sum (suc (suc m)) a b = a + b

-- equal summands have equal sums
same_sum : (m a b c d : ℕ) → m ≤ 2 → (1 ≤ m → a ≡ c) → (m ≡ 2 → b ≡ d) → operand_sum m a b ≡ operand_sum m c d
same_sum zero a b c d h p q = refl
same_sum (suc zero) a b c d h p q = p (omega arith)
same_sum (suc (suc m)) a b c d h p q = ap₂ ◌+◌ (p (omega arith)) (q (omega arith))

-- a formula node has at most two operands
pub arity_small : (k : ℕ) → k ≤ 8 → get_or formula_arities k 0 ≤ 2
arity_small = each_kind (λ k. get_or formula_arities k 0 ≤ 2)
    (omega arith) (omega arith) (omega arith) (omega arith) (omega arith) (omega arith) (omega arith) (omega arith) (omega arith)

-- A count of nodes by their kinds, and of the nodes of formulas.
record Counts (count : List Node → ℕ) (size : Formula → ℕ) : Type 0 where
  weight : ℕ → ℕ
  of_none : count [] ≡ 0
  of_node : (x : Node) (xs : List Node) → count (x ∷ xs) ≡ weight x.kind + count xs
  of_made : (action : ℕ → Action) (i arg k : ℕ) → k ≤ 8 → (f g : Formula)
      → size (made (formula_operator action i arg k) f g) ≡ weight k + operand_sum (get_or formula_arities k 0) (size f) (size g)

module _ (count : List Node → ℕ) (size : Formula → ℕ) (c : Counts count size) where
  -- the count of two lists, one after the other
  count_append : (xs ys : List Node) → count (xs ++ ys) ≡ count xs + count ys
  count_append [] ys = omega (arith, c.of_none)
  count_append (x ∷ xs) ys = omega (arith, c.of_node x xs, c.of_node x (xs ++ ys), count_append xs ys)

  module _ (action : ℕ → Action) (t : List Node) (table : FormulaTable t) where
    abbrev ks : List ℕ
    ks = map (arity_in formula_arities) t

    -- the count of the subtree of node i
    abbrev inside : ℕ → ℕ
    inside i = count (take (span 1 (drop i ks)) (drop i t))

    -- the count of the next m subtrees from node i on
    subtrees : (m i : ℕ) → m ≤ 2 → count (take (span m (drop i ks)) (drop i t)) ≡ operand_sum m (inside i) (inside (end_of ks i))
    subtrees zero i h = rw span_none c.of_none
    subtrees (suc zero) i h = refl
    subtrees (suc (suc zero)) i h =
        let both : span 2 (drop i ks) ≡ span 1 (drop i ks) + span 1 (drop (end_of ks i) ks) = rw drop-drop at (span_add 1 1 (drop i ks)) in
        ap (λ (m : ℕ). count (take m (drop i t))) both
        ∙ ap count (take-add (span 1 (drop i ks)) (span 1 (drop (end_of ks i) ks)) (drop i t))
        ∙ count_append (take (span 1 (drop i ks)) (drop i t)) _
        ∙ rw (drop-drop (span 1 (drop i ks)) i t)
    subtrees (suc (suc (suc m))) i h = absurd (omega arith)

    -- a node of the table is one of its arities
    in_counts : (i : ℕ) → i < length t → i < length ks
    in_counts i h = rw (length-map t (arity_in formula_arities)) h

    -- a node has at most two operands
    two_operands : (i : ℕ) → i < length t → get_or ks i 0 ≤ 2
    two_operands i h = rw (arity_at formula_arities t i h) (arity_small (node_at t i).kind (table.kinds i h))

    -- a subtree is its node and the operands' subtrees
    inside_node : (i : ℕ) → i < length t
        → inside i ≡ c.weight (node_at t i).kind + operand_sum (get_or ks i 0) (inside (i + 1)) (inside (end_of ks (i + 1)))
    inside_node i h =
        let m : ℕ = span (get_or ks i 0) (drop (i + 1) ks) in
        let nodes_here : span 1 (drop i ks) ≡ suc m = omega (arith, end_next ks i (in_counts i h)) in
        let here : drop i t ≡ node_at t i ∷ drop (i + 1) t = rw (add-one i) (drop-cons t i (record { kind = 0; arg = 0 }) h) in
        ap₂ (λ (n : ℕ) (xs : List Node). count (take n xs)) nodes_here here
        ∙ c.of_node (node_at t i) (take m (drop (i + 1) t))
        ∙ ap (λ (n : ℕ). c.weight (node_at t i).kind + n) (subtrees (get_or ks i 0) (i + 1) (two_operands i h))

    -- what is counted of a formula is what is counted of its nodes
    counted : (i : ℕ) → i < length t → size (formula_at action t i) ≡ inside i
    counted i h = by_operands 1 ks (exactly_whole 1 ks table.whole) (λ j. size (formula_at action t j) ≡ inside j) each i (in_counts i h)
      where
        each : (j : ℕ) → j < length ks → (1 ≤ get_or ks j 0 → size (formula_at action t (j + 1)) ≡ inside (j + 1))
            → (get_or ks j 0 ≡ 2 → size (formula_at action t (end_of ks (j + 1))) ≡ inside (end_of ks (j + 1))) → size (formula_at action t j) ≡ inside j
        each j l p q =
            let node : j < length t = rw (length-map t (arity_in formula_arities)) at l in
            let x : Node = node_at t j in
            ap size (formula_at_lem action t table j x.kind node refl)
            ∙ c.of_made action j x.arg x.kind (table.kinds j node) _ _
            ∙ ap (λ (m : ℕ). c.weight x.kind + operand_sum m (size (formula_at action t (j + 1))) (size (formula_at action t (end_of ks (j + 1)))))
            (sym (arity_at formula_arities t j node))
            ∙ ap (λ (n : ℕ). c.weight x.kind + n) (same_sum (get_or ks j 0) _ _ _ _ (two_operands j node) p q)
            ∙ sym (inside_node j node)

-- nodes are counted by one each
count_nodes : Counts length nodes
unfolding nodes
count_nodes = record {
  weight = λ k. 1;
  of_none = refl;
  of_node = λ x xs. omega arith;
  of_made = λ action i arg k h f g.
      each_kind (λ k. nodes (made (formula_operator action i arg k) f g) ≡ 1 + operand_sum (get_or formula_arities k 0) (nodes f) (nodes g))
      refl refl (omega arith) (omega arith) refl refl refl refl refl k h;
}

-- binders by one for each mu and nu
count_binders : Counts binder_count binders
unfolding binders binder_count
count_binders = record {
  weight = λ k. cond (eqb k 7 || eqb k 8) 1 0;
  of_none = refl;
  of_node = λ x xs. refl;
  of_made = λ action i arg k h f g.
      each_kind (λ k. binders (made (formula_operator action i arg k) f g) ≡ cond (eqb k 7 || eqb k 8) 1 0 + operand_sum (get_or formula_arities k 0) (binders f) (binders g))
      refl refl (omega arith) (omega arith) (omega arith) (omega arith) refl refl refl k h;
}

module _ (action : ℕ → Action) (t : List Node) (table : FormulaTable t) where
  -- the formula at node i has the nodes of its subtree
  pub nodes_span : (i : ℕ) → i < length t → nodes (formula_at action t i) ≡ span 1 (drop i (map (arity_in formula_arities) t))
  nodes_span i h =
      let fits : span 1 (drop i (map (arity_in formula_arities) t)) ≤ length (drop i t) =
      omega (
        arith,
        span_length 1 (drop i (map (arity_in formula_arities) t)),
        length-drop i (map (arity_in formula_arities) t),
        length-drop i t,
        length-map t (arity_in formula_arities),
      ) in
      counted length nodes count_nodes action t table i h ∙ length-take-le _ _ fits

  -- and its binders
  pub binders_span : (i : ℕ) → i < length t
      → binders (formula_at action t i) ≡ binder_count (take (span 1 (drop i (map (arity_in formula_arities) t))) (drop i t))
  binders_span i h = counted binder_count binders count_binders action t table i h

  -- the whole formula has all binders of the table
  pub binders_all : binders (formula_at action t 0) ≡ binder_count t
  binders_all =
      let all_nodes : length t ≤ span 1 (map (arity_in formula_arities) t) =
      omega (arith, exactly_span 1 (map (arity_in formula_arities) t) table.whole, length-map t (arity_in formula_arities)) in
      binders_span 0 (root t table) ∙ ap binder_count (take_all _ t all_nodes)
