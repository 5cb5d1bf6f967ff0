-- What a formula lists of its nodes is what its table lists; so the binders of a table in prefix order, and their blocks.
use mathlib.Core.Path.{◌≡◌, refl, sym, ap, ap₂, ◌∙◌}
use mathlib.Core.Bool.{Bool, true, false, cond, ◌||◌}
use mathlib.Core.List.{List, [], ◌∷◌, ◌++◌, map, append_assoc}
use Prim.Native.Nat.{ℕ, zero, suc, ◌+◌, ◌≤◌, ◌<◌}
use native.Mathlib.Nat.{zero-add, add-zero}
use native.Mathlib.Numerals.{add-one}
use native.Mathlib.Omega.{arith}
use borrow.Author.Tests.{eq-eqb, ne_eqb}
use lib.Dec.{T, eqb, ltb, lt→ltb}
use lib.ListN.{length, get_or, take, drop, length-map}
use lib.Seq.{drop-cons, drop-drop}
use Rattle.sets.specs.Lists.{numbers_from, every, keep}
use Rattle.sets.proofs.Lists.{and_both}
use Rattle.cases.specs.Action.{Action}
use Rattle.cases.specs.Formula.{Formula, nodes}
use Rattle.cases.specs.declared.Node.{Node}
use Rattle.cases.specs.Prefix.{arity_in, formula_arities, span, end_of, formula_at}
use Rattle.cases.specs.Conditions.{node_at, is_binder, binder_count}
use Rattle.cases.specs.internal.Tables.{made, formula_operator, FormulaTable}
use Rattle.cases.proofs.Spans.{span_none, span_add, end_next, first_node, exactly_whole, exactly_span, by_operands}
use Rattle.cases.proofs.Trees.{arity_at}
use Rattle.cases.proofs.TableTrees.{each_kind, formula_at_lem, root}
use Rattle.cases.proofs.Counting.{arity_small, nodes_span}
use Rattle.translate.specs.Whole.{binder_nodes, index_in, block_in}
use Rattle.translate.proofs.Equations.{increasing}

-- ---- lists from the k numbers from i on
module _ {A : Type 0} (item : ℕ → List A) where
  unfoldable pub collect : ℕ → ℕ → List A
  collect i zero = []
  collect i (suc k) = item i ++ collect (suc i) k

  -- m numbers, and n more after them
  collect_add : (m n i : ℕ) → collect i (m + n) ≡ collect i m ++ collect (i + m) n
  unfolding collect
  collect_add zero n i = rw (zero-add n, add-zero i)
  collect_add (suc m) n i =
      let first : suc m + n ≡ suc (m + n) = omega arith in
      let next : suc i + m ≡ i + suc m = omega arith in
      ap (collect i) first
      ∙ ap (λ (l : List A). item i ++ l) (collect_add m n (suc i))
      ∙ ap (λ (j : ℕ). item i ++ (collect (suc i) m ++ collect j n)) next
      ∙ sym (append_assoc (item i) (collect (suc i) m) (collect (i + suc m) n))

-- the lists of the operands, of which there are at most two
abbrev pub operand_lists : {A : Type 0} → ℕ → List A → List A → List A
operand_lists zero us vs = []
operand_lists (suc zero) us vs = us
operand_lists (suc (suc m)) us vs = us ++ vs

-- ---- what is listed of formulas, node by node
module _ (action : ℕ → Action) (t : List Node) (table : FormulaTable t) where
  abbrev ks : List ℕ
  ks = map (arity_in formula_arities) t

  abbrev form : ℕ → Formula
  form = formula_at action t

  in_arities : (i : ℕ) → i < length t → i < length ks
  in_arities i h = rw (length-map t (arity_in formula_arities)) h

  -- a node has at most two operands
  two_operands : (i : ℕ) → i < length t → get_or ks i 0 ≤ 2
  two_operands i h = rw (arity_at formula_arities t i h) (arity_small (node_at t i).kind (table.kinds i h))

  -- the second operand stands after the nodes of the first
  pub second_at : (i : ℕ) → i < length t → get_or ks i 0 ≡ 2 → i + 1 + nodes (form (i + 1)) ≡ end_of ks (i + 1)
  second_at i h e =
      let next : i + 1 < length ks = first_node 1 ks (exactly_whole 1 ks table.whole) i (in_arities i h) (omega arith) in
      ap (λ (m : ℕ). i + 1 + m) (nodes_span action t table (i + 1) (rw (length-map t (arity_in formula_arities)) at next))

  -- `lists a i` is a list made of a formula a at node i: `item i`, and then the lists of the operands
  module _ {A : Type 0} (lists : Formula → ℕ → List A) (item : ℕ → List A)
      (own : (i : ℕ) → i < length t
      → lists (form i) i ≡ item i ++ operand_lists (get_or ks i 0) (lists (form (i + 1)) (i + 1)) (lists (form (end_of ks (i + 1))) (i + 1 + nodes (form (i + 1))))) where
    -- what the table lists from node i on, for the next m formulas
    abbrev inside : ℕ → ℕ → List A
    inside m i = collect item i (span m (drop i ks))

    inside_two : (i : ℕ) → inside 2 i ≡ inside 1 i ++ inside 1 (end_of ks i)
    inside_two i =
        let both : span 2 (drop i ks) ≡ span 1 (drop i ks) + span 1 (drop (end_of ks i) ks) = rw drop-drop at (span_add 1 1 (drop i ks)) in
        ap (collect item i) both ∙ collect_add item (span 1 (drop i ks)) (span 1 (drop (end_of ks i) ks)) i

    inside_node : (i : ℕ) → i < length t → inside 1 i ≡ item i ++ inside (get_or ks i 0) (i + 1)
    unfolding collect
    inside_node i h =
        let here : span 1 (drop i ks) ≡ suc (span (get_or ks i 0) (drop (i + 1) ks)) = omega (arith, end_next ks i (in_arities i h)) in
        ap (collect item i) here ∙ ap (λ (j : ℕ). item i ++ collect item j (span (get_or ks i 0) (drop (i + 1) ks))) (sym (add-one i))

    -- the operands
    operands_inside : (m i : ℕ) → m ≤ 2 → (m ≡ 2 → i + nodes (form i) ≡ end_of ks i) → (1 ≤ m → lists (form i) i ≡ inside 1 i)
        → (m ≡ 2 → lists (form (end_of ks i)) (end_of ks i) ≡ inside 1 (end_of ks i))
        → operand_lists m (lists (form i) i) (lists (form (end_of ks i)) (i + nodes (form i))) ≡ inside m i
    unfolding collect
    operands_inside zero i h e p q = rw span_none
    operands_inside (suc zero) i h e p q = p (omega arith)
    operands_inside (suc (suc zero)) i h e p q =
        ap₂ ◌++◌ (p (omega arith)) (ap (lists (form (end_of ks i))) (e refl) ∙ q refl) ∙ sym (inside_two i)
    operands_inside (suc (suc (suc m))) i h e p q = absurd (omega arith)

    -- What a formula lists is what its table lists.
    listed_inside : (i : ℕ) → i < length t → lists (form i) i ≡ collect item i (span 1 (drop i ks))
    listed_inside i h = by_operands 1 ks (exactly_whole 1 ks table.whole) (λ j. lists (form j) j ≡ inside 1 j) each i (in_arities i h)
      where
        each : (j : ℕ) → j < length ks → (1 ≤ get_or ks j 0 → lists (form (j + 1)) (j + 1) ≡ inside 1 (j + 1))
            → (get_or ks j 0 ≡ 2 → lists (form (end_of ks (j + 1))) (end_of ks (j + 1)) ≡ inside 1 (end_of ks (j + 1))) → lists (form j) j ≡ inside 1 j
        each j l p q =
            let node : j < length t = rw (length-map t (arity_in formula_arities)) at l in
            own j node
            ∙ ap (λ (us : List A). item j ++ us) (operands_inside (get_or ks j 0) (j + 1) (two_operands j node) (second_at j node) p q)
            ∙ sym (inside_node j node)

    -- the whole formula lists all nodes
    pub listed_all : lists (form 0) 0 ≡ collect item 0 (length t)
    listed_all =
        let all_nodes : span 1 ks ≡ length t = exactly_span 1 ks table.whole ∙ length-map t (arity_in formula_arities) in
        listed_inside 0 (root t table) ∙ ap (collect item 0) all_nodes

-- ---- binders
-- keeping is collecting
keep_collect : (p : ℕ → Bool) (k i : ℕ) → collect (λ j. cond (p j) (j ∷ []) []) i k ≡ keep p (numbers_from i k)
unfolding collect keep numbers_from
keep_collect p zero i = refl
keep_collect p (suc k) i = ap (λ (l : List ℕ). cond (p i) (i ∷ []) [] ++ l) (keep_collect p k (suc i)) ∙ go (p i)
  where
    go : (r : Bool) → cond r (i ∷ []) [] ++ keep p (numbers_from (suc i) k) ≡ cond r (i ∷ keep p (numbers_from (suc i) k)) (keep p (numbers_from (suc i) k))
    go true = refl
    go false = refl

module _ (action : ℕ → Action) (t : List Node) (table : FormulaTable t) where
  -- the binders of a node
  binders_own : (i arg k : ℕ) → k ≤ 8 → (f g : Formula) → binder_nodes (made (formula_operator action i arg k) f g)
      ≡ cond (eqb k 7 || eqb k 8) (i ∷ []) [] ++ operand_lists (get_or formula_arities k 0) (binder_nodes f) (binder_nodes g)
  unfolding binder_nodes
  binders_own i arg k h f g =
      each_kind (λ k. binder_nodes (made (formula_operator action i arg k) f g)
      ≡ cond (eqb k 7 || eqb k 8) (i ∷ []) [] ++ operand_lists (get_or formula_arities k 0) (binder_nodes f) (binder_nodes g))
      refl refl refl refl refl refl refl refl refl k h

  -- The binders of the whole formula are those of the table, in order.
  pub binder_nodes_lem : binder_nodes (formula_at action t 0) ≡ keep (λ i. is_binder (node_at t i)) (numbers_from 0 (length t))
  binder_nodes_lem = listed_all action t table (λ a i. binder_nodes a) (λ i. cond (is_binder (node_at t i)) (i ∷ []) []) own ∙ keep_collect _ (length t) 0
    where
      own : (i : ℕ) → i < length t → binder_nodes (formula_at action t i)
          ≡ cond (is_binder (node_at t i)) (i ∷ []) []
          ++ operand_lists (get_or (map (arity_in formula_arities) t) i 0) (binder_nodes (formula_at action t (i + 1)))
          (binder_nodes (formula_at action t (end_of (map (arity_in formula_arities) t) (i + 1))))
      own i h =
          ap binder_nodes (formula_at_lem action t table i (node_at t i).kind h refl)
          ∙ rw (arity_at formula_arities t i h) (binders_own i (node_at t i).arg (node_at t i).kind (table.kinds i h) _ _)

-- what is kept of later numbers is greater
keep_above : (p : ℕ → Bool) (x k i : ℕ) → x < i → T (every (ltb x) (keep p (numbers_from i k)))
unfolding every keep numbers_from
keep_above p x zero i h = tt
keep_above p x (suc k) i h = go (p i) (keep_above p x k (suc i) (omega arith))
  where
    go : (r : Bool) → T (every (ltb x) (keep p (numbers_from (suc i) k))) → T (every (ltb x) (cond r (i ∷ keep p (numbers_from (suc i) k)) (keep p (numbers_from (suc i) k))))
    go true rest = and_both (ltb x i) _ (lt→ltb x i h) rest
    go false rest = rest

-- A kept part of a range is increasing.
keep_increasing : (p : ℕ → Bool) (k i : ℕ) → T (increasing (keep p (numbers_from i k)))
unfolding increasing keep numbers_from
keep_increasing p zero i = tt
keep_increasing p (suc k) i = go (p i) (keep_increasing p k (suc i))
  where
    go : (r : Bool) → T (increasing (keep p (numbers_from (suc i) k))) → T (increasing (cond r (i ∷ keep p (numbers_from (suc i) k)) (keep p (numbers_from (suc i) k))))
    go true rest = and_both (every (ltb i) (keep p (numbers_from (suc i) k))) _ (keep_above p i k (suc i) (omega arith)) rest
    go false rest = rest

-- a binder's place among those from node i on
binder_place : (t : List Node) (m k i : ℕ) → m < k → i + k ≤ length t → is_binder (node_at t (i + m)) ≡ true
    → index_in (i + m) (keep (λ j. is_binder (node_at t j)) (numbers_from i k)) ≡ binder_count (take m (drop i t))
unfolding index_in keep numbers_from binder_count
binder_place t m zero i h l e = absurd (omega arith)
binder_place t zero (suc k) i h l e =
    let here : is_binder (node_at t i) ≡ true = rw (add-zero i) at e in
    rw (add-zero i, here, eq-eqb i i refl)
binder_place t (suc m) (suc k) i h l e =
    let next : i + suc m ≡ suc i + m = omega arith in
    let more : index_in (suc i + m) later ≡ binder_count (take m (drop (suc i) t)) =
    binder_place t m k (suc i) (omega arith) (omega arith) (rw next at e) in
    rw (drop-cons t i (record { kind = 0; arg = 0 }) (omega arith), next) (go (is_binder (node_at t i)) more)
  where
    later : List ℕ
    later = keep (λ j. is_binder (node_at t j)) (numbers_from (suc i) k)

    go : (r : Bool) → index_in (suc i + m) later ≡ binder_count (take m (drop (suc i) t))
        → index_in (suc i + m) (cond r (i ∷ later) later) ≡ cond r 1 0 + binder_count (take m (drop (suc i) t))
    go true p = rw (ne_eqb (suc i + m) i (λ q. omega arith), p) (omega arith)
    go false p = p ∙ sym (zero-add _)

module _ (action : ℕ → Action) (t : List Node) (table : FormulaTable t) where
  -- So the numbers of a table's binders increase.
  pub increasing_binders : T (increasing (binder_nodes (formula_at action t 0)))
  increasing_binders = rw (binder_nodes_lem action t table) (keep_increasing (λ i. is_binder (node_at t i)) (length t) 0)

  -- The block of a binder is the number of binders before it.
  pub block_of_binder : (j : ℕ) → j < length t → is_binder (node_at t j) ≡ true → block_in (formula_at action t 0) j ≡ binder_count (take j t)
  unfolding block_in
  block_of_binder j h e =
      rw (binder_nodes_lem action t table) (rw (zero-add j) at (binder_place t j (length t) 0 h (omega arith) (rw (zero-add j) e)))
