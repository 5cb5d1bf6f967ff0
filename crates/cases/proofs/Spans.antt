-- Spans of subtrees in a table in prefix order, by its list of arities.
use mathlib.Core.Path.{◌≡◌, refl, sym, ap, ◌∙◌}
use mathlib.Core.Bool.{true}
use mathlib.Core.List.{List, [], ◌∷◌}
use Prim.Native.Nat.{ℕ, zero, suc, ◌+◌, ◌-◌, ◌≤◌, ◌<◌}
use native.Mathlib.Nat.{zero-add, add-zero, add_comm}
use native.Mathlib.Numerals.{add-one}
use native.Mathlib.Omega.{arith}
use borrow.Author.Tests.{eqb-true, eq-eqb}
use lib.ListN.{length, get_or, drop, length-drop}
use lib.Seq.{drop-cons, drop-drop}
use Rattle.cases.specs.Prefix.{whole_formulas, exactly, span, end_of}

-- no formulas have no nodes
pub span_none : (ks : List ℕ) → span 0 ks ≡ 0
unfolding span
span_none [] = refl
span_none (k ∷ ks) = refl

-- a span lies in the table
pub span_length : (due : ℕ) (ks : List ℕ) → span due ks ≤ length ks
unfolding span
span_length due [] = omega arith
span_length zero (k ∷ ks) = omega arith
span_length (suc due) (k ∷ ks) = let h : span (due + k) ks ≤ length ks = span_length (due + k) ks in omega arith

-- m formulas, and n more after them
pub span_add : (m n : ℕ) (ks : List ℕ) → span (m + n) ks ≡ span m ks + span n (drop (span m ks) ks)
unfolding span
span_add m n [] = omega arith
span_add zero n (k ∷ ks) = ap (λ (due : ℕ). span due (k ∷ ks)) (zero-add n) ∙ sym (zero-add (span n (k ∷ ks)))
span_add (suc m) n (k ∷ ks) =
    let first : suc m + n ≡ suc (m + n) = omega arith in
    let then : m + n + k ≡ m + k + n = omega arith in
    let more : span (m + k + n) ks ≡ span (m + k) ks + span n (drop (span (m + k) ks) ks) = span_add (m + k) n ks in
    let all : span (m + n + k) ks ≡ span (m + k) ks + span n (drop (span (m + k) ks) ks) = rw then more in
    rw first (omega arith)

-- The subtree of a node of a span lies in the span.
span_nested : (due : ℕ) (ks : List ℕ) (j : ℕ) → j < span due ks → j + span 1 (drop j ks) ≤ span due ks
unfolding span
span_nested due [] j h = absurd (omega arith)
span_nested zero (k ∷ ks) j h = absurd (omega arith)
span_nested (suc due) (k ∷ ks) zero h =
    let swap : due + k ≡ 0 + k + due = omega arith in
    let more : span (0 + k + due) ks ≡ span (0 + k) ks + span due (drop (span (0 + k) ks) ks) = span_add (0 + k) due ks in
    rw swap (omega arith)
span_nested (suc due) (k ∷ ks) (suc j) h =
    let inner : j + span 1 (drop j ks) ≤ span (due + k) ks = span_nested (due + k) ks j (omega arith) in
    omega arith

-- ---- nodes, by the list of all arities
module _ (ks : List ℕ) where
  -- a node's subtree is the node and its operands' subtrees
  pub end_next : (i : ℕ) → i < length ks → end_of ks i ≡ i + 1 + span (get_or ks i 0) (drop (i + 1) ks)
  unfolding span
  end_next i h =
      let one : span 1 (get_or ks i 0 ∷ drop (suc i) ks) ≡ suc (span (get_or ks i 0) (drop (suc i) ks)) =
      ap (λ (due : ℕ). suc (span due (drop (suc i) ks))) (zero-add (get_or ks i 0)) in
      let here : span 1 (drop i ks) ≡ suc (span (get_or ks i 0) (drop (suc i) ks)) = rw (drop-cons ks i 0) one in
      rw (add-one i) (omega arith)

  -- a leaf's subtree is the node
  pub end_leaf : (i : ℕ) → i < length ks → get_or ks i 0 ≡ 0 → end_of ks i ≡ i + 1
  end_leaf i h k = end_next i h ∙ rw (k, span_none) (omega arith)

  -- the subtree of a node with one operand ends with the operand's
  pub end_one : (i : ℕ) → i < length ks → get_or ks i 0 ≡ 1 → end_of ks i ≡ end_of ks (i + 1)
  end_one i h k = end_next i h ∙ rw k

  -- two subtrees that follow one another
  ends_twice : (i : ℕ) → i + span 2 (drop i ks) ≡ end_of ks (end_of ks i)
  ends_twice i =
      let both : span 2 (drop i ks) ≡ span 1 (drop i ks) + span 1 (drop (span 1 (drop i ks)) (drop i ks)) = span_add 1 1 (drop i ks) in
      let after : span 1 (drop (span 1 (drop i ks)) (drop i ks)) ≡ span 1 (drop (end_of ks i) ks) =
      ap (span 1) (drop-drop (span 1 (drop i ks)) i ks) in
      omega arith

  -- with two operands, the second's subtree starts where the first's ends, and the node's ends with it
  pub end_two : (i : ℕ) → i < length ks → get_or ks i 0 ≡ 2 → end_of ks i ≡ end_of ks (end_of ks (i + 1))
  end_two i h k =
      let both : i + 1 + span 2 (drop (i + 1) ks) ≡ end_of ks (end_of ks (i + 1)) = ends_twice (i + 1) in
      end_next i h ∙ rw k both

  -- a subtree has its node
  pub after_node : (i : ℕ) → i < length ks → i < end_of ks i
  after_node i h = omega (arith, end_next i h)

  -- a subtree lies in the table
  pub end_inside : (i : ℕ) → i ≤ length ks → end_of ks i ≤ length ks
  end_inside i h = omega (arith, span_length 1 (drop i ks), length-drop i ks)

  -- the subtree of a node of a subtree lies in that subtree
  pub nested : (i j : ℕ) → i ≤ j → j < end_of ks i → end_of ks j ≤ end_of ks i
  nested i j h l =
      let back : i + (j - i) ≡ j = omega arith in
      let same : drop (j - i) (drop i ks) ≡ drop j ks = drop-drop (j - i) i ks ∙ ap (λ (m : ℕ). drop m ks) back in
      let inner : j - i + span 1 (drop j ks) ≤ span 1 (drop i ks) = rw same at (span_nested 1 (drop i ks) (j - i) (omega arith)) in
      omega arith

-- ---- whole formulas
-- one number of formulas and no more are whole formulas
pub exactly_whole : (due : ℕ) (ks : List ℕ) → exactly due ks ≡ true → whole_formulas due ks ≡ true
unfolding exactly whole_formulas
exactly_whole due [] e = e
exactly_whole zero (k ∷ ks) e = cc
exactly_whole (suc due) (k ∷ ks) e = exactly_whole (due + k) ks e

-- and have all nodes
pub exactly_span : (due : ℕ) (ks : List ℕ) → exactly due ks ≡ true → span due ks ≡ length ks
unfolding exactly span
exactly_span due [] e = refl
exactly_span zero (k ∷ ks) e = cc
exactly_span (suc due) (k ∷ ks) e = ap suc (exactly_span (due + k) ks e)

-- The first m of whole formulas have at least m nodes, and whole formulas follow.
whole_span : (m n : ℕ) (ks : List ℕ) → whole_formulas (m + n) ks ≡ true → (m ≤ span m ks) × (whole_formulas n (drop (span m ks) ks) ≡ true)
unfolding whole_formulas span
whole_span m n [] e =
    let none : m + n ≡ 0 = eqb-true (m + n) 0 e in
    (omega arith, eq-eqb n 0 (omega arith))
whole_span zero n (k ∷ ks) e = (omega arith, rw zero-add at e)
whole_span (suc m) n (k ∷ ks) e =
    let first : suc m + n ≡ suc (m + n) = omega arith in
    let then : m + n + k ≡ m + k + n = omega arith in
    let left : whole_formulas (suc (m + n)) (k ∷ ks) ≡ true = rw first at e in
    let more : (m + k ≤ span (m + k) ks) × (whole_formulas n (drop (span (m + k) ks) ks) ≡ true) = whole_span (m + k) n ks (rw then at left) in
    (omega arith, more.1)

-- where n formulas are due before node i, which has k operands, k and more are due after it
whole_next : (n k : ℕ) (ks : List ℕ) → whole_formulas n (k ∷ ks) ≡ true → (m : ℕ) × (whole_formulas (k + m) ks ≡ true)
unfolding whole_formulas
whole_next zero k ks e = (0, rw (add-zero k) e)
whole_next (suc n) k ks e = (n, rw (add_comm k n) e)

-- from any node on, the table has whole formulas
pub whole_rest : (n : ℕ) (ks : List ℕ) (i : ℕ) → whole_formulas n ks ≡ true → (m : ℕ) × (whole_formulas m (drop i ks) ≡ true)
whole_rest n ks zero e = (n, e)
whole_rest n [] (suc i) e = (n, e)
whole_rest n (k ∷ ks) (suc i) e =
    let next : (m : ℕ) × (whole_formulas (k + m) ks ≡ true) = whole_next n k ks e in
    whole_rest (k + next.0) ks i next.1

-- ---- operands of a table of whole formulas
module _ (n : ℕ) (ks : List ℕ) (whole : whole_formulas n ks ≡ true) (i : ℕ) (inside : i < length ks) where
  -- after a node its operands are due
  pub operands_due : (m : ℕ) × (whole_formulas (get_or ks i 0 + m) (drop (i + 1) ks) ≡ true)
  operands_due =
      let rest : (m : ℕ) × (whole_formulas m (drop i ks) ≡ true) = whole_rest n ks i whole in
      let node : whole_formulas rest.0 (get_or ks i 0 ∷ drop (suc i) ks) ≡ true = rw (drop-cons ks i 0) at rest.1 in
      rw (add-one i) (whole_next rest.0 (get_or ks i 0) (drop (suc i) ks) node)

  -- a node with operands has the first in its subtree
  pub first_inside : 1 ≤ get_or ks i 0 → i + 1 < end_of ks i
  first_inside k =
      let due : get_or ks i 0 ≤ span (get_or ks i 0) (drop (i + 1) ks) =
      (whole_span (get_or ks i 0) operands_due.0 (drop (i + 1) ks) operands_due.1).0 in
      omega (arith, end_next ks i inside)

  -- the first operand is a node
  pub first_node : 1 ≤ get_or ks i 0 → i + 1 < length ks
  first_node k = omega (arith, first_inside k, end_inside ks i (omega arith))

  -- whose subtree lies in the node's

  -- a node with two operands has the second after the first's subtree, in its own
  pub second_inside : get_or ks i 0 ≡ 2 → (i + 1 < end_of ks (i + 1)) × (end_of ks (i + 1) < end_of ks i)
  second_inside k =
      let m : ℕ = operands_due.0 in
      let both : get_or ks i 0 + m ≡ 1 + (1 + m) = omega arith in
      let due : whole_formulas (1 + (1 + m)) (drop (i + 1) ks) ≡ true = rw both at operands_due.1 in
      let more : whole_formulas (1 + m) (drop (span 1 (drop (i + 1) ks)) (drop (i + 1) ks)) ≡ true =
      (whole_span 1 (1 + m) (drop (i + 1) ks) due).1 in
      let rest : whole_formulas (1 + m) (drop (end_of ks (i + 1)) ks) ≡ true = rw drop-drop at more in
      omega (arith, end_two ks i inside k, after_node ks (i + 1) (first_node (omega arith)), (whole_span 1 m (drop (end_of ks (i + 1)) ks) rest).0)

  -- the second operand is a node
  pub second_node : get_or ks i 0 ≡ 2 → end_of ks (i + 1) < length ks
  second_node k = omega (arith, (second_inside k).1, end_inside ks i (omega arith))
  -- whose subtree lies in the node's too

-- What holds of each node if it holds of its operands holds of every node.
module _ (n : ℕ) (ks : List ℕ) (whole : whole_formulas n ks ≡ true) (P : ℕ → Type 0)
    (each : (i : ℕ) → i < length ks → (1 ≤ get_or ks i 0 → P (i + 1)) → (get_or ks i 0 ≡ 2 → P (end_of ks (i + 1))) → P i) where
  by_operands_in : (left i : ℕ) → length ks ≤ i + left → i < length ks → P i
  by_operands_in zero i l h = absurd (omega arith)
  by_operands_in (suc left) i l h =
      each i h
      (λ k. by_operands_in left (i + 1) (omega arith) (first_node n ks whole i h k))
      (λ k. by_operands_in left (end_of ks (i + 1)) (omega arith) (second_node n ks whole i h k))

  pub by_operands : (i : ℕ) → i < length ks → P i
  by_operands i h = by_operands_in (length ks) i (omega arith) h
