-- Tables in prefix order and their trees: the trees exist, and the tree at a node is that of its operands' trees.
use mathlib.Core.Path.{◌≡◌, refl, sym, ap, ap₂, ◌∙◌}
use mathlib.Core.Bool.{true}
use mathlib.Core.List.{List, [], ◌∷◌, map}
use mathlib.Core.Option.{Option, some}
use Prim.Native.Nat.{ℕ, zero, suc, ◌+◌, ◌≤◌, ◌<◌}
use native.Mathlib.Nat.{add-zero, add_comm}
use native.Mathlib.Numerals.{add-one}
use native.Mathlib.Omega.{arith}
use borrow.Author.Tests.{eqb-true}
use lib.ListN.{length, get_or, drop, length-drop, length-map}
use lib.Seq.{drop-cons, drop-drop, drop-nil, get_or-drop}
use Rattle.sets.proofs.Lists.{get_or_map, drop_map}
use Rattle.cases.specs.Prefix.{Node, arity_in, whole_formulas, exactly, span, end_of, leaf, unary_op, binary_op, onto, top_or, trees}
use Rattle.cases.specs.Conditions.{node_at}
use Rattle.cases.specs.internal.Tables.{Operator, constant, unary, binary, made, KindsTo}
use Rattle.cases.proofs.Spans.{operands_due}

-- the arity of node i
pub arity_at : (arities : List ℕ) (t : List Node) (i : ℕ) → i < length t → get_or (map (arity_in arities) t) i 0 ≡ arity_in arities (node_at t i)
arity_at arities t i h = get_or_map (arity_in arities) t i (record { kind = 0; arg = 0 }) 0 h

module _ {A : Type 0} where
  -- how many trees it takes
  abbrev pub operands : Operator A → ℕ
  operands (constant a) = 0
  operands (unary f) = 1
  operands (binary f) = 2

  -- it replaces the trees that it takes by the one that it makes
  abbrev pub replace : Operator A → List A → Option (List A)
  replace (constant a) = leaf a
  replace (unary f) = unary_op f
  replace (binary f) = binary_op f

  -- the first tree, or d where there is none
  abbrev pub first : A → List A → A
  first d st = top_or d (some st)

  -- where there are enough trees, that many are replaced by one
  pub replaced : (d : A) (f : Operator A) (st : List A) → operands f ≤ length st
      → replace f st ≡ some (made f (first d st) (first d (drop 1 st)) ∷ drop (operands f) st)
  replaced d (constant a) st h = refl
  replaced d (unary f) [] h = absurd (omega arith)
  replaced d (unary f) (a ∷ st) h = refl
  replaced d (binary f) [] h = absurd (omega arith)
  replaced d (binary f) (a ∷ []) h = absurd (omega arith)
  replaced d (binary f) (a ∷ b ∷ st) h = refl

-- A way to place nodes of kinds up to a limit: each places an operator that takes as many trees as the kind has operands.
pub record Placing {A : Type 0} (place : ℕ → Node → List A → Option (List A)) (arities : List ℕ) (limit : ℕ) : Type 0 where
  pub operator : ℕ → Node → Operator A
  pub places : (i : ℕ) (x : Node) → x.kind ≤ limit → place i x ≡ replace (operator i x)
  pub takes : (i : ℕ) (x : Node) → x.kind ≤ limit → operands (operator i x) ≡ arity_in arities x

module _ {A : Type 0} (d : A) (place : ℕ → Node → List A → Option (List A)) (arities : List ℕ) (limit : ℕ) (p : Placing place arities limit) where
  -- a node on top of enough trees
  pub placed : (i : ℕ) (x : Node) (xs : List Node) (st : List A) → x.kind ≤ limit → trees place (suc i) xs ≡ some st → arity_in arities x ≤ length st
      → trees place i (x ∷ xs) ≡ some (made (p.operator i x) (first d st) (first d (drop 1 st)) ∷ drop (arity_in arities x) st)
  unfolding trees
  placed i x xs st k e h =
      let enough : operands (p.operator i x) ≤ length st = rw (p.takes i x k) h in
      ap (λ (o : Option (List A)). onto o (place i x)) e
      ∙ ap (λ (f : List A → Option (List A)). f st) (p.places i x k)
      ∙ rw (p.takes i x k) at (replaced d (p.operator i x) st enough)

  -- the arities of a table
  abbrev counts : List Node → List ℕ
  counts xs = map (arity_in arities) xs

  -- The trees of a table from node i on, and those that are left after the first n.
  pub record Row (i : ℕ) (xs : List Node) : Type 0 where
    pub row : List A
    pub is : trees place i xs ≡ some row
    pub after : (n : ℕ) → trees place (i + span n (counts xs)) (drop (span n (counts xs)) xs) ≡ some (drop n row)

  -- the row of no nodes
  empty_row : (i : ℕ) → Row i []
  unfolding trees span
  empty_row i = record { row = []; is = refl; after = λ n. sym (ap some (drop-nil n)) }

  -- the trees that are left after the first n, with one more node
  left_after : (i : ℕ) (x : Node) (xs : List Node) (r : Row (suc i) xs) (a : A) → trees place i (x ∷ xs) ≡ some (a ∷ drop (arity_in arities x) r.row)
      → (n : ℕ) → trees place (i + span n (counts (x ∷ xs))) (drop (span n (counts (x ∷ xs))) (x ∷ xs)) ≡ some (drop n (a ∷ drop (arity_in arities x) r.row))
  unfolding span
  left_after i x xs r a e zero = rw (add-zero i) e
  left_after i x xs r a e (suc n) =
      let m : ℕ = span (n + arity_in arities x) (counts xs) in
      let at_next : suc i + m ≡ i + suc m = omega arith in
      let left : trees place (i + suc m) (drop m xs) ≡ some (drop (n + arity_in arities x) r.row) = rw at_next at (r.after (n + arity_in arities x)) in
      left ∙ ap some (ap (λ (k : ℕ). drop k r.row) (add_comm n (arity_in arities x)) ∙ sym (drop-drop n (arity_in arities x) r.row))

  -- a row with a node on top of it, which takes the trees of its operands
  next_row : (i : ℕ) (x : Node) (xs : List Node) (r : Row (suc i) xs) → x.kind ≤ limit → arity_in arities x ≤ length r.row
      → (s : Row i (x ∷ xs)) × (length s.row + arity_in arities x ≡ suc (length r.row))
  next_row i x xs r k h =
      let e : trees place i (x ∷ xs) ≡ some (made (p.operator i x) (first d r.row) (first d (drop 1 r.row)) ∷ drop (arity_in arities x) r.row) =
      placed i x xs r.row k r.is h in (
        record {
          row = made (p.operator i x) (first d r.row) (first d (drop 1 r.row)) ∷ drop (arity_in arities x) r.row;
          is = e;
          after = left_after i x xs r (made (p.operator i x) (first d r.row) (first d (drop 1 r.row))) e;
        },
        omega (arith, length-drop (arity_in arities x) r.row),
      )

  -- Whole formulas have their trees, at least as many as are due.
  pub whole_trees : (due i : ℕ) (xs : List Node) → KindsTo limit xs → whole_formulas due (counts xs) ≡ true → (r : Row i xs) × (due ≤ length r.row)
  unfolding whole_formulas
  whole_trees due i [] kinds e = (empty_row i, omega (arith, eqb-true due 0 e))
  whole_trees zero i (x ∷ xs) kinds e =
      let rest : (r : Row (suc i) xs) × (arity_in arities x ≤ length r.row) =
      whole_trees (arity_in arities x) (suc i) xs (λ j h. kinds (suc j) (omega arith)) e in
      ((next_row i x xs rest.0 (kinds 0 (omega arith)) rest.1).0, omega arith)
  whole_trees (suc due) i (x ∷ xs) kinds e =
      let rest : (r : Row (suc i) xs) × (due + arity_in arities x ≤ length r.row) =
      whole_trees (due + arity_in arities x) (suc i) xs (λ j h. kinds (suc j) (omega arith)) e in
      let next : (s : Row i (x ∷ xs)) × (length s.row + arity_in arities x ≡ suc (length rest.0.row)) =
      next_row i x xs rest.0 (kinds 0 (omega arith)) (omega arith) in
      (next.0, omega arith)

  -- Exactly the formulas that are due have as many trees.
  pub exactly_trees : (due i : ℕ) (xs : List Node) → KindsTo limit xs → exactly due (counts xs) ≡ true → (r : Row i xs) × (length r.row ≡ due)
  unfolding exactly empty_row
  exactly_trees due i [] kinds e = (empty_row i, omega (arith, eqb-true due 0 e))
  exactly_trees zero i (x ∷ xs) kinds e = absurd (let z : ◌≡◌ {A = ℕ} 0 1 = cc in omega arith)
  exactly_trees (suc due) i (x ∷ xs) kinds e =
      let rest : (r : Row (suc i) xs) × (length r.row ≡ due + arity_in arities x) =
      exactly_trees (due + arity_in arities x) (suc i) xs (λ j h. kinds (suc j) (omega arith)) e in
      let next : (s : Row i (x ∷ xs)) × (length s.row + arity_in arities x ≡ suc (length rest.0.row)) =
      next_row i x xs rest.0 (kinds 0 (omega arith)) (omega arith) in
      (next.0, omega arith)

  -- ---- the trees of a table of whole formulas
  module _ (t : List Node) (kinds : KindsTo limit t) (due : ℕ) (whole : whole_formulas due (counts t) ≡ true) where
    -- the tree of node i
    abbrev tree_at : ℕ → A
    tree_at i = top_or d (trees place i (drop i t))

    -- the rest of the table has kinds in range
    rest_kinds : (i : ℕ) → KindsTo limit (drop i t)
    rest_kinds i j h =
        let inside : i + j < length t = omega (arith, h, length-drop i t) in
        rw (get_or-drop i t j) (kinds (i + j) inside)

    -- the row after a node has the operands
    pub row_after : (i : ℕ) → i < length t → (r : Row (i + 1) (drop (i + 1) t)) × (arity_in arities (node_at t i) ≤ length r.row)
    row_after i h =
        let inside : i < length (counts t) = rw (length-map t (arity_in arities)) h in
        let left : (m : ℕ) × (whole_formulas (get_or (counts t) i 0 + m) (drop (i + 1) (counts t)) ≡ true) = operands_due due (counts t) whole i inside in
        let same : whole_formulas (arity_in arities (node_at t i) + left.0) (counts (drop (i + 1) t)) ≡ true = rw (arity_at arities t i h, drop_map) at left.1 in
        let rows : (r : Row (i + 1) (drop (i + 1) t)) × (arity_in arities (node_at t i) + left.0 ≤ length r.row) =
        whole_trees (arity_in arities (node_at t i) + left.0) (i + 1) (drop (i + 1) t) (rest_kinds (i + 1)) same in
        (rows.0, omega arith)

    -- The tree of a node is made of the trees of its operands.
    pub node_tree : (i : ℕ) → i < length t
        → tree_at i ≡ made (p.operator i (node_at t i)) (tree_at (i + 1)) (tree_at (end_of (counts t) (i + 1)))
    node_tree i h =
        let r : Row (i + 1) (drop (i + 1) t) = (row_after i h).0 in
        let second : trees place (end_of (counts t) (i + 1)) (drop (end_of (counts t) (i + 1)) t) ≡ some (drop 1 r.row) =
        rw (drop-drop, ← drop_map (arity_in arities) t (i + 1)) at (r.after 1) in
        let rest : trees place (suc i) (drop (suc i) t) ≡ some r.row = rw (add-one i) at r.is in
        let whole_node : drop i t ≡ node_at t i ∷ drop (suc i) t = drop-cons t i (record { kind = 0; arg = 0 }) h in
        ap (top_or d) (ap (trees place i) whole_node ∙ placed i (node_at t i) (drop (suc i) t) r.row (kinds i h) rest (row_after i h).1)
        ∙ ap₂ (made (p.operator i (node_at t i))) (sym (ap (top_or d) r.is)) (sym (ap (top_or d) second))
