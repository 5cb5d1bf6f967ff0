-- Scopes of variables: in a table of which condition 9 does not hold, each variable lies in its binder's subtree.
use mathlib.Core.Path.{◌≡◌, refl, ◌∙◌}
use mathlib.Core.Bool.{Bool, true, false, cond, not, ◌&&◌, ◌||◌}
use mathlib.Core.Logic.{◌⊎◌, inl, inr}
use mathlib.Core.List.{List, [], ◌∷◌, map}
use Prim.Native.Nat.{ℕ, zero, suc, ◌+◌, ◌≤◌, ◌<◌}
use native.Mathlib.Nat.{zero-add, eq-or-lt_of_le}
use native.Mathlib.Omega.{arith}
use borrow.Author.Tests.{not-false, eq-eqb}
use lib.Dec.{T, eqb, ltb, ltb→lt, eqb_refl}
use lib.ListN.{length, get_or, length-map}
use Rattle.sets.specs.Lists.{numbers_from, every, for_some}
use Rattle.sets.proofs.Lists.{and_left, and_right, and_both, or_left, or_right, all_at, length_range}
use Rattle.cases.specs.Action.{Action}
use Rattle.cases.specs.Formula.{Formula}
use Rattle.cases.specs.Prefix.{Node, arity_in, formula_arities, end_of, formula_at}
use Rattle.cases.specs.Conditions.{node_at, is_binder, bound_ok, bad_variable}
use Rattle.cases.specs.internal.Tables.{made, formula_operator, FormulaTable}
use Rattle.cases.proofs.Spans.{exactly_whole, nested, by_operands}
use Rattle.cases.proofs.Trees.{arity_at}
use Rattle.cases.proofs.TableTrees.{holds, held, each_kind, formula_at_lem, root}

-- whether every variable's number is in a list of the binders around it
unfoldable pub scoped : List ℕ → Formula → Bool
scoped around Formula.False = true
scoped around Formula.True = true
scoped around (Formula.And a b) = scoped around a && scoped around b
scoped around (Formula.Or a b) = scoped around a && scoped around b
scoped around (Formula.Box α a) = scoped around a
scoped around (Formula.Diamond α a) = scoped around a
scoped around (Formula.Variable i) = for_some (eqb i) around
scoped around (Formula.Fix sign i a) = scoped (i ∷ around) a

-- a number of a range
range_at : (i n s d : ℕ) → s < n → get_or (numbers_from i n) s d ≡ i + s
unfolding numbers_from
range_at i zero s d h = absurd (omega arith)
range_at i (suc n) zero d h = omega arith
range_at i (suc n) (suc s) d h = range_at (suc i) n s d (omega arith) ∙ omega arith

-- the variable at node i is bound at the node that is its argument
pub record Bound (t : List Node) (i : ℕ) : Type 0 where
  pub binder : is_binder (node_at t (node_at t i).arg) ≡ true
  pub before : (node_at t i).arg < i
  pub around : i < end_of (map (arity_in formula_arities) t) (node_at t i).arg

-- an or whose left side is false
right_holds : (a b : Bool) → a ≡ true → T (not a || b) → T b
right_holds a b e h = rw e at h

-- Where condition 9 does not hold, each variable is bound.
pub variable_bound : (t : List Node) → bad_variable t ≡ false → (i : ℕ) → i < length t → (node_at t i).kind ≡ 6 → Bound t i
unfolding bad_variable bound_ok
variable_bound t e i h k =
    let j : ℕ = (node_at t i).arg in
    let n : ℕ = length t in
    let binds : Bool = is_binder (node_at t j) in
    let ends : ℕ = end_of (map (arity_in formula_arities) t) j in
    let short : i < length (numbers_from 0 n) = rw (length_range 0 n) h in
    let each : T (bound_ok t (get_or (numbers_from 0 n) i 0)) = all_at (bound_ok t) (numbers_from 0 n) i 0 short (held (every (bound_ok t) (numbers_from 0 n)) (not-false (every (bound_ok t) (numbers_from 0 n)) e)) in
    let at_node : get_or (numbers_from 0 n) i 0 ≡ i = range_at 0 n i 0 h ∙ zero-add i in
    let here : T (bound_ok t i) = rw at_node at each in
    let three : T (binds && ltb j i && ltb i ends) = right_holds (eqb (node_at t i).kind 6) (binds && ltb j i && ltb i ends) (eq-eqb _ _ k) here in
    let two : T (binds && ltb j i) = and_left (binds && ltb j i) (ltb i ends) three in
    record {
      binder = holds binds (and_left binds (ltb j i) two);
      before = ltb→lt j i (and_right binds (ltb j i) two);
      around = ltb→lt i ends (and_right (binds && ltb j i) (ltb i ends) three);
    }

-- the binders around the first operand of node i, of kind k
abbrev inner : ℕ → ℕ → List ℕ → List ℕ
inner k i around = cond (eqb k 7 || eqb k 8) (i ∷ around) around

-- A node's formula is scoped if its variable is bound and its operands' formulas are scoped.
scoped_made : (action : ℕ → Action) (i arg : ℕ) (around : List ℕ) (f g : Formula) (k : ℕ) → k ≤ 8
    → (k ≡ 6 → T (for_some (eqb arg) around))
    → (1 ≤ get_or formula_arities k 0 → T (scoped (inner k i around) f))
    → (get_or formula_arities k 0 ≡ 2 → T (scoped around g))
    → T (scoped around (made (formula_operator action i arg k) f g))
unfolding scoped
scoped_made action i arg around f g =
    each_kind
    (λ k. (k ≡ 6 → T (for_some (eqb arg) around)) → (1 ≤ get_or formula_arities k 0 → T (scoped (inner k i around) f))
    → (get_or formula_arities k 0 ≡ 2 → T (scoped around g)) → T (scoped around (made (formula_operator action i arg k) f g)))
    (λ v p q. tt) (λ v p q. tt)
    (λ v p q. and_both (scoped around f) (scoped around g) (p (omega arith)) (q refl))
    (λ v p q. and_both (scoped around f) (scoped around g) (p (omega arith)) (q refl))
    (λ v p q. p (omega arith)) (λ v p q. p (omega arith))
    (λ v p q. v refl)
    (λ v p q. p (omega arith)) (λ v p q. p (omega arith))

-- a binder has one operand
binder_arity : (k : ℕ) → k ≤ 8 → (eqb k 7 || eqb k 8) ≡ true → get_or formula_arities k 0 ≡ 1
binder_arity = each_kind (λ k. (eqb k 7 || eqb k 8) ≡ true → get_or formula_arities k 0 ≡ 1)
    (λ e. cc) (λ e. cc) (λ e. cc) (λ e. cc) (λ e. refl) (λ e. refl) (λ e. cc) (λ e. refl) (λ e. refl)

-- a binder around stays around
inner_keeps : (b : Bool) (i j : ℕ) (around : List ℕ) → T (for_some (eqb j) around) → T (for_some (eqb j) (cond b (i ∷ around) around))
unfolding for_some
inner_keeps true i j around h = or_right (eqb j i) (for_some (eqb j) around) h
inner_keeps false i j around h = h

-- a binder is around its operand
inner_adds : (b : Bool) (i : ℕ) (around : List ℕ) → b ≡ true → T (for_some (eqb i) (cond b (i ∷ around) around))
unfolding for_some
inner_adds true i around e = or_left (eqb i i) (for_some (eqb i) around) (eqb_refl i)
inner_adds false i around e = absurd (let z : ◌≡◌ {A = ℕ} 0 1 = cc in omega arith)

module _ (action : ℕ → Action) (t : List Node) (table : FormulaTable t) (bound : bad_variable t ≡ false) where
  abbrev ks : List ℕ
  ks = map (arity_in formula_arities) t

  -- a list has every binder whose subtree has node i as an inner node
  abbrev Around : List ℕ → ℕ → Type 0
  Around around i = (j : ℕ) → j < i → is_binder (node_at t j) ≡ true → i < end_of ks j → T (for_some (eqb j) around)

  -- for the first operand
  around_first : (i : ℕ) (around : List ℕ) → Around around i → Around (inner (node_at t i).kind i around) (i + 1)
  around_first i around h j l b e = by_order (eq-or-lt_of_le {n = j} {m = i} (omega arith))
    where
      by_order : (j ≡ i) ⊎ (j < i) → T (for_some (eqb j) (inner (node_at t i).kind i around))
      by_order (inl same) = rw same (inner_adds (is_binder (node_at t i)) i around (rw same at b))
      by_order (inr less) = inner_keeps (is_binder (node_at t i)) i j around (h j less b (omega arith))

  -- for the second: no binder in the first operand's subtree has it
  around_second : (i : ℕ) (around : List ℕ) → i < length t → get_or ks i 0 ≡ 2 → Around around i → Around around (end_of ks (i + 1))
  around_second i around inside two h j l b e =
      let not_after : ¬ (i < j) = λ g. omega (arith, nested ks (i + 1) j (omega arith) l) in
      by_order (eq-or-lt_of_le {n = j} {m = i} (omega arith))
    where
      by_order : (j ≡ i) ⊎ (j < i) → T (for_some (eqb j) around)
      by_order (inl same) =
          let one : get_or formula_arities (node_at t i).kind 0 ≡ 1 = binder_arity (node_at t i).kind (table.kinds i inside) (rw same at b) in
          absurd (omega (arith, arity_at formula_arities t i inside))
      by_order (inr less) = h j less b (omega arith)

  -- the formula at node i is scoped where the binders around it are given
  abbrev Scoped : ℕ → Type 0
  Scoped i = (around : List ℕ) → Around around i → T (scoped around (formula_at action t i))

  scoped_node : (i : ℕ) → i < length ks → (1 ≤ get_or ks i 0 → Scoped (i + 1)) → (get_or ks i 0 ≡ 2 → Scoped (end_of ks (i + 1))) → Scoped i
  scoped_node i h p q around a =
      let inside : i < length t = rw (length-map t (arity_in formula_arities)) at h in
      let x : Node = node_at t i in
      let arity : get_or ks i 0 ≡ get_or formula_arities x.kind 0 = arity_at formula_arities t i inside in
      rw (formula_at_lem action t table i x.kind inside refl)
      (scoped_made action i x.arg around _ _ x.kind (table.kinds i inside)
      (λ k. let b : Bound t i = variable_bound t bound i inside k in a x.arg b.before b.binder b.around)
      (λ n. p (rw arity n) (inner x.kind i around) (around_first i around a))
      (λ n. q (arity ∙ n) around (around_second i around inside (arity ∙ n) a)))

  -- Every variable of the formula is in a binder's scope.
  pub formula_scoped : scoped [] (formula_at action t 0) ≡ true
  formula_scoped =
      let start : 0 < length ks = rw (length-map t (arity_in formula_arities)) (root t table) in
      holds _ (by_operands 1 ks (exactly_whole 1 ks table.whole) Scoped scoped_node 0 start [] (λ j l b e. absurd (omega arith)))
