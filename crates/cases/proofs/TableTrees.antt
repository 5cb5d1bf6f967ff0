-- The formula at each node of a formula table, and the action formula at each node of an action table.
use mathlib.Core.Path.{◌≡◌, refl}
use mathlib.Core.Bool.{Bool, true, false, ◌&&◌}
use mathlib.Core.List.{List, [], ◌∷◌, map}
use Prim.Native.Nat.{ℕ, zero, suc, ◌+◌, ◌≤◌, ◌<◌}
use native.Mathlib.Omega.{arith}
use borrow.Author.Tests.{leb-true, not-false}
use lib.Dec.{T, leb}
use lib.ListN.{length, get_or}
use Rattle.sets.specs.Lists.{every}
use Rattle.sets.proofs.Lists.{and_left, and_right, all_at}
use Rattle.cases.specs.Action.{Action}
use Rattle.cases.specs.Formula.{Formula}
use Rattle.cases.specs.Prefix.{Node, arity_in, action_arities, formula_arities, whole_formulas, exactly, end_of, place_action, place_formula, action_at, formula_at}
use Rattle.cases.specs.Conditions.{node_at, node_ok, action_ok, bad_actions, bad_formula}
use Rattle.cases.specs.File.{header_of, action_table}
use Rattle.cases.specs.internal.Tables.{made, action_operator, formula_operator, ActionTable, FormulaTable}
use Rattle.cases.proofs.Spans.{exactly_whole}
use Rattle.cases.proofs.Trees.{operands, replace, Placing, node_tree}

-- a test that holds is true
pub holds : (b : Bool) → T b → b ≡ true
holds true h = refl
holds false h = absurd h

-- a test that is true holds
pub held : (b : Bool) → b ≡ true → T b
held b e = rw e tt

-- the kinds of formula nodes, one by one
pub each_kind : (P : ℕ → Type 0) → P 0 → P 1 → P 2 → P 3 → P 4 → P 5 → P 6 → P 7 → P 8 → (k : ℕ) → k ≤ 8 → P k
each_kind P p0 p1 p2 p3 p4 p5 p6 p7 p8 zero h = p0
each_kind P p0 p1 p2 p3 p4 p5 p6 p7 p8 (suc zero) h = p1
each_kind P p0 p1 p2 p3 p4 p5 p6 p7 p8 (suc (suc zero)) h = p2
each_kind P p0 p1 p2 p3 p4 p5 p6 p7 p8 (suc (suc (suc zero))) h = p3
each_kind P p0 p1 p2 p3 p4 p5 p6 p7 p8 (suc (suc (suc (suc zero)))) h = p4
each_kind P p0 p1 p2 p3 p4 p5 p6 p7 p8 (suc (suc (suc (suc (suc zero))))) h = p5
each_kind P p0 p1 p2 p3 p4 p5 p6 p7 p8 (suc (suc (suc (suc (suc (suc zero)))))) h = p6
each_kind P p0 p1 p2 p3 p4 p5 p6 p7 p8 (suc (suc (suc (suc (suc (suc (suc zero))))))) h = p7
each_kind P p0 p1 p2 p3 p4 p5 p6 p7 p8 (suc (suc (suc (suc (suc (suc (suc (suc zero)))))))) h = p8
each_kind P p0 p1 p2 p3 p4 p5 p6 p7 p8 (suc (suc (suc (suc (suc (suc (suc (suc (suc k))))))))) h = absurd (omega arith)

-- the kinds of action nodes
pub each_action_kind : (P : ℕ → Type 0) → P 0 → P 1 → P 2 → P 3 → P 4 → P 5 → P 6 → (k : ℕ) → k ≤ 6 → P k
each_action_kind P p0 p1 p2 p3 p4 p5 p6 zero h = p0
each_action_kind P p0 p1 p2 p3 p4 p5 p6 (suc zero) h = p1
each_action_kind P p0 p1 p2 p3 p4 p5 p6 (suc (suc zero)) h = p2
each_action_kind P p0 p1 p2 p3 p4 p5 p6 (suc (suc (suc zero))) h = p3
each_action_kind P p0 p1 p2 p3 p4 p5 p6 (suc (suc (suc (suc zero)))) h = p4
each_action_kind P p0 p1 p2 p3 p4 p5 p6 (suc (suc (suc (suc (suc zero))))) h = p5
each_action_kind P p0 p1 p2 p3 p4 p5 p6 (suc (suc (suc (suc (suc (suc zero)))))) h = p6
each_action_kind P p0 p1 p2 p3 p4 p5 p6 (suc (suc (suc (suc (suc (suc (suc k))))))) h = absurd (omega arith)

-- action nodes are placed by their operators
unfoldable pub placing_actions : (alike : ℕ → List Bool) → Placing (place_action alike) action_arities 6
placing_actions alike = record {
  operator = λ i x. action_operator alike x.arg x.kind;
  places = λ i x. each_action_kind (λ k. place_action alike i (record { kind = k; arg = x.arg }) ≡ replace (action_operator alike x.arg k))
      refl refl refl refl refl refl refl x.kind;
  takes = λ i x. each_action_kind (λ k. operands (action_operator alike x.arg k) ≡ get_or action_arities k 0)
      refl refl refl refl refl refl refl x.kind;
}

-- formula nodes too
pub placing_formulas : (action : ℕ → Action) → Placing (place_formula action) formula_arities 8
placing_formulas action = record {
  operator = λ i x. formula_operator action i x.arg x.kind;
  places = λ i x. each_kind (λ k. place_formula action i (record { kind = k; arg = x.arg }) ≡ replace (formula_operator action i x.arg k))
      refl refl refl refl refl refl refl refl refl x.kind;
  takes = λ i x. each_kind (λ k. operands (formula_operator action i x.arg k) ≡ get_or formula_arities k 0)
      refl refl refl refl refl refl refl refl refl x.kind;
}

-- The action formula at its node i, by the node's kind k.
pub action_at_lem : (alike : ℕ → List Bool) (t : List Node) → ActionTable t → (i k : ℕ) → i < length t → (node_at t i).kind ≡ k
    → action_at alike t i
    ≡ made (action_operator alike (node_at t i).arg k) (action_at alike t (i + 1)) (action_at alike t (end_of (map (arity_in action_arities) t) (i + 1)))
unfolding action_at placing_actions
action_at_lem alike t table i k h e =
    rw (← e) (node_tree Action.False (place_action alike) action_arities 6 (placing_actions alike) t table.kinds 0 table.whole i h)

-- The formula at its node i, by the node's kind k.
pub formula_at_lem : (action : ℕ → Action) (t : List Node) → FormulaTable t → (i k : ℕ) → i < length t → (node_at t i).kind ≡ k
    → formula_at action t i
    ≡ made (formula_operator action i (node_at t i).arg k) (formula_at action t (i + 1)) (formula_at action t (end_of (map (arity_in formula_arities) t) (i + 1)))
unfolding formula_at placing_formulas
formula_at_lem action t table i k h e =
    rw (← e)
    (node_tree Formula.False (place_formula action) formula_arities 8 (placing_formulas action) t table.kinds
    1 (exactly_whole 1 (map (arity_in formula_arities) t) table.whole) i h)

-- it has a root
pub root : (t : List Node) → FormulaTable t → 0 < length t
unfolding exactly
root [] table = absurd (let z : ◌≡◌ {A = ℕ} 0 1 = cc table.whole in omega arith)
root (x ∷ t) table = omega arith

-- a node that passes condition 8 has a known kind
formula_kind : (a : ℕ) (x : Node) (r : Bool) → leb x.kind 8 ≡ r → T (node_ok a x) → x.kind ≤ 8
formula_kind a x true e h = leb-true x.kind 8 e
formula_kind a x false e h = absurd (rw e at h)

-- and one that passes condition 7
action_kind : (l : ℕ) (x : Node) (r : Bool) → leb x.kind 6 ≡ r → T (action_ok l x) → x.kind ≤ 6
action_kind l x true e h = leb-true x.kind 6 e
action_kind l x false e h = absurd (rw e at h)

-- A table of which condition 8 does not hold is one.
pub formula_table_lem : (a : ℕ) (t : List Node) → bad_formula a t ≡ false → FormulaTable t
unfolding bad_formula
formula_table_lem a t e =
    let oks : Bool = every (node_ok a) t in
    let fits : Bool = exactly 1 (map (arity_in formula_arities) t) in
    let good : T (oks && fits) = held (oks && fits) (not-false (oks && fits) e) in
    record {
      kinds = λ i h. formula_kind a (node_at t i) _ refl (all_at (node_ok a) t i (record { kind = 0; arg = 0 }) h (and_left oks fits good));
      whole = holds fits (and_right oks fits good);
    }

-- A file of which condition 7 does not hold has a table of whole action formulas.
pub action_table_lem : (b : List ℕ) → bad_actions b ≡ false → ActionTable (action_table b)
unfolding bad_actions
action_table_lem b e =
    let oks : Bool = every (action_ok (header_of b).labels) (action_table b) in
    let fits : Bool = whole_formulas 0 (map (arity_in action_arities) (action_table b)) in
    let good : T (oks && fits) = held (oks && fits) (not-false (oks && fits) e) in
    record {
      kinds = λ i h. action_kind (header_of b).labels (node_at (action_table b) i) _ refl
          (all_at (action_ok (header_of b).labels) (action_table b) i (record { kind = 0; arg = 0 }) h (and_left oks fits good));
      whole = holds fits (and_right oks fits good);
    }
