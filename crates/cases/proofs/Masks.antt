-- Laws of the masks of action formulas, and of reading an action table from its end.
use mathlib.Core.Path.{◌≡◌, refl, sym, ap, ◌∙◌}
use mathlib.Core.Bool.{Bool, false, cond, ◌&&◌}
use mathlib.Core.List.{List, [], ◌∷◌, map}
use mathlib.Core.Option.{some}
use mathlib.Core.Logic.{by_cases}
use native.Mathlib.Decide.{ℕ_discrete}
use Prim.Native.Nat.{ℕ, suc, ◌+◌, ◌-◌, ◌^◌, ◌<◌, ◌≤◌}
use native.Mathlib.Numerals.{add-one}
use native.Mathlib.Omega.{arith}
use borrow.Author.Tests.{eq-eqb, not-false}
use lib.Bits.{bit_and, bit_or}
use lib.Dec.{T, eqb, ltb, leb, ltb→lt}
use lib.ListN.{length, get_or, set, drop, length-set, length-drop, length-map, drop_of_length-le, get_or-map}
use lib.Seq.{drop-cons, drop-drop, drop-length, get_or-drop, get_or-set_same, get_or-set_other, drop-set-lt}
use Rattle.sets.specs.Lists.{numbers_from, every}
use Rattle.sets.specs.Words.{number_of_bits}
use Rattle.sets.proofs.Lists.{drop_map, length_range, length_table, table_at, and_left, and_right, all_at}
use Rattle.sets.proofs.Masks.{bitwise_and, bitwise_or, number_false, number_true, number_bitwise, number_not}
use Rattle.cases.specs.Action.{Action, accepts}
use Rattle.cases.specs.Prefix.{Node, arity_in, action_arities, whole_formulas, trees, place_action, action_at}
use Rattle.cases.specs.File.{node_in, header_of, action_table, label_limit, action_limit}
use Rattle.cases.specs.Conditions.{node_at, action_ok, bad_actions}
use Rattle.cases.specs.internal.Checks.{nodes_in}
use Rattle.cases.specs.internal.Masks.{mask_of, action_of, WholeActions}
use Rattle.cases.specs.internal.Tables.{made, action_operator}
use Rattle.cases.proofs.LabelLaws.{number_has}
use Rattle.cases.proofs.Trees.{first, placed, row_after}
use Rattle.cases.proofs.TableTrees.{held, action_table_lem, each_action_kind, placing_actions}

-- ---- the mask of a formula by those of its operands

abbrev labels : List ℕ
labels = numbers_from 0 label_limit

pub mask_false : 0 ≡ mask_of Action.False
unfolding accepts
mask_false = sym (number_false labels)

pub mask_true : 2 ^ 64 - 1 ≡ mask_of Action.True
unfolding accepts
mask_true = sym (rw (length_range 0 label_limit) at (number_true labels))

-- a label node has as its mask the number of its set
pub mask_label : (v : List Bool) → length v ≤ label_limit → number_of_bits v ≡ mask_of (Action.Label v)
unfolding accepts
mask_label v h = sym (number_has v label_limit h)

pub mask_not : (a : Action) → (2 ^ 64 - 1) - mask_of a ≡ mask_of (Action.Not a)
unfolding accepts
mask_not a = rw (length_range 0 label_limit) at (number_not (accepts a) labels)

pub mask_and : (a b : Action) → bit_and (mask_of a) (mask_of b) ≡ mask_of (Action.And a b)
unfolding accepts
mask_and a b = number_bitwise bitwise_and (accepts a) (accepts b) labels

pub mask_or : (a b : Action) → bit_or (mask_of a) (mask_of b) ≡ mask_of (Action.Or a b)
unfolding accepts
mask_or a b = number_bitwise bitwise_or (accepts a) (accepts b) labels

pub mask_implies : (a b : Action) → bit_or ((2 ^ 64 - 1) - mask_of a) (mask_of b) ≡ mask_of (Action.Implies a b)
unfolding accepts
mask_implies a b = rw (mask_not a) (number_bitwise bitwise_or (accepts (Action.Not a)) (accepts b) labels)

-- ---- a node on top of the formulas after it

-- how many operands a node takes
abbrev taken : Node → ℕ
taken x = arity_in action_arities x

-- the formula of a node on top of others
abbrev formula_of : (ℕ → List Bool) → Node → List Action → Action
formula_of alike x st = action_of alike x.kind x.arg (get_or st 0 Action.False) (get_or st 1 Action.False)

-- the first and the second of some formulas
top_first : (st : List Action) → first Action.False st ≡ get_or st 0 Action.False
top_first [] = refl
top_first (a ∷ st) = refl

top_second : (st : List Action) → first Action.False (drop 1 st) ≡ get_or st 1 Action.False
top_second [] = refl
top_second (a ∷ st) = top_first st

-- the formula that a node's operator makes
operator_makes : (alike : ℕ → List Bool) (arg : ℕ) (a b : Action) (kind : ℕ) → kind ≤ 6
    → made (action_operator alike arg kind) a b ≡ action_of alike kind arg a b
unfolding action_of
operator_makes alike arg a b = each_action_kind (λ k. made (action_operator alike arg k) a b ≡ action_of alike k arg a b) refl refl refl refl refl refl refl

-- ---- the masks of the formulas read so far

-- From place `at` on stand the masks of the formulas that start at node i or after it.
pub record Masked (alike : ℕ → List Bool) (table : List Node) (ws : List ℕ) (at i : ℕ) : Type 0 where
  pub long : length ws ≡ action_limit
  pub room : (i ≤ at) × (at ≤ action_limit) × (i ≤ length table)
  pub formulas : List Action
  pub read : trees (place_action alike) i (drop i table) ≡ some formulas
  pub held : drop at ws ≡ map mask_of formulas

-- before the first turn
pub masked_none : (alike : ℕ → List Bool) (table : List Node) (ws : List ℕ) (i : ℕ) → length ws ≡ action_limit → length table ≡ i → i ≤ action_limit → Masked alike table ws action_limit i
unfolding trees
masked_none alike table ws i l e h = record {
  long = l;
  room = (h, omega arith, omega arith);
  formulas = [];
  read = rw (← e, drop-length table);
  held = drop_of_length-le ws {i = action_limit} (omega arith);
}

-- mask k is that of formula k, and 0 where there is none
mask_held : (ws : List ℕ) (at : ℕ) (st : List Action) (k : ℕ) → drop at ws ≡ map mask_of st → get_or ws (at + k) 0 ≡ mask_of (get_or st k Action.False)
mask_held ws at st k e =
    sym (get_or-drop at ws k 0) ∙ ap (λ (l : List ℕ). get_or l k 0) e ∙ ap (λ (d : ℕ). get_or (map mask_of st) k d) mask_false ∙ get_or-map mask_of st k Action.False

module _ (alike : ℕ → List Bool) {l : ℕ} (table : List Node) (good : WholeActions l table) (ws : List ℕ) (at i : ℕ) (below : i < length table) (m : Masked alike table ws at (suc i)) where
  -- as many formulas are there as node i takes
  there : taken (node_at table i) ≤ length m.formulas
  there =
      let rows = row_after Action.False (place_action alike) action_arities 6 (placing_actions alike) table good.known 0 good.whole i below in
      let same : trees (place_action alike) (suc i) (drop (suc i) table) ≡ some rows.0.row = rw (add-one i) at rows.0.is in
      let e : rows.0.row ≡ m.formulas = cc (same, m.read) in
      rw e at rows.1

  -- node i on top of the formulas after it
  on_top : trees (place_action alike) i (drop i table) ≡ some (formula_of alike (node_at table i) m.formulas ∷ drop (taken (node_at table i)) m.formulas)
  unfolding placing_actions
  on_top =
      let known = good.known i below in
      ap (trees (place_action alike) i) (drop-cons table i (record { kind = 0; arg = 0 }) below)
      ∙ placed Action.False (place_action alike) action_arities 6 (placing_actions alike) i (node_at table i) (drop (suc i) table) m.formulas known m.read there
      ∙ rw (top_first m.formulas, top_second m.formulas, operator_makes alike (node_at table i).arg (get_or m.formulas 0 Action.False) (get_or m.formulas 1 Action.False) (node_at table i).kind known)

  -- so there is a place for the mask of node i
  room_for : (1 ≤ at + taken (node_at table i)) × (at + taken (node_at table i) ≤ action_limit)
  room_for = omega (arith, there, ap length m.held, length-map m.formulas mask_of, length-drop at ws, m.long, m.room)

  -- the mask of node i takes the place of its operands' masks
  masked_more : (n v : ℕ) → suc n ≡ at + taken (node_at table i)
      → v ≡ mask_of (formula_of alike (node_at table i) m.formulas) → Masked alike table (set ws n v) n i
  masked_more n v e q = record {
    long = length-set ws n v ∙ m.long;
    room = omega (arith, room_for, m.room);
    formulas = formula_of alike (node_at table i) m.formulas ∷ drop (taken (node_at table i)) m.formulas;
    read = on_top;
    held = stored;
  }
    where
      inside : n < length (set ws n v)
      inside = rw (length-set ws n v) (omega (arith, room_for, m.long))

      stored : drop n (set ws n v) ≡ mask_of (formula_of alike (node_at table i) m.formulas) ∷ map mask_of (drop (taken (node_at table i)) m.formulas)
      stored =
          drop-cons (set ws n v) n 0 inside
          ∙ rw (
            get_or-set_same ws n v 0 (omega (arith, room_for, m.long)),
            drop-set-lt (suc n) ws n v (omega arith),
            e,
            ← drop-drop (taken (node_at table i)) at ws,
            m.held,
            drop_map mask_of m.formulas (taken (node_at table i)),
            q,
          )

-- ---- the turn of the code, which reads the table's nodes out of a part of the file

module _ (alike : ℕ → List Bool) {l : ℕ} (part : List ℕ) (a : ℕ) (good : WholeActions l (nodes_in part a)) where
  -- node i, as it is read
  node_read : (i : ℕ) (x : Node) → i < a → x ≡ node_in part i → node_at (nodes_in part a) i ≡ x
  unfolding nodes_in
  node_read i x h e = table_at (node_in part) a i (record { kind = 0; arg = 0 }) h ∙ sym e

  -- its kind is known, and its label is small
  pub node_known : (i : ℕ) (x : Node) → i < a → x ≡ node_in part i → (x.kind ≤ 6) × (x.kind ≡ 2 → x.arg < l)
  unfolding nodes_in
  node_known i x h e =
      let inside : i < length (nodes_in part a) = rw (length_table (node_in part) a) h in
      let r = node_read i x h e in
      (rw r at (good.known i inside), rw r at (good.small i inside))

  module _ (ws : List ℕ) (at i : ℕ) (above : 0 < i) (within : i ≤ a) (m : Masked alike (nodes_in part a) ws at i) (x : Node) (e : x ≡ node_in part (i - 1)) where
    -- the node before node i
    inside : i - 1 < length (nodes_in part a)
    unfolding nodes_in
    inside = rw (length_table (node_in part) a) (omega arith)

    next : Masked alike (nodes_in part a) ws at (suc (i - 1))
    next =
        let z : suc (i - 1) ≡ i = omega arith in
        rw z m

    -- there is a place for its mask
    pub turn_fits : (1 ≤ at + get_or action_arities x.kind 0) × (at + get_or action_arities x.kind 0 ≤ action_limit)
    turn_fits = rw (node_read (i - 1) x (omega arith) e) at (room_for alike (nodes_in part a) good ws at (i - 1) inside next)

    -- its mask is stored
    pub turn_masked : (k v : ℕ) → k ≡ get_or action_arities x.kind 0
        → ((p q : Action) → get_or ws at 0 ≡ mask_of p → get_or ws (at + 1) 0 ≡ mask_of q → v ≡ mask_of (action_of alike x.kind x.arg p q))
        → Masked alike (nodes_in part a) (set ws (at + k - 1) v) (at + k - 1) (i - 1)
    turn_masked k v q f =
        let r = node_read (i - 1) x (omega arith) e in
        let z : at + 0 ≡ at = omega arith in
        let st = next.formulas in
        masked_more alike (nodes_in part a) good ws at (i - 1) inside next (at + k - 1) v
        (rw r (omega (arith, turn_fits, q)))
        (rw r (f (get_or st 0 Action.False) (get_or st 1 Action.False) (rw z at (mask_held ws at st 0 next.held)) (mask_held ws at st 1 next.held)))

-- after the last turn, the first mask is that of the formula at node j
pub masked_first : (alike : ℕ → List Bool) (table : List Node) (ws : List ℕ) (at j : ℕ) → Masked alike table ws at j → get_or ws at 0 ≡ mask_of (action_at alike table j)
unfolding action_at
masked_first alike table ws at j m =
    let z : at + 0 ≡ at = omega arith in
    rw z at (mask_held ws at m.formulas 0 m.held) ∙ ap mask_of (rw m.read (sym (top_first m.formulas)))

-- so the mask that was stored is that of the formula at node j
pub stored_first : (alike : ℕ → List Bool) (table : List Node) (ws : List ℕ) (n v j : ℕ) → n < length ws → Masked alike table (set ws n v) n j
    → v ≡ mask_of (action_at alike table j)
stored_first alike table ws n v j h m = sym (get_or-set_same ws n v 0 h) ∙ masked_first alike table (set ws n v) n j m

-- ---- the masks of all nodes, by node

-- The masks of the action formulas from i on have their places.
pub record Kept (action : ℕ → Action) (a i : ℕ) (all : List ℕ) : Type 0 where
  pub long : length all ≡ action_limit
  pub at : (k : ℕ) → i ≤ k → k < a → get_or all k 0 ≡ mask_of (action k)

pub kept_none : (action : ℕ → Action) (a : ℕ) (all : List ℕ) → length all ≡ action_limit → Kept action a a all
kept_none action a all l = record { long = l; at = λ k low high. absurd (omega arith) }

pub kept_more : (action : ℕ → Action) (a i v : ℕ) (all : List ℕ) → i < action_limit → v ≡ mask_of (action i) → Kept action a (suc i) all → Kept action a i (set all i v)
kept_more action a i v all h e m = record {
  long = length-set all i v ∙ m.long;
  at = λ k low high. by_cases (ℕ_discrete k i)
      (λ same. rw same (get_or-set_same all i v 0 (omega (arith, m.long)) ∙ e))
      (λ other. get_or-set_other all i k v 0 other ∙ m.at k (omega arith) high);
}

-- ---- condition 7

-- a label node that passes has a label
label_small : (l : ℕ) (x : Node) → T (action_ok l x) → x.kind ≡ 2 → x.arg < l
label_small l x t e = ltb→lt x.arg l (rw (eq-eqb x.kind 2 e) at (and_right (leb x.kind 6) (cond (eqb x.kind 2) (ltb x.arg l) (eqb x.arg 0)) t))

-- an action table that passes can be read
pub whole_actions : (b : List ℕ) → bad_actions b ≡ false → WholeActions (header_of b).labels (action_table b)
unfolding bad_actions
whole_actions b e =
    let t : List Node = action_table b in
    let oks : Bool = every (action_ok (header_of b).labels) t in
    let fits : Bool = whole_formulas 0 (map (arity_in action_arities) t) in
    let each : T oks = and_left oks fits (held (oks && fits) (not-false (oks && fits) e)) in
    record {
      known = (action_table_lem b e).kinds;
      small = λ i g k. label_small (header_of b).labels (node_at t i) (all_at (action_ok (header_of b).labels) t i (record { kind = 0; arg = 0 }) g each) k;
      whole = (action_table_lem b e).whole;
    }
