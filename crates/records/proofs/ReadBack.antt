-- An accepted case with another transition table, read back: the same header but for the count and the offsets behind it, the same label records,
-- action nodes and formula, the transitions that were put in; and it is accepted.
use mathlib.Core.Path.{◌≡◌, refl, sym, ap, ◌∙◌}
use mathlib.Core.Bool.{Bool, true, false, cond, not, ◌&&◌}
use mathlib.Core.List.{List, ◌++◌, map}
use Prim.Native.Nat.{ℕ, zero, suc, ◌+◌, ◌*◌, ◌/◌, ◌%◌, ◌≤◌, ◌<◌}
use native.Mathlib.Omega.{arith}
use borrow.Author.Tests.{le-ltb, lt-ltb, le-leb, eq-eqb}
use lib.Dec.{T, eqb, ltb}
use lib.ListN.{length, get_or, take, drop, set, length-set, get_or-append}
use lib.Seq.{take_at, drop_at, drop-drop, get_or-set_same, get_or-set_other, set-set, set_comm, ext_get_or}
use Rattle.sets.specs.Lists.{numbers_from, every, for_some}
use Rattle.sets.specs.Words.{state_limit}
use Rattle.sets.proofs.Lists.{length_table, table_at}
use Rattle.sets.proofs.Refusals.{holds_later, none_here, none_holds}
use Rattle.cases.specs.declared.Header.{Header}
use Rattle.cases.specs.declared.Label.{Label}
use Rattle.cases.specs.declared.Node.{Node}
use Rattle.cases.specs.declared.Transition.{Transition}
use Rattle.cases.specs.File.{u16, version, has_label_table, header_size, header_of, label_records, labels_start, transitions_start, actions_start, formula_start, file_end, label_in, transition_in, node_in, label_table, transition_table, action_table, formula_table, case_within, label_limit, transition_limit, action_limit, node_limit}
use Rattle.cases.specs.Case.{Case, case_of}
use Rattle.cases.specs.Labels.{alike, alike_labels}
use Rattle.cases.specs.Prefix.{arity_in, action_arities, whole_formulas, formula_at, action_at}
use Rattle.cases.specs.Conditions.{too_small, other_version, versions, bad_count, bad_offset, bad_length, bad_model, bad_labels, bad_actions, bad_formula, bad_variable, too_deep, transition_ok, label_ok, action_ok, layout_conditions, model_conditions, formula_conditions, case_conditions, case_refusal, Accepted}
use Rattle.cases.specs.internal.Checks.{common_header, longest_header, CountsFit, Laid, transitions_in}
use Rattle.cases.proofs.Accepting.{Passed, passed}
use Rattle.cases.proofs.LayoutRules.{header_least}
use Rattle.cases.proofs.TableTrees.{holds}
use Rattle.cases.proofs.Tallies.{model_holds}
use Rattle.records.specs.Replaced.{table_bytes, with_number, head_for, with_transitions, case_with}
use Rattle.records.specs.internal.Writing.{recounted}
use Rattle.records.proofs.Heads.{start_few}
use Rattle.records.proofs.Tables.{length_table_bytes, table_back, back}
use Rattle.records.proofs.Files.{length_head, length_number, number_take, number_drop, head_long, head_least, with_is, with_long}

-- ---- numbers of a head

-- a byte elsewhere than a number that is put
byte_else : (b : List ℕ) (at x q : ℕ) → ¬ (q ≡ at) → ¬ (q ≡ at + 1) → get_or (with_number b at x) q 0 ≡ get_or b q 0
unfolding with_number
byte_else b at x q d e = get_or-set_other (set b at (x % 256)) (at + 1) q (x / 256 % 256) 0 e ∙ get_or-set_other b at q (x % 256) 0 d

-- a number that stands before it or behind it
number_before : (b : List ℕ) (at x p : ℕ) → p + 2 ≤ at → u16 (with_number b at x) p ≡ u16 b p
unfolding u16
number_before b at x p h = rw (byte_else b at x p (λ e. omega arith) (λ e. omega arith), byte_else b at x (p + 1) (λ e. omega arith) (λ e. omega arith))

number_behind : (b : List ℕ) (at x p : ℕ) → at + 2 ≤ p → u16 (with_number b at x) p ≡ u16 b p
unfolding u16
number_behind b at x p h = rw (byte_else b at x p (λ e. omega arith) (λ e. omega arith), byte_else b at x (p + 1) (λ e. omega arith) (λ e. omega arith))

-- the number itself
number_put : (b : List ℕ) (at x : ℕ) → at + 2 ≤ length b → x < 65536 → u16 (with_number b at x) at ≡ x
unfolding u16 with_number
number_put b at x h small =
    let low : get_or (set (set b at (x % 256)) (at + 1) (x / 256 % 256)) at 0 ≡ x % 256 =
    get_or-set_other (set b at (x % 256)) (at + 1) at (x / 256 % 256) 0 (λ e. omega arith) ∙ get_or-set_same b at (x % 256) 0 (omega arith) in
    let high : get_or (set (set b at (x % 256)) (at + 1) (x / 256 % 256)) (at + 1) 0 ≡ x / 256 % 256 = get_or-set_same (set b at (x % 256)) (at + 1) (x / 256 % 256) 0 (simp length-set (omega arith)) in
    rw (low, high) (back x small)

module _ (h : Header) (k : ℕ) (head : List ℕ) where
  abbrev actions : ℕ
  actions = transitions_start h + 6 * k

  -- the numbers before the count, between the count and the offsets, and behind the offsets
  kept_front : (p : ℕ) → p + 2 ≤ 4 → u16 (head_for h k head) p ≡ u16 head p
  unfolding head_for
  kept_front p g = number_before _ 18 _ p (omega arith) ∙ number_before _ 16 _ p (omega arith) ∙ number_before head 4 k p g

  kept_middle : (p : ℕ) → 6 ≤ p → p + 2 ≤ 16 → u16 (head_for h k head) p ≡ u16 head p
  unfolding head_for
  kept_middle p f g = number_before _ 18 _ p (omega arith) ∙ number_before _ 16 _ p g ∙ number_behind head 4 k p f

  kept_behind : (p : ℕ) → common_header ≤ p → u16 (head_for h k head) p ≡ u16 head p
  unfolding head_for
  kept_behind p g = number_behind _ 18 _ p g ∙ number_behind _ 16 _ p (omega arith) ∙ number_behind head 4 k p (omega arith)

  -- the numbers that are put
  module _ (long : common_header ≤ length head) where
    put_count : k < 65536 → u16 (head_for h k head) 4 ≡ k
    unfolding head_for
    put_count g = number_before _ 18 _ 4 (omega arith) ∙ number_before _ 16 _ 4 (omega arith) ∙ number_put head 4 k (omega arith) g

    put_actions : actions < 65536 → u16 (head_for h k head) 16 ≡ actions
    unfolding head_for
    put_actions g = number_before _ 18 _ 16 (omega arith) ∙ number_put (with_number head 4 k) 16 actions (simp length_number (omega arith)) g

    put_formula : actions + 4 * h.actions < 65536 → u16 (head_for h k head) 18 ≡ actions + 4 * h.actions
    unfolding head_for
    put_formula g = number_put (with_number (with_number head 4 k) 16 actions) 18 (actions + 4 * h.actions) (simp length_number (omega arith)) g

-- Numbers at two places may be put in either order, and of two at one place the second stays.
number_swap : (b : List ℕ) (p x q y : ℕ) → p + 2 ≤ q → with_number (with_number b q y) p x ≡ with_number (with_number b p x) q y
unfolding with_number
number_swap b p x q y h =
    let lx : ℕ = x % 256 in
    let hx : ℕ = x / 256 % 256 in
    let ly : ℕ = y % 256 in
    let hy : ℕ = y / 256 % 256 in
    ap (λ (v : List ℕ). set v (p + 1) hx) (set_comm (set b q ly) (q + 1) p hy lx (λ e. omega arith) ∙ ap (λ (v : List ℕ). set v (q + 1) hy) (set_comm b q p ly lx (λ e. omega arith)))
    ∙ set_comm (set (set b p lx) q ly) (q + 1) (p + 1) hy hx (λ e. omega arith)
    ∙ ap (λ (v : List ℕ). set v (q + 1) hy) (set_comm (set b p lx) q (p + 1) ly hx (λ e. omega arith))

number_twice : (b : List ℕ) (at x y : ℕ) → with_number (with_number b at x) at y ≡ with_number b at y
unfolding with_number
number_twice b at x y =
    let lx : ℕ = x % 256 in
    let hx : ℕ = x / 256 % 256 in
    let ly : ℕ = y % 256 in
    let hy : ℕ = y / 256 % 256 in
    ap (λ (v : List ℕ). set v (at + 1) hy) (set_comm (set b at lx) (at + 1) at hx ly (λ e. omega arith) ∙ ap (λ (v : List ℕ). set v (at + 1) hx) (set-set b at lx ly))
    ∙ set-set (set b at ly) (at + 1) hx hy

-- a head for k transitions, and then for others
head_again : (h : Header) (k j : ℕ) (head : List ℕ) → head_for (recounted h k) j (head_for h k head) ≡ head_for h j head
unfolding head_for label_records
head_again h k j head =
    let a : ℕ = transitions_start h + 6 * k in
    let f : ℕ = a + 4 * h.actions in
    let a' : ℕ = transitions_start h + 6 * j in
    let f' : ℕ = a' + 4 * h.actions in
    let one : with_number (with_number (with_number (with_number head 4 k) 16 a) 18 f) 4 j ≡ with_number (with_number (with_number head 4 j) 16 a) 18 f =
    number_swap (with_number (with_number head 4 k) 16 a) 4 j 18 f (omega arith)
    ∙ ap (λ (v : List ℕ). with_number v 18 f) (number_swap (with_number head 4 k) 4 j 16 a (omega arith) ∙ ap (λ (v : List ℕ). with_number v 16 a) (number_twice head 4 k j)) in
    let two : with_number (with_number (with_number (with_number head 4 j) 16 a) 18 f) 16 a' ≡ with_number (with_number (with_number head 4 j) 16 a') 18 f =
    number_swap (with_number (with_number head 4 j) 16 a) 16 a' 18 f (omega arith) ∙ ap (λ (v : List ℕ). with_number v 18 f) (number_twice (with_number head 4 j) 16 a a') in
    ap (λ (v : List ℕ). with_number (with_number v 16 a') 18 f') one ∙ ap (λ (v : List ℕ). with_number v 18 f') two ∙ number_twice (with_number (with_number head 4 j) 16 a') 18 f f'

-- a number that stands in the first of two lists
number_left : (p q : List ℕ) (at : ℕ) → at + 2 ≤ length p → u16 (p ++ q) at ≡ u16 p at
unfolding u16
number_left p q at h = rw (get_or-append p q 0 at (omega arith), get_or-append p q 0 (at + 1) (omega arith))

-- tables that are made in the same way
table_same : {B : Type 0} (f g : ℕ → B) (m : ℕ) → ((j : ℕ) → j < m → f j ≡ g j) → map f (numbers_from 0 m) ≡ map g (numbers_from 0 m)
unfolding numbers_from
table_same f g zero e = refl
table_same f g (suc m) e =
    let d = f 0 in
    let long = length_table f (suc m) in
    ext_get_or d _ _ (long ∙ sym (length_table g (suc m)))
    (λ j h. let inside : j < suc m = rw long at h in table_at f (suc m) j d inside ∙ e j inside ∙ sym (table_at g (suc m) j d inside))

-- a header from its numbers
abbrev header : ℕ → ℕ → ℕ → ℕ → ℕ → ℕ → ℕ → ℕ → ℕ → ℕ → ℕ → Header
header v n m l i a f at₁ at₂ at₃ at₄ = record {
  version = v;
  states = n;
  transitions = m;
  labels = l;
  initial = i;
  actions = a;
  nodes = f;
  labels_at = at₁;
  transitions_at = at₂;
  actions_at = at₃;
  formula_at = at₄;
}

-- ---- conditions of the layout that do not hold

counts_pass : (x : Header) → CountsFit x → bad_count x ≡ false
unfolding bad_count every
counts_pass x c = rw (
  le-leb 1 x.states c.some_state,
  le-leb x.states state_limit c.few_states,
  le-leb 0 x.transitions (omega arith),
  le-leb x.transitions transition_limit c.few_transitions,
  le-leb 1 x.labels c.some_label,
  le-leb x.labels label_limit c.few_labels,
  le-leb 0 x.actions (omega arith),
  le-leb x.actions action_limit c.few_actions,
  le-leb 1 x.nodes c.some_node,
  le-leb x.nodes node_limit c.few_nodes,
)

offsets_pass : (x : Header) → x.labels_at ≡ labels_start x → x.transitions_at ≡ transitions_start x → x.actions_at ≡ actions_start x → x.formula_at ≡ formula_start x
    → bad_offset x ≡ false
unfolding bad_offset
offsets_pass x p q r s = rw (
  eq-eqb x.labels_at (labels_start x) p,
  eq-eqb x.transitions_at (transitions_start x) q,
  eq-eqb x.actions_at (actions_start x) r,
  eq-eqb x.formula_at (formula_start x) s,
)

version_passes : (b : List ℕ) → Accepted b → other_version versions b ≡ false
unfolding case_refusal case_conditions layout_conditions
version_passes b ok = (none_here 2 _ _ (λ e. omega arith) (none_here 1 _ _ (λ e. omega arith) ok).1).0

-- the case of a header and tables
abbrev case_from : Header → List Label → List Transition → List Node → List Node → Case
case_from x labels ts actions formula = record {
  states = x.states;
  labels = x.labels;
  initial = x.initial;
  transitions = ts;
  formula = formula_at (action_at (alike_labels x labels) actions) formula 0;
}

-- ---- the file read back

module _ (b : List ℕ) (ok : Accepted b) (ts : List Transition) (few : length ts ≤ transition_limit)
    (right : T (every (transition_ok (header_of b).states (header_of b).labels) ts)) where
  abbrev h : Header
  h = header_of b

  abbrev w : List ℕ
  w = with_transitions b ts

  abbrev head : List ℕ
  head = take h.transitions_at b

  abbrev rest : List ℕ
  rest = drop h.actions_at b

  good : Passed b
  good = passed b ok

  l : Laid b (header_of b)
  l = good.lies

  -- a number of the header or of the label records
  number_head : (p : ℕ) → p + 2 ≤ h.transitions_at → u16 w p ≡ u16 (head_for h (length ts) head) p
  number_head p g = ap (λ (v : List ℕ). u16 v p) (with_is l ts) ∙ number_left (head_for h (length ts) head) _ p (omega (arith, length_head h (length ts) head, head_long l))

  front : (p : ℕ) → p + 2 ≤ 4 → u16 w p ≡ u16 b p
  front p g = number_head p (omega (arith, head_least l)) ∙ kept_front h (length ts) head p g ∙ number_take h.transitions_at b p (omega (arith, head_least l))

  middle : (p : ℕ) → 6 ≤ p → p + 2 ≤ 16 → u16 w p ≡ u16 b p
  middle p f g = number_head p (omega (arith, head_least l)) ∙ kept_middle h (length ts) head p f g ∙ number_take h.transitions_at b p (omega (arith, head_least l))

  behind : (p : ℕ) → common_header ≤ p → p + 2 ≤ h.transitions_at → u16 w p ≡ u16 b p
  behind p f g = number_head p g ∙ kept_behind h (length ts) head p f ∙ number_take h.transitions_at b p g

  -- where the label records stand
  labels_same : (header_of w).labels_at ≡ h.labels_at
  unfolding header_size
  labels_same = rw (front 0 (omega arith)) (go (has_label_table (version b)) refl)
    where
      go : (t : Bool) → has_label_table (version b) ≡ t → cond t (u16 w 20) (header_size (version b)) ≡ cond t (u16 b 20) (header_size (version b))
      go true e = let long : header_size (version b) ≡ 22 = rw e in behind 20 (omega arith) (omega (arith, l.transitions, long))
      go false e = refl

  pub header_with : header_of w ≡ recounted h (length ts)
  header_with =
      let long : common_header ≤ length head = omega (arith, head_long l, head_least l) in
      let start : h.transitions_at ≤ longest_header + 8 * label_limit = omega (arith, l.transitions, start_few h l.counts) in
      let e0 = front 0 (omega arith) in
      let e2 = front 2 (omega arith) in
      let e4 : u16 w 4 ≡ length ts = number_head 4 (omega (arith, head_least l)) ∙ put_count h (length ts) head long (omega arith) in
      let e6 = middle 6 (omega arith) (omega arith) in
      let e8 = middle 8 (omega arith) (omega arith) in
      let e10 = middle 10 (omega arith) (omega arith) in
      let e12 = middle 12 (omega arith) (omega arith) in
      let e14 = middle 14 (omega arith) (omega arith) in
      let e16 : u16 w 16 ≡ h.transitions_at + 6 * length ts =
      number_head 16 (omega (arith, head_least l)) ∙ put_actions h (length ts) head long (omega (arith, l.transitions)) ∙ ap (λ (r : ℕ). r + 6 * length ts) (sym l.transitions) in
      let e18 : u16 w 18 ≡ h.transitions_at + 6 * length ts + 4 * h.actions =
      number_head 18 (omega (arith, head_least l)) ∙ put_formula h (length ts) head long (omega (arith, l.transitions, l.counts.few_actions)) ∙ ap (λ (r : ℕ). r + 6 * length ts + 4 * h.actions) (sym l.transitions) in
      let e20 : (header_of w).labels_at ≡ h.labels_at = labels_same in
      let same : header (u16 w 0) (u16 w 2) (u16 w 4) (u16 w 6) (u16 w 8) (u16 w 10) (u16 w 12) (header_of w).labels_at (u16 w 14) (u16 w 16) (u16 w 18)
      ≡ header (u16 b 0) (u16 b 2) (length ts) (u16 b 6) (u16 b 8) (u16 b 10) (u16 b 12) h.labels_at (u16 b 14) (h.transitions_at + 6 * length ts) (h.transitions_at + 6 * length ts + 4 * h.actions) = cc in
      same

  -- ---- the tables

  drop_head : drop h.transitions_at w ≡ table_bytes ts ++ rest
  drop_head = ap (drop h.transitions_at) (with_is l ts) ∙ drop_at (head_for h (length ts) head) (table_bytes ts ++ rest) h.transitions_at (length_head h (length ts) head ∙ head_long l)

  drop_table : drop (h.transitions_at + 6 * length ts) w ≡ rest
  drop_table = sym (drop-drop (6 * length ts) h.transitions_at w) ∙ ap (drop (6 * length ts)) drop_head ∙ drop_at (table_bytes ts) rest (6 * length ts) (length_table_bytes ts)

  drop_actions : drop (h.transitions_at + 6 * length ts + 4 * h.actions) w ≡ drop h.formula_at b
  drop_actions =
      let at : h.actions_at + 4 * h.actions ≡ h.formula_at = omega (arith, l.actions, l.formula) in
      sym (drop-drop (4 * h.actions) (h.transitions_at + 6 * length ts) w) ∙ ap (drop (4 * h.actions)) drop_table ∙ drop-drop (4 * h.actions) h.actions_at b ∙ ap (λ (k : ℕ). drop k b) at

  pub transitions_with : transition_table w ≡ ts
  unfolding transition_table transitions_in
  transitions_with =
      ap (λ (x : Header). map (transition_in (drop x.transitions_at w)) (numbers_from 0 x.transitions)) header_with
      ∙ ap (λ (part : List ℕ). transitions_in part (length ts)) drop_head
      ∙ table_back h.states h.labels (omega (arith, l.counts.few_states)) (omega (arith, l.counts.few_labels)) ts rest right

  pub actions_with : action_table w ≡ action_table b
  unfolding action_table
  actions_with =
      ap (λ (x : Header). map (node_in (drop x.actions_at w)) (numbers_from 0 x.actions)) header_with
      ∙ ap (λ (part : List ℕ). map (node_in part) (numbers_from 0 h.actions)) drop_table

  pub formula_with : formula_table w ≡ formula_table b
  unfolding formula_table
  formula_with =
      ap (λ (x : Header). map (node_in (drop x.formula_at w)) (numbers_from 0 x.nodes)) header_with
      ∙ ap (λ (part : List ℕ). map (node_in part) (numbers_from 0 h.nodes)) drop_actions

  label_number : (p : ℕ) → h.labels_at + p + 2 ≤ h.transitions_at → u16 (drop h.labels_at w) p ≡ u16 (drop h.labels_at b) p
  label_number p g =
      number_drop h.labels_at w p ∙ behind (h.labels_at + p) (omega (arith, l.labels, header_least h.version)) g ∙ sym (number_drop h.labels_at b p)

  label_with : (j : ℕ) → j < label_records h → label_in (drop h.labels_at w) j ≡ label_in (drop h.labels_at b) j
  label_with j g =
      let first = label_number (8 * j) (omega (arith, l.labels, l.transitions)) in
      let second = label_number (8 * j + 2) (omega (arith, l.labels, l.transitions)) in
      let third = label_number (8 * j + 4) (omega (arith, l.labels, l.transitions)) in
      let fourth = label_number (8 * j + 6) (omega (arith, l.labels, l.transitions)) in
      cc

  pub labels_with : label_table w ≡ label_table b
  unfolding label_table label_records
  labels_with =
      ap (λ (x : Header). map (label_in (drop x.labels_at w)) (numbers_from 0 (label_records x))) header_with
      ∙ table_same (label_in (drop h.labels_at w)) (label_in (drop h.labels_at b)) (label_records h) label_with

  -- ---- no condition holds of it

  long : length w ≡ file_end (recounted h (length ts))
  unfolding label_records
  long = with_long l ts ∙ omega (arith, l.transitions)

  small : too_small w ≡ false
  unfolding too_small
  small = let size : header_size (version w) ≡ header_size (version b) = ap header_size (front 0 (omega arith)) in
      le-ltb (length w) (header_size (version w)) (omega (arith, with_long l ts, l.transitions, size))

  taken : other_version versions w ≡ false
  unfolding other_version
  taken = ap (λ (v : ℕ). not (for_some (eqb v) versions)) (front 0 (omega arith)) ∙ version_passes b ok

  counts : bad_count (header_of w) ≡ false
  counts = ap bad_count header_with ∙ counts_pass (recounted h (length ts)) (record {
    some_state = l.counts.some_state;
    few_states = l.counts.few_states;
    few_transitions = few;
    some_label = l.counts.some_label;
    few_labels = l.counts.few_labels;
    few_actions = l.counts.few_actions;
    some_node = l.counts.some_node;
    few_nodes = l.counts.few_nodes;
  })

  offsets : bad_offset (header_of w) ≡ false
  unfolding label_records
  offsets = ap bad_offset header_with ∙ offsets_pass (recounted h (length ts)) l.labels l.transitions (ap (λ (r : ℕ). r + 6 * length ts) l.transitions)
      (ap (λ (r : ℕ). r + 6 * length ts + 4 * h.actions) l.transitions)

  ends : bad_length w ≡ false
  unfolding bad_length
  ends = ap not (eq-eqb (length w) (file_end (header_of w)) (long ∙ ap file_end (sym header_with)))

  model : bad_model w ≡ false
  unfolding bad_model
  model =
      ap (λ (x : Header). not (ltb x.initial x.states && every (transition_ok x.states x.labels) (transition_table w))) header_with
      ∙ ap (λ (us : List Transition). not (ltb h.initial h.states && every (transition_ok h.states h.labels) us)) transitions_with
      ∙ rw (lt-ltb h.initial h.states (model_holds b good.model).0, holds (every (transition_ok h.states h.labels) ts) right)

  label_records_lem : bad_labels w ≡ false
  unfolding bad_labels
  label_records_lem = ap (λ (table : List Label). not (every label_ok table)) labels_with ∙ good.labels

  action_nodes : bad_actions w ≡ false
  unfolding bad_actions
  action_nodes =
      ap (λ (x : Header). not (every (action_ok x.labels) (action_table w) && whole_formulas 0 (map (arity_in action_arities) (action_table w)))) header_with
      ∙ ap (λ (table : List Node). not (every (action_ok h.labels) table && whole_formulas 0 (map (arity_in action_arities) table))) actions_with ∙ good.actions

  formula_nodes : bad_formula (header_of w).actions (formula_table w) ≡ false
  formula_nodes = ap (λ (x : Header). bad_formula x.actions (formula_table w)) header_with ∙ ap (bad_formula h.actions) formula_with ∙ good.formula

  -- It is accepted.
  pub accepted_with : Accepted w
  unfolding case_refusal case_conditions layout_conditions model_conditions formula_conditions
  accepted_with = sym
      (holds_later _ _ _ small (holds_later _ _ _ taken (holds_later _ _ _ counts (holds_later _ _ _ offsets (holds_later _ _ _ ends
      (holds_later _ _ _ model (holds_later _ _ _ label_records_lem (holds_later _ _ _ action_nodes
      (holds_later _ _ _ formula_nodes (holds_later _ _ _ (ap bad_variable formula_with ∙ good.variables) (holds_later _ _ _ (ap too_deep formula_with ∙ good.depth) none_holds)))))))))))

  -- Its case is that of b but for the transitions.
  pub case_with_lem : case_of w ≡ case_with (case_of b) ts
  unfolding case_of alike_labels alike
  case_with_lem =
      ap (λ (x : Header). case_from x (label_table w) (transition_table w) (action_table w) (formula_table w)) header_with
      ∙ ap (λ (table : List Label). case_from h table (transition_table w) (action_table w) (formula_table w)) labels_with
      ∙ ap (λ (us : List Transition). case_from h (label_table b) us (action_table w) (formula_table w)) transitions_with
      ∙ ap (λ (table : List Node). case_from h (label_table b) ts table (formula_table w)) actions_with
      ∙ ap (case_from h (label_table b) ts (action_table b)) formula_with

  -- ---- put in again

  -- It is the case of bytes that start with it.
  pub within_with : (z : List ℕ) → case_within (w ++ z) ≡ w
  unfolding case_within label_records
  within_with z =
      let size : common_header ≤ length w = omega (arith, with_long l ts, head_least l) in
      let same : file_end (header_of (w ++ z)) ≡ file_end (header_of w) =
      rw (number_left w z 0 (omega arith), number_left w z 4 (omega arith), number_left w z 6 (omega arith), number_left w z 10 (omega arith), number_left w z 12 (omega arith)) in
      ap (λ (k : ℕ). take k (w ++ z)) same ∙ take_at w z (file_end (header_of w)) (long ∙ ap file_end (sym header_with))

  -- With other transitions again, it is the first case with those.
  pub with_with : (us : List Transition) → with_transitions w us ≡ with_transitions b us
  with_with us =
      let k : ℕ = length us in
      let here : take h.transitions_at w ≡ head_for h (length ts) head = ap (take h.transitions_at) (with_is l ts)
      ∙ take_at (head_for h (length ts) head) (table_bytes ts ++ rest) h.transitions_at (length_head h (length ts) head ∙ head_long l) in
      with_is (passed w accepted_with).lies us
      ∙ ap (λ (x : Header). head_for x k (take x.transitions_at w) ++ (table_bytes us ++ drop x.actions_at w)) header_with
      ∙ ap (λ (v : List ℕ). head_for (recounted h (length ts)) k v ++ (table_bytes us ++ drop (h.transitions_at + 6 * length ts) w)) here
      ∙ ap (λ (v : List ℕ). head_for (recounted h (length ts)) k (head_for h (length ts) head) ++ (table_bytes us ++ v)) drop_table
      ∙ ap (λ (v : List ℕ). v ++ (table_bytes us ++ rest)) (head_again h (length ts) k head) ∙ sym (with_is l us)
