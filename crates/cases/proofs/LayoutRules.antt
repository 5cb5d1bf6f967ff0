-- Conditions 1 to 5: what the tests of the code come to, and what follows where none holds.
use mathlib.Core.Path.{◌≡◌, refl, sym, ap, ◌∙◌}
use mathlib.Core.Bool.{Bool, true, false, cond, not, ◌&&◌, true≢false}
use mathlib.Core.List.{List, [], ◌∷◌}
use Prim.Native.Nat.{ℕ, ◌≤◌, ◌<◌}
use native.Mathlib.Omega.{arith}
use borrow.Author.Tests.{le-ltb, lt-ltb, eq-eqb, ne_eqb, eqb-true, not-false, ltb-false}
use lib.Dec.{T, eqb, eqb→eq}
use lib.ListN.{length, take}
use lib.Seq.{take_all, take-length}
use Rattle.sets.specs.Lists.{every, for_some}
use Rattle.sets.specs.Words.{state_limit}
use Rattle.sets.specs.Refusals.{first_of}
use Rattle.sets.proofs.Refusals.{holds_here, holds_later, none_holds, none_here, bounds}
use Rattle.cases.specs.File.{Header, header_size, version, has_label_table, header_of, label_records, case_within, labels_start, transitions_start, actions_start, formula_start, file_end, label_limit, transition_limit, action_limit, node_limit}
use Rattle.cases.specs.Conditions.{too_small, other_version, versions, bad_count, bad_offset, bad_length, layout_conditions}
use Rattle.cases.specs.internal.Checks.{common_header, CountsFit, Laid}

-- ---- 3

-- tests that all hold
four : (a b c d : Bool) → not (a && b && c && d) ≡ false → T a × T b × T c × T d
four true true true true h = (tt, tt, tt, tt)
four true true true false h = absurd (true≢false h)
four true true false d h = absurd (true≢false h)
four true false c d h = absurd (true≢false h)
four false b c d h = absurd (true≢false h)

five : (a b c d e : Bool) → not (every (λ test. test) (a ∷ b ∷ c ∷ d ∷ e ∷ [])) ≡ false → T a × T b × T c × T d × T e
unfolding every
five true true true true true h = (tt, tt, tt, tt, tt)
five true true true true false h = absurd (true≢false h)
five true true true false e h = absurd (true≢false h)
five true true false d e h = absurd (true≢false h)
five true false c d e h = absurd (true≢false h)
five false b c d e h = absurd (true≢false h)

module _ (h : Header) where
  pub counts_hold : bad_count h ≡ false → CountsFit h
  unfolding bad_count
  counts_hold e =
      let t = five _ _ _ _ _ e in
      let states = bounds 1 state_limit h.states t.0 in
      let labels = bounds 1 label_limit h.labels t.2 in
      let nodes = bounds 1 node_limit h.nodes t.4 in
      record {
        some_state = states.0;
        few_states = states.1;
        few_transitions = (bounds 0 transition_limit h.transitions t.1).1;
        some_label = labels.0;
        few_labels = labels.1;
        few_actions = (bounds 0 action_limit h.actions t.3).1;
        some_node = nodes.0;
        few_nodes = nodes.1;
      }

  -- ---- 4

  pub labels_differ : ¬ (h.labels_at ≡ labels_start h) → true ≡ bad_offset h
  unfolding bad_offset
  labels_differ d = simp (ne_eqb h.labels_at (labels_start h) d)

  module _ (labels : h.labels_at ≡ labels_start h) where
    pub transitions_differ : ¬ (h.transitions_at ≡ transitions_start h) → true ≡ bad_offset h
    unfolding bad_offset
    transitions_differ d = simp (eq-eqb h.labels_at (labels_start h) labels, ne_eqb h.transitions_at (transitions_start h) d)

    module _ (transitions : h.transitions_at ≡ transitions_start h) where
      pub actions_differ : ¬ (h.actions_at ≡ actions_start h) → true ≡ bad_offset h
      unfolding bad_offset
      actions_differ d = simp (
        eq-eqb h.labels_at (labels_start h) labels,
        eq-eqb h.transitions_at (transitions_start h) transitions,
        ne_eqb h.actions_at (actions_start h) d,
      )

      pub formula_decides : h.actions_at ≡ actions_start h → not (eqb h.formula_at (formula_start h)) ≡ bad_offset h
      unfolding bad_offset
      formula_decides actions = simp (
        eq-eqb h.labels_at (labels_start h) labels,
        eq-eqb h.transitions_at (transitions_start h) transitions,
        eq-eqb h.actions_at (actions_start h) actions,
      )

  offsets_hold : bad_offset h ≡ false
      → (h.labels_at ≡ labels_start h) × (h.transitions_at ≡ transitions_start h) × (h.actions_at ≡ actions_start h) × (h.formula_at ≡ formula_start h)
  unfolding bad_offset
  offsets_hold e =
      let t = four (eqb h.labels_at (labels_start h)) (eqb h.transitions_at (transitions_start h)) (eqb h.actions_at (actions_start h)) (eqb h.formula_at (formula_start h)) e in
      (eqb→eq _ _ t.0, eqb→eq _ _ t.1, eqb→eq _ _ t.2, eqb→eq _ _ t.3)

-- a header has what all versions have
pub header_least : (v : ℕ) → common_header ≤ header_size v
unfolding header_size
header_least v = go (eqb v 2)
  where
    go : (r : Bool) → common_header ≤ cond r 22 20
    go true = omega arith
    go false = omega arith

-- ---- how many bytes a header says that a case has

module _ (b : List ℕ) where
  -- its label records, where its version has them and where it has not
  pub records_told : {v : ℕ} → v ≡ version b → has_label_table v ≡ true → label_records (header_of b) ≡ (header_of b).labels
  unfolding label_records
  records_told is e = rw (← is, e)

  pub records_none : {v : ℕ} → v ≡ version b → has_label_table v ≡ false → label_records (header_of b) ≡ 0
  unfolding label_records
  records_none is e = rw (← is, e)

  -- at least the bytes that all headers have
  pub end_least : common_header ≤ file_end (header_of b)
  end_least = omega (arith, header_least (version b))

  -- all bytes are the case's where they are no more than that, and otherwise so many
  pub all_within : length b ≤ file_end (header_of b) → take (length b) b ≡ case_within b
  unfolding case_within
  all_within h = take-length b ∙ sym (take_all _ b h)

  pub end_within : {e : ℕ} → e ≡ file_end (header_of b) → take e b ≡ case_within b
  unfolding case_within
  end_within e = rw e

-- ---- the first condition of the layout that holds

module _ (b : List ℕ) where
  pub small_refuses : length b < header_size (version b) → 1 ≡ first_of (layout_conditions b)
  unfolding layout_conditions too_small
  small_refuses h = holds_here _ _ _ (lt-ltb _ _ h)

  module _ (whole : header_size (version b) ≤ length b) where
    has_header : too_small b ≡ false
    unfolding too_small
    has_header = le-ltb _ _ whole

    pub version_refuses : for_some (eqb (version b)) versions ≡ false → 2 ≡ first_of (layout_conditions b)
    unfolding layout_conditions other_version
    version_refuses e = holds_later _ _ _ has_header (holds_here _ _ _ (ap not e))

    module _ (one : for_some (eqb (version b)) versions ≡ true) {h : Header} (is : h ≡ header_of b) where
      version_is : other_version versions b ≡ false
      unfolding other_version
      version_is = ap not one

      pub count_refuses : bad_count h ≡ true → 3 ≡ first_of (layout_conditions b)
      unfolding layout_conditions
      count_refuses t = holds_later _ _ _ has_header (holds_later _ _ _ version_is (holds_here _ _ _ (rw is at t)))

      module _ (counts : bad_count h ≡ false) where
        pub offset_refuses : bad_offset h ≡ true → 4 ≡ first_of (layout_conditions b)
        unfolding layout_conditions
        offset_refuses t =
            holds_later _ _ _ has_header (holds_later _ _ _ version_is (holds_later _ _ _ (rw is at counts) (holds_here _ _ _ (rw is at t))))

        module _ (offsets : bad_offset h ≡ false) where
          pub length_refuses : bad_length b ≡ true → 5 ≡ first_of (layout_conditions b)
          unfolding layout_conditions
          length_refuses t =
              holds_later _ _ _ has_header (holds_later _ _ _ version_is (holds_later _ _ _ (rw is at counts)
              (holds_later _ _ _ (rw is at offsets) (holds_here _ _ _ t))))

          pub layout_passes : bad_length b ≡ false → 0 ≡ first_of (layout_conditions b)
          unfolding layout_conditions
          layout_passes f =
              holds_later _ _ _ has_header (holds_later _ _ _ version_is (holds_later _ _ _ (rw is at counts)
              (holds_later _ _ _ (rw is at offsets) (holds_later _ _ _ f none_holds))))

-- ---- none of 1 to 5

small_not : (b : List ℕ) → too_small b ≡ false → header_size (version b) ≤ length b
unfolding too_small
small_not b h = ltb-false _ _ h

length_holds : (b : List ℕ) → bad_length b ≡ false → length b ≡ file_end (header_of b)
unfolding bad_length
length_holds b h = eqb-true _ _ (not-false _ h)

-- the tables can be read
laid_header : (b : List ℕ) → first_of (layout_conditions b) ≡ 0 → Laid b (header_of b)
unfolding layout_conditions
laid_header b z =
    let small = none_here 1 _ _ (λ e. omega arith) z in
    let version = none_here 2 _ _ (λ e. omega arith) small.1 in
    let count = none_here 3 _ _ (λ e. omega arith) version.1 in
    let offset = none_here 4 _ _ (λ e. omega arith) count.1 in
    let ends = none_here 5 _ _ (λ e. omega arith) offset.1 in
    let at = offsets_hold (header_of b) offset.0 in
    record {
      read = refl;
      header = small_not b small.0;
      counts = counts_hold (header_of b) count.0;
      labels = at.0;
      transitions = at.1;
      actions = at.2;
      formula = at.3;
      ends = length_holds b ends.0;
    }

pub laid : (b : List ℕ) {h : Header} → h ≡ header_of b → first_of (layout_conditions b) ≡ 0 → Laid b h
laid b is z = rw is (laid_header b z)
