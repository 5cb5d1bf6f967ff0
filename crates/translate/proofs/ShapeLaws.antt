-- The cell of a formula's shape is the formula's cell, where all labels have a bit in the mask.
use mathlib.Core.Path.{◌≡◌, refl, sym, ap, ◌∙◌}
use mathlib.Core.Logic.{◌⊎◌, inl, inr}
use mathlib.Core.Bool.{Bool, true, false, cond, ◌&&◌}
use mathlib.Core.List.{List, [], ◌∷◌, ◌++◌, map, map-append, append_assoc, append-nil}
use Prim.Native.Nat.{ℕ, zero, suc, ◌+◌, ◌-◌, ◌*◌, ◌/◌, ◌<◌, ◌≤◌}
use native.Mathlib.Nat.{add-zero, zero-add, zero-div}
use native.Mathlib.Numerals.{add-one}
use native.Mathlib.Omega.{arith}
use lib.Dec.{T, eqb, ltb, ltb→lt}
use lib.ListN.{length, take, get_or, length-append, length-map, get_or-eq_default}
use lib.Seq.{take_all}
use Rattle.std.specs.Prelude.{count_by}
use Rattle.std.specs.List.{range_with_len}
use Rattle.std.proofs.lemmas.List.Sums.{sum_by-cons, count_by-le-length}
use Rattle.std.proofs.lemmas.List.FromFn.{length-range_with_len}
use Rattle.sets.proofs.Ranges.{range_is}
use Rattle.sets.specs.Lists.{numbers_from, every, keep}
use Rattle.sets.specs.States.{States}
use Rattle.sets.specs.Words.{number_of_bits, words, marked, bit}
use Rattle.sets.proofs.Lists.{and_left, and_right, length_range, length_table, table_at}
use Rattle.sets.proofs.Words.{marked_words}
use Rattle.solver.specs.Cells.{Cell, operands_of}
use Rattle.solver.specs.internal.Reading as reading
use Rattle.cases.specs.Action.{Action, accepts}
use Rattle.cases.specs.Formula.{Formula, False, True, And, Or, Box, Diamond, Variable, Fix}
use Rattle.cases.specs.declared.Transition.{Transition}
use Rattle.cases.proofs.Distinct.{length_keep}
use Rattle.cases.specs.internal.Masks.{mask_of}
use Rattle.cases.specs.Meaning.{from}
use Rattle.cases.specs.File.{transition_in, label_limit}
use Rattle.translate.specs.Bytes.{all_operands, cell_numbers}
use Rattle.translate.specs.Cells.{targets, cell_of}
use Rattle.translate.specs.declared.Shape.{Shape}
use Rattle.translate.specs.declared.bytes.Writer.{Writer}
use Rattle.translate.specs.internal.Writing.{shape_of, leaves, shape_operands, file_cell, shape_cell}
use Rattle.translate.proofs.Counts.{operands_append}
use Rattle.translate.proofs.Putting.{wrote_none, wrote_then}
use Rattle.translate.specs.internal.Parts.{Wrote, WroteCells, flagged, distinct_in, leaves_at, leaving, target_cells, target_cell}

-- bit x of an action formula's mask says whether label x is accepted
pub mask_bit : (α : Action) (x : ℕ) → x < label_limit → marked (mask_of α ∷ []) x ≡ accepts α x
unfolding words
mask_bit α x h =
    let v : States = map (accepts α) (numbers_from 0 label_limit) in
    let e : take label_limit v ≡ v = take_all label_limit v (omega (arith, length_table (accepts α) label_limit)) in
    ap (λ (u : States). marked (number_of_bits u ∷ []) x) (sym e) ∙ marked_words 1 v x (omega arith) ∙ table_at (accepts α) label_limit x false h

-- tests that agree on the elements of a list keep the same ones
pub keep_same : {A : Type 0} (u p q : A → Bool) → ((x : A) → T (u x) → p x ≡ q x) → (xs : List A) → T (every u xs) → keep p xs ≡ keep q xs
unfolding keep every
keep_same u p q h [] t = refl
keep_same u p q h (x ∷ xs) t = rw (h x (and_left (u x) (every u xs) t), keep_same u p q h xs (and_right (u x) (every u xs) t))

-- n states, the distinct transitions and the block of each binder
module _ (n : ℕ) (ts : List Transition) (low : T (every (λ t. ltb t.label label_limit) ts)) (block : ℕ → ℕ) where
  -- the transitions from s that a mask takes are those whose labels are accepted
  leaves_from : (α : Action) (s : ℕ) → keep (leaves s (mask_of α)) ts ≡ keep (from s α) ts
  leaves_from α s =
      keep_same (λ t. ltb t.label label_limit) (leaves s (mask_of α)) (from s α)
      (λ t l. ap (λ (b : Bool). eqb t.source s && b) (mask_bit α t.label (ltb→lt _ _ l))) ts low

  pub shape_cell_lem : (a : Formula) (i s : ℕ) → shape_cell n ts (shape_of block a i) i s ≡ cell_of n ts block a i s
  unfolding shape_cell shape_of cell_of targets
  shape_cell_lem False i s = refl
  shape_cell_lem True i s = refl
  shape_cell_lem (And a b) i s = refl
  shape_cell_lem (Or a b) i s = refl
  shape_cell_lem (Box α a) i s = rw (leaves_from α s)
  shape_cell_lem (Diamond α a) i s = rw (leaves_from α s)
  shape_cell_lem (Variable j) i s = refl
  shape_cell_lem (Fix true j a) i s = refl
  shape_cell_lem (Fix false j a) i s = refl

-- ---- a mask of labels, bit by bit

-- a label past the bits
pub mark_high : (labels x : ℕ) → 64 ≤ x → marked (labels ∷ []) x ≡ false
unfolding marked
mark_high labels x h =
    let q : get_or (labels ∷ []) (x / 64) 0 ≡ 0 = get_or-eq_default (labels ∷ []) 0 {n = x / 64} (omega arith) in
    rw (q, zero-div)

-- ---- records and rows, one by one

-- one number more
range_more : (i k : ℕ) → numbers_from i (suc k) ≡ numbers_from i k ++ ((i + k) ∷ [])
unfolding numbers_from
range_more i zero = rw add-zero
range_more i (suc k) =
    let e : suc i + k ≡ i + suc k = omega arith in
    ap (λ (l : List ℕ). i ∷ l) (range_more (suc i) k ∙ rw e)

pub map_range_more : {A : Type 0} (f : ℕ → A) (k : ℕ) → map f (numbers_from 0 (k + 1)) ≡ map f (numbers_from 0 k) ++ (f k ∷ [])
map_range_more f k = rw (add-one, range_more 0 k, map-append, zero-add)

-- the kept elements of two lists follow one another
pub keep_append : {A : Type 0} (p : A → Bool) (xs ys : List A) → keep p (xs ++ ys) ≡ keep p xs ++ keep p ys
unfolding keep
keep_append p [] ys = refl
keep_append p (x ∷ xs) ys = rw (keep_append p xs ys) (go (p x))
  where
    go : (b : Bool) → cond b (x ∷ (keep p xs ++ keep p ys)) (keep p xs ++ keep p ys) ≡ cond b (x ∷ keep p xs) (keep p xs) ++ keep p ys
    go true = refl
    go false = refl

-- as many are kept of kept and mapped elements as pass both tests
pub kept_counted : {A B : Type 0} (p : A → Bool) (f : A → B) (q : B → Bool) (xs : List A) → length (keep q (map f (keep p xs))) ≡ count_by (λ x. p x && q (f x)) xs
unfolding keep
kept_counted p f q [] = refl
kept_counted p f q (x ∷ xs) = go (p x) (kept_counted p f q xs) ∙ sym (sum_by-cons (λ x. cond (p x && q (f x)) 1 0) x xs)
  where
    rest : ℕ
    rest = count_by (λ x. p x && q (f x)) xs

    one : (b : Bool) → length (keep q (map f (keep p xs))) ≡ rest
        → length (cond b (f x ∷ keep q (map f (keep p xs))) (keep q (map f (keep p xs)))) ≡ cond b 1 0 + rest
    one true e = omega (arith, e)
    one false e = omega (arith, e)

    go : (b : Bool) → length (keep q (map f (keep p xs))) ≡ rest → length (keep q (map f (cond b (x ∷ keep p xs) (keep p xs)))) ≡ cond (b && q (f x)) 1 0 + rest
    go true e = one (q (f x)) e
    go false e = omega (arith, e)

-- What grows with each step is larger at a later one.
pub grows : (f : ℕ → ℕ) → ((j : ℕ) → f j ≤ f (j + 1)) → (j m : ℕ) → j ≤ m → f j ≤ f m
grows f h j m l =
    let e : j + (m - j) ≡ m = omega arith in
    rw e at (go (m - j))
  where
    go : (k : ℕ) → f j ≤ f (j + k)
    go zero = rw add-zero (omega arith)
    go (suc k) =
        let e : j + suc k ≡ j + k + 1 = omega arith in
        rw e (omega (arith, go k, h (j + k)))

-- one operand for each transition
pub length_targets : (base : ℕ) (ts : List Transition) → length (target_cells base ts) ≡ length ts
unfolding target_cells
length_targets base ts = length-map ts (λ t. base + t.target)

-- no more transitions are distinct than there are
pub distinct_few : (part : List ℕ) (first : List Bool) (m : ℕ) {k : ℕ} → m ≤ k → length (distinct_in part first m) ≤ k
unfolding distinct_in
distinct_few part first m h =
    omega (arith, h, length-map (keep (flagged first) (numbers_from 0 m)) (transition_in part), length_keep (flagged first) (numbers_from 0 m), length_range 0 m)

-- The first records of a transition part, with their flags, and those that leave s.
module _ (part : List ℕ) (first : List Bool) (s labels : ℕ) where
  -- record j, if it leaves s
  abbrev here : ℕ → List Transition
  here j = cond (leaves_at part first s labels j) (transition_in part j ∷ []) []

  -- what both tests say of it, in either order
  pub flag_tested : (j : ℕ) {t : Transition} {p q : Bool} → t ≡ transition_in part j → p ≡ leaves s labels t → q ≡ flagged first j → (q && p) ≡ leaves_at part first s labels j
  unfolding leaves_at
  flag_tested j e l f = rw (l, e, f) refl

  pub leaves_tested : (j : ℕ) {t : Transition} {p q : Bool} → t ≡ transition_in part j → p ≡ leaves s labels t → q ≡ flagged first j → (p && q) ≡ leaves_at part first s labels j
  leaves_tested j {p = p} {q = q} e l f = go p q ∙ flag_tested j e l f
    where
      go : (p q : Bool) → (p && q) ≡ (q && p)
      go true true = refl
      go true false = refl
      go false true = refl
      go false false = refl

  -- one record more
  leaving_more : (j : ℕ) → leaving part first s labels (j + 1) ≡ leaving part first s labels j ++ here j
  unfolding leaving distinct_in leaves_at keep
  leaving_more j =
      rw (add-one, range_more 0 j, zero-add, keep_append (flagged first), map-append, keep_append (leaves s labels)) (ap (λ (l : List Transition). leaving part first s labels j ++ l) (go (flagged first j)))
    where
      go : (b : Bool) → keep (leaves s labels) (map (transition_in part) (cond b (j ∷ []) [])) ≡ cond (b && leaves s labels (transition_in part j)) (transition_in part j ∷ []) []
      go true = refl
      go false = refl

  -- the operands of one record more
  pub targets_more : (base j : ℕ) → target_cells base (leaving part first s labels (j + 1)) ≡ target_cells base (leaving part first s labels j) ++ target_cell part first base s labels j
  unfolding target_cells target_cell
  targets_more base j = rw (leaving_more j, map-append) (ap (λ (l : List ℕ). target_cells base (leaving part first s labels j) ++ l) (go (leaves_at part first s labels j)))
    where
      go : (b : Bool) → map (λ t. base + t.target) (cond b (transition_in part j ∷ []) []) ≡ cond b ((base + (transition_in part j).target) ∷ []) []
      go true = refl
      go false = refl

  -- one record's operand is written, if it leaves s
  pub wrote_target : (base j x : ℕ) {b : Bool} {before after : Writer} → b ≡ leaves_at part first s labels j → b ≡ true → x ≡ (transition_in part j).target
      → Wrote ((base + x) ∷ []) before after → Wrote (target_cell part first base s labels j) before after
  unfolding target_cell
  wrote_target base j x is h e w = rw (← is, h, ← e) w

  pub wrote_no_target : (base j : ℕ) {b : Bool} (before : Writer) → b ≡ leaves_at part first s labels j → b ≡ false
      → Wrote (target_cell part first base s labels j) before before
  unfolding target_cell
  wrote_no_target base j before is h = rw (← is, h) (wrote_none before)

  pub target_room : (base j : ℕ) {b : Bool} → b ≡ leaves_at part first s labels j → b ≡ true → length (target_cell part first base s labels j) ≡ 1
  unfolding target_cell
  target_room base j is h = rw (← is, h)

  -- and how many there are
  pub degree_more : (j : ℕ) → length (leaving part first s labels (j + 1)) ≡ length (leaving part first s labels j) + bit (leaves_at part first s labels j)
  degree_more j = rw (leaving_more j, length-append) (ap (λ (k : ℕ). length (leaving part first s labels j) + k) (go (leaves_at part first s labels j)))
    where
      go : (b : Bool) → length (cond b (transition_in part j ∷ []) []) ≡ bit b
      go true = refl
      go false = refl

  pub degree_counted : (m : ℕ) → count_by (leaves_at part first s labels) (range_with_len 0 m) ≡ length (leaving part first s labels m)
  unfolding leaving distinct_in leaves_at
  degree_counted m = rw (range_is 0 m) (sym (kept_counted (flagged first) (transition_in part) (leaves s labels) (numbers_from 0 m)))

  pub degree_few : (m : ℕ) → length (leaving part first s labels m) ≤ m
  degree_few m = rw (← degree_counted m) (omega (arith, count_by-le-length (leaves_at part first s labels) (range_with_len 0 m), length-range_with_len 0 m))

  -- of some records no more leave s than of all
  pub degree_grows : (j m : ℕ) → j ≤ m → length (leaving part first s labels j) ≤ length (leaving part first s labels m)
  degree_grows = grows (λ j. length (leaving part first s labels j)) (λ j. omega (arith, degree_more j))

  -- the operands of the first j records and of record j are among those of all
  pub targets_fit : (base j m : ℕ) → j < m
      → length (target_cells base (leaving part first s labels j)) + length (target_cell part first base s labels j) ≤ length (leaving part first s labels m)
  targets_fit base j m h =
      omega (
        arith,
        degree_grows (j + 1) m (omega arith),
        length_targets base (leaving part first s labels (j + 1)),
        ap length (targets_more base j),
        length-append (target_cells base (leaving part first s labels j)) (target_cell part first base s labels j),
      )

  pub targets_none : (base : ℕ) → target_cells base (leaving part first s labels 0) ≡ []
  unfolding target_cells leaving distinct_in keep numbers_from
  targets_none base = refl

-- ---- cells and operands, one by one

-- the operands of one cell
operands_one : (c : Cell) → all_operands (c ∷ []) ≡ operands_of c
unfolding all_operands
operands_one c = append-nil (operands_of c)

-- the numbers of a cell of either kind, before those of others
cell_first : (used : ℕ) (c : Cell) (cs : List Cell)
    → cell_numbers used (c ∷ cs) ≡ cell_numbers used (c ∷ []) ++ cell_numbers (used + length (operands_of c)) cs
unfolding cell_numbers operands_of
cell_first used (Cell.And os) cs = refl
cell_first used (Cell.Or os) cs = refl
cell_first used (Cell.Variable k s) cs = rw add-zero

-- and of two lists of cells
numbers_append : (used : ℕ) (cs ds : List Cell) → cell_numbers used (cs ++ ds) ≡ cell_numbers used cs ++ cell_numbers (used + length (all_operands cs)) ds
unfolding cell_numbers all_operands
numbers_append used [] ds = rw add-zero
numbers_append used (c ∷ cs) ds =
    let k : used + length (operands_of c) + length (all_operands cs) ≡ used + length (operands_of c ++ all_operands cs) = omega (arith, length-append (operands_of c) (all_operands cs)) in
    cell_first used c (cs ++ ds)
    ∙ ap (λ (l : List ℕ). cell_numbers used (c ∷ []) ++ l) (numbers_append (used + length (operands_of c)) cs ds)
    ∙ sym (append_assoc (cell_numbers used (c ∷ [])) (cell_numbers (used + length (operands_of c)) cs) (cell_numbers (used + length (operands_of c) + length (all_operands cs)) ds))
    ∙ ap (λ (l : List ℕ). l ++ cell_numbers (used + length (operands_of c) + length (all_operands cs)) ds) (sym (cell_first used c cs))
    ∙ ap (λ (u : ℕ). cell_numbers used (c ∷ cs) ++ cell_numbers u ds) k

-- Cells that are written behind cells follow them.
pub wrote_cells_then : {used next r : ℕ} {cs ds : List Cell} {a b c : Writer} → WroteCells used cs a b next → WroteCells next ds b c r → WroteCells used (cs ++ ds) a c r
wrote_cells_then {used} {next} {r} {cs} {ds} p q = record {
  wrote = rw (numbers_append used cs ds, ← p.count) (wrote_then p.wrote q.wrote);
  count = rw (operands_append cs ds, length-append (all_operands cs) (all_operands ds)) (omega (arith, p.count, q.count));
}

-- no cell is written
pub wrote_no_cell : (used : ℕ) (w : Writer) → WroteCells used [] w w used
unfolding cell_numbers all_operands
wrote_no_cell used w = record { wrote = wrote_none w; count = sym (add-zero used) }

-- The cell of a shape at node i in state s.
module _ (n : ℕ) (ts : List Transition) (x : Shape) (i s : ℕ) where
  -- the cell of a file has the numbers of the shape's cell, where its operands are counted
  cell_written : (used count : ℕ) → count ≡ length (shape_operands n ts x i s)
      → reading.numbers_in_file (file_cell x s (record { first = used; count = count })) ≡ cell_numbers used (shape_cell n ts x i s ∷ [])
  unfolding shape_cell cell_numbers operands_of reading.numbers_in_file
  cell_written used count = go x
    where
      by : (k : ℕ) {c : ℕ} → count ≡ c → (k ∷ used ∷ count ∷ []) ≡ (k ∷ used ∷ c ∷ [])
      by k e = ap (λ (c : ℕ). k ∷ used ∷ c ∷ []) e

      go : (y : Shape) → count ≡ length (shape_operands n ts y i s)
          → reading.numbers_in_file (file_cell y s (record { first = used; count = count })) ≡ cell_numbers used (shape_cell n ts y i s ∷ [])
      go Shape.False e = by 1 e
      go Shape.True e = by 0 e
      go (Shape.And second) e = by 0 e
      go (Shape.Or second) e = by 1 e
      go (Shape.Box labels) e = by 0 e
      go (Shape.Diamond labels) e = by 1 e
      go (Shape.Variable block) e = refl
      go (Shape.Mu block) e = refl
      go (Shape.Nu block) e = refl

  -- one cell is written
  pub wrote_one : {used count : ℕ} {before after : Writer} → count ≡ length (shape_operands n ts x i s)
      → Wrote (reading.numbers_in_file (file_cell x s (record { first = used; count = count }))) before after → WroteCells used (shape_cell n ts x i s ∷ []) before after (used + count)
  wrote_one {used} {count} e w = record {
    wrote = rw (cell_written used count e) at w;
    count = ap (λ (c : ℕ). used + c) (e ∙ sym (ap length (operands_one (shape_cell n ts x i s))));
  }

  -- the operands of an and or an or, of a box or a diamond, and of the others
  pub operands_pair : {second : ℕ} → (x ≡ Shape.And second) ⊎ (x ≡ Shape.Or second) → shape_operands n ts x i s ≡ ((i + 1) * n + s) ∷ (second * n + s) ∷ []
  unfolding shape_cell operands_of
  operands_pair (inl e) = rw e
  operands_pair (inr e) = rw e

  pub pair_count : ((k : ℕ) × (x ≡ Shape.And k)) ⊎ ((k : ℕ) × (x ≡ Shape.Or k)) → 2 ≡ length (shape_operands n ts x i s)
  pair_count (inl e) = rw (operands_pair (inl e.1))
  pair_count (inr e) = rw (operands_pair (inr e.1))

  pub operands_modal : {labels : ℕ} → (x ≡ Shape.Box labels) ⊎ (x ≡ Shape.Diamond labels)
      → shape_operands n ts x i s ≡ target_cells ((i + 1) * n) (keep (leaves s labels) ts)
  unfolding shape_cell operands_of target_cells
  operands_modal (inl e) = rw e
  operands_modal (inr e) = rw e

  pub modal_count : {labels : ℕ} → (x ≡ Shape.Box labels) ⊎ (x ≡ Shape.Diamond labels) → length (keep (leaves s labels) ts) ≡ length (shape_operands n ts x i s)
  modal_count e = rw (operands_modal e) (sym (length_targets ((i + 1) * n) _))

  pub operands_none : ((k : ℕ) → ¬ (x ≡ Shape.And k)) → ((k : ℕ) → ¬ (x ≡ Shape.Or k)) → ((k : ℕ) → ¬ (x ≡ Shape.Box k)) → ((k : ℕ) → ¬ (x ≡ Shape.Diamond k))
      → shape_operands n ts x i s ≡ []
  unfolding shape_cell operands_of
  operands_none no_and no_or no_box no_diamond = go x refl
    where
      go : (y : Shape) → x ≡ y → shape_operands n ts y i s ≡ []
      go Shape.False is = refl
      go Shape.True is = refl
      go (Shape.And second) is = absurd (no_and second is)
      go (Shape.Or second) is = absurd (no_or second is)
      go (Shape.Box labels) is = absurd (no_box labels is)
      go (Shape.Diamond labels) is = absurd (no_diamond labels is)
      go (Shape.Variable block) is = refl
      go (Shape.Mu block) is = refl
      go (Shape.Nu block) is = refl

-- The cells of a node, state by state.
module _ (n : ℕ) (ts : List Transition) (x : Shape) (i : ℕ) where
  abbrev row : ℕ → List Cell
  row k = map (shape_cell n ts x i) (numbers_from 0 k)

  -- the operands of one state more
  pub row_operands : (s : ℕ) → all_operands (row (s + 1)) ≡ all_operands (row s) ++ shape_operands n ts x i s
  row_operands s =
      ap all_operands (map_range_more (shape_cell n ts x i) s)
      ∙ operands_append (row s) (shape_cell n ts x i s ∷ [])
      ∙ ap (λ (l : List ℕ). all_operands (row s) ++ l) (operands_one (shape_cell n ts x i s))

  -- no cell is written
  pub wrote_no_cells : (used : ℕ) (w : Writer) → WroteCells used (row 0) w w used
  unfolding numbers_from
  wrote_no_cells used w = wrote_no_cell used w

  -- one state's cell more is written
  pub wrote_cell : (s : ℕ) {used next r : ℕ} {before mid after : Writer} → WroteCells used (row s) before mid next
      → WroteCells next (shape_cell n ts x i s ∷ []) mid after r → WroteCells used (row (s + 1)) before after r
  wrote_cell s p q = rw (map_range_more (shape_cell n ts x i) s) (wrote_cells_then p q)

  pub row_none : all_operands (row 0) ≡ []
  unfolding numbers_from all_operands
  row_none = refl

  -- those of the first states and of state s are among those of all
  pub row_fit : (s m : ℕ) → s < m → length (all_operands (row s)) + length (shape_operands n ts x i s) ≤ length (all_operands (row m))
  row_fit s m h =
      let more : (s : ℕ) → length (all_operands (row (s + 1))) ≡ length (all_operands (row s)) + length (shape_operands n ts x i s) =
      λ s. ap length (row_operands s) ∙ length-append (all_operands (row s)) (shape_operands n ts x i s) in
      omega (arith, more s, grows (λ s. length (all_operands (row s))) (λ s. omega (arith, more s)) (s + 1) m (omega arith))
