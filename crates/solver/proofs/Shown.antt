-- Working bytes as truth values: what a cell's value is where the cells above it are shown.
use mathlib.Core.Path.{◌≡◌, refl, ap, sym, ◌∙◌}
use mathlib.Core.Bool.{Bool, true, false, not, ◌&&◌, ◌||◌}
use mathlib.Core.List.{List, [], ◌∷◌}
use Prim.Native.Nat.{ℕ, zero, suc, ◌+◌, ◌<◌, ◌≤◌}
use native.Mathlib.Omega.{arith}
use native.Mathlib.Decide.{dec_lt, ℕ_discrete}
use mir.Val.{bool_byte}
use lib.Dec.{eqb}
use lib.ListN.{length, get_or, set, length-map, length-set, get_or-map, get_or-eq_default}
use lib.Seq.{get_or-set_same, get_or-set_other}
use Rattle.sets.specs.Lists.{every, for_some}
use Rattle.sets.specs.States.{has, Valuation}
use Rattle.sets.specs.Words.{marked, bit, word_count, state_limit}
use Rattle.sets.proofs.Lists.{kept_equal}
pub use Rattle.sets.proofs.Words.{bit_low, bit_back}
use Rattle.sets.proofs.Words.{marked_words}
use Rattle.solver.specs.Cells.{Cell, And, Or, value, Values}
use Rattle.solver.specs.declared.Operands.{Operands}
use Rattle.solver.specs.internal.Forms.{Ordered}
use Rattle.solver.specs.File.{sizes_of, operands, Entry, entry_at, entry_cell, cells, list_of, block_limit}
use Rattle.solver.specs.internal.Checks.{SizesFit}
use Rattle.solver.specs.internal.Working.{OpenFile, Ready, ListAt, HoldsRows, Shows, Valued, CellsValued, truths}
use Rattle.solver.specs.declared.Sizes.{Sizes}
use Rattle.solver.proofs.Tables.{counted, length_cells, cell_at_lem, operand_at_lem}
use Rattle.solver.proofs.Reading.{layout_facts}
use Rattle.solver.proofs.WellFormed.{Keeps, ordered, cell_kept}
use Rattle.solver.proofs.Values.{value_kept}

-- the byte that the code makes of a truth value
pub byte_is : (b : Bool) {x : ℕ} → x ≡ bool_byte b → x ≡ bit b
byte_is true h = h
byte_is false h = h

-- a byte of a truth value reads back
pub truth_at : (work : List ℕ) (o : ℕ) → get_or (truths work) o false ≡ eqb (get_or work o 0) 1
unfolding truths
truth_at work o = get_or-map (λ x. eqb x 1) work o 0

length_truths : (work : List ℕ) → length (truths work) ≡ length work
unfolding truths
length_truths work = length-map work (λ x. eqb x 1)

-- ---- lists: what a search among the operands' bytes tells
abbrev pub wanted : List ℕ → ℕ → List ℕ → Bool
wanted work x os = for_some (λ o. eqb (get_or work o 0) x) os

module _ (work : List ℕ) (bits : (i : ℕ) → get_or work i 0 ≤ 1) (ρ : Valuation) where
  one_or_zero : (o : ℕ) → eqb (get_or work o 0) 1 ≡ not (eqb (get_or work o 0) 0)
  one_or_zero o = go (get_or work o 0) (bits o)
    where
      go : (x : ℕ) → x ≤ 1 → eqb x 1 ≡ not (eqb x 0)
      go zero h = refl
      go (suc zero) h = refl
      go (suc (suc x)) h = absurd (omega arith)

  no_zero : (os : List ℕ) → every (λ o. get_or (truths work) o false) os ≡ not (wanted work 0 os)
  unfolding every for_some
  no_zero [] = refl
  no_zero (o ∷ os) = rw (truth_at work o, one_or_zero o, no_zero os) (go (eqb (get_or work o 0) 0))
    where
      go : (b : Bool) → (not b && not (wanted work 0 os)) ≡ not (b || wanted work 0 os)
      go true = refl
      go false = refl

  some_one : (os : List ℕ) → for_some (λ o. get_or (truths work) o false) os ≡ wanted work 1 os
  unfolding for_some
  some_one [] = refl
  some_one (o ∷ os) = rw (truth_at work o, some_one os) refl

  pub and_value : (os : List ℕ) {found : Bool} → found ≡ wanted work 0 os → not found ≡ value ρ (truths work) (And os)
  unfolding value
  and_value os e = rw (e, no_zero os) refl

  pub or_value : (os : List ℕ) {found : Bool} → found ≡ wanted work 1 os → found ≡ value ρ (truths work) (Or os)
  unfolding value
  or_value os e = rw (e, some_one os) refl

-- ---- a cell's value, by its kind
abbrev pub cell_at : List ℕ → ℕ → Cell
cell_at e i = entry_cell (operands e) (entry_at e i).kind (entry_at e i).one (entry_at e i).two

module _ {e : List ℕ} {sizes : Sizes} {work : List ℕ} (o : OpenFile e sizes) (r : Ready e work) {i : ℕ} (h : i < sizes.cells) where
  own : i < (sizes_of e).cells
  own = omega (arith, (counted o.counts).cells)

  -- the bytes above (cell_at e i) i are the values above (cell_at e i) i
  above : (vs : List Bool) → length vs ≡ length (cells e) → Shows vs (i + 1) work → (j : ℕ) → i < j → get_or (truths work) j false ≡ get_or vs j false
  above vs l s j g = go (dec_lt j (length vs))
    where
      go : Dec (j < length vs) → get_or (truths work) j false ≡ get_or vs j false
      go (yes q) = truth_at work j ∙ ap (λ (x : ℕ). eqb x 1) (s.byte j (omega arith) q) ∙ bit_back (get_or vs j false)
      go (no q) =
          get_or-eq_default (truths work) false {n = j} (omega (arith, length_truths work, r.room, l, length_cells e))
          ∙ sym (get_or-eq_default vs false {n = j} (omega arith))

  -- by the rule over all values
  by_rule : (ρ : Valuation) (vs : List Bool) → Values (cells e) ρ vs → Shows vs (i + 1) work → value ρ (truths work) (cell_at e i) ≡ get_or vs i false
  unfolding Ordered
  by_rule ρ vs v s =
      let g : i < length (cells e) = omega (arith, own, length_cells e) in
      let at = cell_at_lem e i own in
      value_kept kept_equal ρ ρ (λ k x. refl) i (truths work) vs (above vs v.sized s) (cell_at e i) (rw at at (ordered e o.formed i g))
      ∙ sym (v.rule i g ∙ ap (value ρ vs) at)

  abbrev entry : Entry
  entry = entry_at e i

  abbrev facts : Keeps e i entry.kind entry.one entry.two
  facts = cell_kept e o.formed i own

  abbrev few : SizesFit (sizes_of e)
  few = (layout_facts e o.formed.layout).counts

  -- a list's operands are in the table
  pub list_fits : {first count : ℕ} → entry.kind ≤ 1 → first ≡ entry.one → count ≡ entry.two → ListAt e first count
  list_fits k f c =
      let l = facts.list k in
      rw (f, c) (record {
        fits = l;
        below = λ j g. omega (arith, (facts.operand k j g).1, operand_at_lem e (entry.one + j) (omega arith));
      })

  -- an answer that is the value by the cell's rule
  valued : {rows : List (List ℕ)} {answer : Bool} → ((ρ : Valuation) → answer ≡ value ρ (truths work) (cell_at e i)) → Valued e rows i work answer
  valued f = record { right = λ ρ vs holds v s. f ρ ∙ by_rule ρ vs v s }

  -- an and
  module _ {l : Operands} (kind : entry.kind ≡ 0) (list : (l.first ≡ entry.one) × (l.count ≡ entry.two)) where
    pub and_fits : ListAt e l.first l.count
    and_fits = list_fits (omega arith) list.0 list.1

    pub and_valued : {rows : List (List ℕ)} {found : Bool} → found ≡ wanted work 0 (list_of (operands e) l.first l.count) → Valued e rows i work (not found)
    unfolding entry_cell
    and_valued f = valued (λ ρ. and_value work r.bits ρ _ f ∙ rw (kind, ← list.0, ← list.1) refl)

  -- an or, if neither of the others
  module _ {l : Operands} (n : ¬ (entry.kind ≡ 0)) (m : ¬ (entry.kind ≡ 2)) (list : (l.first ≡ entry.one) × (l.count ≡ entry.two)) where
    kind : entry.kind ≡ 1
    kind = omega (arith, n, m, facts.kinds)

    pub or_fits : ListAt e l.first l.count
    or_fits = list_fits (omega (arith, kind)) list.0 list.1

    pub or_valued : {rows : List (List ℕ)} {found : Bool} → found ≡ wanted work 1 (list_of (operands e) l.first l.count) → Valued e rows i work found
    unfolding entry_cell
    or_valued f = valued (λ ρ. or_value work r.bits ρ _ f ∙ rw (kind, ← list.0, ← list.1) refl)

  -- a variable
  module _ {block state : ℕ} (second : entry.kind ≡ 2) (pair : (block ≡ entry.one) × (state ≡ entry.two)) where
    pub variable_fits : (block < block_limit) × (state < state_limit)
    variable_fits =
        let b = facts.variable second in
        (omega (arith, few.few_blocks, b.0, pair.0), omega (arith, few.few_states, b.1, pair.1))

    pub variable_valued : {rows : List (List ℕ)} {answer : Bool} → answer ≡ marked (get_or rows block []) state → Valued e rows i work answer
    unfolding value entry_cell
    variable_valued {rows} f = record {
      right = λ ρ vs holds v t.
          let z : has (ρ block) state ≡ get_or vs i false = rw (pair.0, pair.1) (rw second at (by_rule ρ vs v t)) in
          f
          ∙ ap (λ (w : List ℕ). marked w state) (holds.row block variable_fits.0)
          ∙ marked_words word_count (ρ block) state (omega (arith, variable_fits.1))
          ∙ z;
    }

-- ---- all cells, from the last down
pub evaluated_none : {e : List ℕ} {sizes : Sizes} {work : List ℕ} {rows : List (List ℕ)} → OpenFile e sizes → Ready e work → CellsValued e rows sizes.cells work
evaluated_none {e} o r = record {
  ready = r;
  right = λ ρ vs holds v. record { byte = λ j a b. absurd (omega (arith, v.sized, length_cells e, (counted o.counts).cells)) };
}

pub evaluated_more : {e : List ℕ} {work : List ℕ} {rows : List (List ℕ)} {i x : ℕ} {answer : Bool} → CellsValued e rows (i + 1) work → i < (sizes_of e).cells → Valued e rows i work answer → x ≡ bit answer →
    CellsValued e rows i (set work i x)
evaluated_more {e} {work} {rows} {i} {x} {answer} d h w is = record {
  ready = record { room = length-set work i x ∙ d.ready.room; bits = λ j. low j (ℕ_discrete j i) };
  right = λ ρ vs holds v. record { byte = λ j a b. at ρ vs holds v j a b (ℕ_discrete j i) };
}
  where
    here : get_or (set work i x) i 0 ≡ bit answer
    here = get_or-set_same work i x 0 (omega (arith, d.ready.room)) ∙ is

    low : (j : ℕ) → Dec (j ≡ i) → get_or (set work i x) j 0 ≤ 1
    low j (yes q) = rw (q, here) (bit_low answer)
    low j (no q) = rw (get_or-set_other work i j x 0 q) (d.ready.bits j)

    at : (ρ : Valuation) (vs : List Bool) → HoldsRows (sizes_of e).states rows ρ → Values (cells e) ρ vs → (j : ℕ) → i ≤ j → j < length vs → Dec (j ≡ i) → get_or (set work i x) j 0 ≡ bit (get_or vs j false)
    at ρ vs holds v j a b (yes q) = rw (q, here) (ap bit (w.right ρ vs holds v (d.right ρ vs holds v)))
    at ρ vs holds v j a b (no q) = rw (get_or-set_other work i j x 0 q) ((d.right ρ vs holds v).byte j (omega arith) b)
