-- Condition 12: the cells one by one.
use mathlib.Core.Path.{◌≡◌, refl, sym, ◌∙◌}
use mathlib.Core.Bool.{Bool, true, false, cond, ◌&&◌}
use mathlib.Core.List.{List, []}
use Prim.Native.Nat.{ℕ, ◌+◌, ◌≤◌, ◌<◌}
use native.Mathlib.Omega.{arith}
use native.Mathlib.Decide.{dec_le, ℕ_discrete}
use borrow.Author.Tests.{le-leb, lt-leb, eq-eqb, ne_eqb}
use lib.Dec.{eqb, ltb, leb}
use lib.ListN.{length, drop, drop_of_length-le}
use Rattle.sets.specs.Lists.{numbers_from, every, sum}
use Rattle.sets.proofs.Lists.{length_range, range_at, and_false, false_true, drop_next}
use Rattle.solver.specs.declared.Sizes.{Sizes}
use Rattle.std.specs.Prelude.{Option, Some, None, ◌-◌}
use Rattle.std.specs.Bool.{then_some}
use Rattle.std.proofs.lemmas.Option.{none-some, same_Some}
use Rattle.solver.specs.File.{sizes_of, Entry, entry_at}
use Rattle.solver.specs.Conditions.{is_list, arity, operands_before, operands_ok, cell_ok}
use Rattle.solver.specs.internal.Checks.{Read, rest_ok, Spans}
use Rattle.solver.proofs.Tables.{counted, before_next, before_grows}

-- the rule of cell i by its kind
module _ (e : List ℕ) (i : ℕ) {x : Entry} (is : x ≡ entry_at e i) where
  cell_rule : cell_ok e i ≡ cond (is_list x) (eqb x.one (operands_before e i) && operands_ok e i x.one x.two)
      (eqb x.kind 2 && ltb x.one (sizes_of e).blocks && ltb x.two (sizes_of e).states)
  unfolding cell_ok
  cell_rule = rw is refl

  -- a list
  pub cell_list : x.kind ≤ 1 → cell_ok e i ≡ (eqb x.one (operands_before e i) && operands_ok e i x.one x.two)
  cell_list k = cell_rule ∙ rw (le-leb x.kind 1 k) refl

  -- a variable
  pub cell_variable : x.kind ≡ 2 → cell_ok e i ≡ (ltb x.one (sizes_of e).blocks && ltb x.two (sizes_of e).states)
  cell_variable k = cell_rule ∙ rw (lt-leb x.kind 1 (omega arith), eq-eqb x.kind 2 k) refl

  -- no kind
  pub cell_other : 2 < x.kind → cell_ok e i ≡ false
  cell_other k = cell_rule ∙ rw (lt-leb x.kind 1 (omega arith), ne_eqb x.kind 2 (λ q. omega arith)) refl

-- how many operands a list has, and any other cell
pub arity_list : (x : Entry) → x.kind ≤ 1 → arity x ≡ x.two
unfolding arity
arity_list x k = rw (le-leb x.kind 1 k) refl

pub arity_other : (x : Entry) → 1 < x.kind → arity x ≡ 0
unfolding arity
arity_other x k = rw (lt-leb x.kind 1 k) refl

-- the cells from i on: cell i, and those after it
rest_step : (e : List ℕ) (i : ℕ) → i < (sizes_of e).cells → rest_ok e i
    ≡ (cell_ok e i && every (cell_ok e) (drop (i + 1) (numbers_from 0 (sizes_of e).cells)) && eqb (operands_before e (sizes_of e).cells) (sizes_of e).operands)
unfolding every
rest_step e i own =
    let h : i < length (numbers_from 0 (sizes_of e).cells) = omega (arith, length_range 0 (sizes_of e).cells) in
    rw (drop_next (numbers_from 0 (sizes_of e).cells) i 0 i h (range_at (sizes_of e).cells i 0 own)) refl

-- What is found of cell i, whose numbers x have been read, where the lists before it have `used` operands:
module _ {e : List ℕ} {s : Sizes} (r : Read e s) {i used : ℕ} (inside : i < s.cells) (before : used ≡ operands_before e i) (room : used ≤ s.operands)
    {x : Entry} (is : x ≡ entry_at e i) where
  -- the cell is one of the file's
  own : i < (sizes_of e).cells
  own = omega (arith, (counted r.sizes_are).cells)

  -- the operands before the next cell
  next_is : operands_before e (i + 1) ≡ used + arity x
  next_is = before_next e i own ∙ rw (is, ← before) refl

  -- an answer that is its test
  spans : (answer : Bool) (count : ℕ) → answer ≡ cell_ok e i → (answer ≡ true → count ≡ arity x) → (answer ≡ true → used + count ≤ s.operands) → Spans e i used (then_some answer count)
  spans true count a b f = record {
    broken = λ n. absurd (none-some count (sym n));
    holds = λ m q. sym a;
    next = λ m q. omega (arith, b refl, next_is, same_Some count m q);
    fits = λ m q. omega (arith, f refl, same_Some count m q, (counted r.sizes_are).operands);
  }
  spans false count a b f = record {
    broken = λ n. rest_step e i own ∙ rw (sym a) refl;
    holds = λ m q. absurd (none-some m q);
    next = λ m q. absurd (none-some m q);
    fits = λ m q. absurd (none-some m q);
  }

  -- no kind
  pub found_other : 2 < x.kind → Spans e i used None
  found_other k = spans false 0 (sym (cell_other e i is k)) (λ t. absurd (false_true t)) (λ t. absurd (false_true t))

  -- a variable
  pub found_variable : x.kind ≡ 2 → {answer : Bool} → answer ≡ (ltb x.one s.blocks && ltb x.two s.states) → Spans e i used (then_some answer 0)
  found_variable k {answer} a =
      spans answer 0 (a ∙ rw ((counted r.sizes_are).blocks, (counted r.sizes_are).states) (sym (cell_variable e i is k))) (λ t. sym (arity_other x (omega arith))) (λ t. omega arith)

  -- a list that runs past the operand table: the sum of all is then above p
  found_past : x.kind ≤ 1 → s.operands < used + x.two → Spans e i used None
  found_past k h = record {
    broken = λ f. and_false (every (cell_ok e) (drop i (numbers_from 0 (sizes_of e).cells))) _ (ne_eqb (operands_before e (sizes_of e).cells) (sizes_of e).operands (λ q.
        omega (arith, before_grows e (i + 1) (sizes_of e).cells (omega (arith, own)), next_is, arity_list x k, (counted r.sizes_are).operands)));
    holds = λ m q. absurd (none-some m q);
    next = λ m q. absurd (none-some m q);
    fits = λ m q. absurd (none-some m q);
  }

  -- a list
  pub found_list : x.kind ≤ 1 → {answer : Bool} → answer ≡ (eqb x.one used && leb x.two (s.operands - used) && operands_ok e i used x.two) → Spans e i used (then_some answer x.two)
  found_list k {answer} a = by (dec_le x.two (s.operands - used))
    where
      by : Dec (x.two ≤ s.operands - used) → Spans e i used (then_some answer x.two)
      by (yes h) = spans answer x.two (a ∙ rw (le-leb x.two (s.operands - used) h) (starts (ℕ_discrete x.one used))) (λ t. sym (arity_list x k)) (λ t. omega arith)
        where
          starts : Dec (x.one ≡ used) → (eqb x.one used && true && operands_ok e i used x.two) ≡ cell_ok e i
          starts (yes q) = rw (eq-eqb x.one used q) (sym (cell_list e i is k ∙ rw (q, ← before, eq-eqb used used refl) refl))
          starts (no q) = rw (ne_eqb x.one used q) (sym (cell_list e i is k ∙ rw (← before, ne_eqb x.one used q) refl))
      by (no h) = rw (a, lt-leb x.two (s.operands - used) (omega arith), and_false (eqb x.one used) false refl) (found_past k (omega arith))

-- no operands stand before the first cell
pub none_before : (e : List ℕ) → 0 ≡ operands_before e 0
unfolding operands_before sum
none_before e = refl

-- the loop over the cells, at cell i with `used` operands before it
module _ (e : List ℕ) (s : Sizes) (r : Read e s) (i used : ℕ) (before : used ≡ operands_before e i) (left : rest_ok e 0 ≡ rest_ok e i) where
  -- every cell has passed: the lists fill the table if the position is at its end
  pub cells_end : i ≡ s.cells → eqb used s.operands ≡ rest_ok e 0
  unfolding every
  cells_end h =
      let all : i ≡ (sizes_of e).cells = omega (arith, (counted r.sizes_are).cells) in
      let none : drop i (numbers_from 0 (sizes_of e).cells) ≡ [] = drop_of_length-le (numbers_from 0 (sizes_of e).cells) {i = i} (omega (arith, length_range 0 (sizes_of e).cells)) in
      sym (left ∙ rw (none, ← all, ← before, ← (counted r.sizes_are).operands) refl)

  -- cell i keeps its rule
  pub cell_goes_on : {found : Option ℕ} → Spans e i used found → i < s.cells → (count : ℕ) → found ≡ Some count → rest_ok e 0 ≡ rest_ok e (i + 1)
  cell_goes_on f h count t = left ∙ rest_step e i (omega (arith, (counted r.sizes_are).cells)) ∙ rw (f.holds count t) refl
