-- What solving from block 0 gives: the solution of all blocks and the rounds that the definitions give.
use mathlib.Core.Path.{◌≡◌, sym, ap, subst, fun_ext, ◌∙◌}
use mathlib.Core.Bool.{Bool, false, ◌&&◌}
use mathlib.Core.List.{List, [], map}
use Prim.Native.Nat.{ℕ, zero, suc, ◌+◌, ◌-◌, ◌<◌, ◌≤◌}
use native.Mathlib.Omega.{arith}
use native.Mathlib.Decide.{ℕ_discrete, dec_lt}
use lib.Dec.{ltb}
use lib.ListN.{length, get_or, set, replicate, length-replicate, get_or-replicate, length-map, get_or-map}
use lib.Seq.{ext_get_or, get_or-set_same, get_or-set_other}
use borrow.Author.Tests.{lt-ltb, le-ltb}
use Rattle.sets.specs.States.{start, update, all_empty, Sized}
use Rattle.sets.specs.Words.{words, bit, word_count}
use Rattle.solver.specs.computed.Solved.{evaluate, Reached, solved, run}
use Rattle.solver.specs.File.{sizes_of, blocks, block_at, cells, block_limit}
use Rattle.solver.specs.Conditions.{WellFormed}
use Rattle.solver.specs.internal.Working.{OpenFile, Ready, HoldsRows, Shows, CellsValued, SolvesFrom, TooMany, Settled, IsFound, Started, starting}
use Rattle.solver.specs.declared.Sizes.{Sizes}
use Rattle.solver.proofs.Tables.{length_blocks, length_cells, counted}
use Rattle.solver.proofs.Reading.{layout_facts, opens_read}
use Rattle.solver.proofs.WellFormed.{ordered}
use Rattle.solver.proofs.Values.{evaluate_values}
use Rattle.sets.proofs.Valuation.{update_same, update_other}
use Rattle.solver.proofs.Solving.{solves}
use Rattle.solver.proofs.Starts.{Agree, own_named, own_inside, solved_start, evaluate_start}
use Rattle.solver.proofs.Sides.{holds_update}
use Rattle.solver.proofs.Turns.{first}

-- ---- where the blocks start

-- a block that has its turn starts by its sign, another is empty
starting_in : (e : List ℕ) (k j : ℕ) → j < k → starting e k j ≡ first e j
unfolding starting
starting_in e k j h = rw (lt-ltb j k h)

starting_out : (e : List ℕ) (k j : ℕ) → k ≤ j → starting e k j ≡ start (sizes_of e).states false
unfolding starting
starting_out e k j h = rw (le-ltb j k h)

starting_sized : (e : List ℕ) (k : ℕ) → Sized (sizes_of e).states (starting e k)
unfolding starting
starting_sized e k j = length-replicate (sizes_of e).states (ltb j k && (block_at e j).sign)

-- one block more
starting_more : (e : List ℕ) (k : ℕ) → update (starting e k) k (first e k) ≡ starting e (k + 1)
starting_more e k = fun_ext λ j. by j (ℕ_discrete j k)
  where
    by : (j : ℕ) → Dec (j ≡ k) → update (starting e k) k (first e k) j ≡ starting e (k + 1) j
    by j (yes q) = rw q (update_same (starting e k) k (first e k) ∙ sym (starting_in e (k + 1) k (omega arith)))
    by j (no q) = update_other (starting e k) k (first e k) j q ∙ side (dec_lt j k)
      where
        side : Dec (j < k) → starting e k j ≡ starting e (k + 1) j
        side (yes h) = starting_in e k j h ∙ sym (starting_in e (k + 1) j (omega arith))
        side (no h) = starting_out e k j (omega arith) ∙ sym (starting_out e (k + 1) j (omega (arith, q)))

-- no block, one more, all of them
pub none_started : (e : List ℕ) {row : List ℕ} → row ≡ words word_count (start (sizes_of e).states false) → HoldsRows (sizes_of e).states (replicate block_limit row) (starting e 0)
none_started e {row} is = record {
  sized = starting_sized e 0;
  row = λ k h. get_or-replicate block_limit k row [] h ∙ is ∙ ap (words word_count) (sym (starting_out e 0 k (omega arith)));
}

pub more_started : (e : List ℕ) {k : ℕ} {rows : List (List ℕ)} {row : List ℕ} → HoldsRows (sizes_of e).states rows (starting e k) → k < length rows → row ≡ words word_count (first e k)
    → HoldsRows (sizes_of e).states (set rows k row) (starting e (k + 1))
more_started e {k} {rows} {row} h l is =
    subst (HoldsRows (sizes_of e).states (set rows k row)) (starting_more e k)
    (holds_update h k (first e k) (length-replicate (sizes_of e).states (block_at e k).sign) (get_or-set_same rows k row [] l ∙ is) (λ j n. get_or-set_other rows k j row [] n))

pub all_started : {e : List ℕ} {sizes : Sizes} {rows : List (List ℕ)} → OpenFile e sizes → HoldsRows (sizes_of e).states rows (starting e (sizes_of e).blocks) → Started e 0 rows
all_started {e} o h = record {
  row = λ j g b. h.row j (omega (arith, (opens_read o).counts.few_blocks, (counted o.counts).blocks)) ∙ ap (words word_count) (starting_in e (sizes_of e).blocks j b);
}

-- ---- what is reached from there

-- the solution of all blocks, and the rounds
abbrev reached : List ℕ → Reached
reached e = solved (sizes_of e).states (cells e) (blocks e) 0 (starting e (sizes_of e).blocks)

reaches : (e : List ℕ) → WellFormed e → SolvesFrom e 0 (starting e (sizes_of e).blocks) (reached e).0 (reached e).1
unfolding SolvesFrom
reaches e f = solves (sizes_of e).states (cells e) (ordered e f) (blocks e) (own_inside f) 0 (starting e (sizes_of e).blocks) (starting_sized e (sizes_of e).blocks)

-- it is what the definition computes, which starts from empty sets
as_run : (e : List ℕ) → WellFormed e → Agree (sizes_of e).blocks (reached e).0 (run e).0 × ((reached e).1 ≡ (run e).1)
unfolding run
as_run e f = solved_start (sizes_of e).states (sizes_of e).blocks (cells e) (own_named f) (blocks e) 0 (omega (arith, length_blocks e)) (starting e (sizes_of e).blocks) (all_empty (sizes_of e).states) (λ j l. absurd (omega arith))

-- bytes that show values
shown : (vs : List Bool) (work : List ℕ) → length work ≡ length vs → Shows vs 0 work → work ≡ map bit vs
shown vs work l s = ext_get_or 0 work (map bit vs) (l ∙ sym (length-map vs bit)) λ j h.
    s.byte j (omega arith) (omega arith) ∙ sym (get_or-map bit vs j false)

module _ {e : List ℕ} (f : WellFormed e) {limit : ℕ} {rows : List (List ℕ)} (h : HoldsRows (sizes_of e).states rows (starting e (sizes_of e).blocks)) where
  pub ran_spent : TooMany e rows 0 limit → limit < (run e).1
  ran_spent s = omega (arith, s.over (starting e (sizes_of e).blocks) (reached e).0 (reached e).1 h (reaches e f), (as_run e f).1)

  pub ran : {after : List (List ℕ)} {left : ℕ} {bytes : List ℕ} → Settled e rows 0 limit after left → CellsValued e after 0 bytes →
      IsFound e limit bytes (record { row = get_or after 0 []; rounds = limit - left })
  ran {bytes = bytes} s d =
      let r = s.right (starting e (sizes_of e).blocks) (reached e).0 (reached e).1 h (reaches e f) in
      let a = as_run e f in
      let v = evaluate_values (cells e) (ordered e f) (reached e).0 in
      record {
        within = omega (arith, r.0, a.1);
        counted = omega (arith, r.0, a.1);
        first = r.1.row 0 (omega arith) ∙ ap (words word_count) (a.0 0 (layout_facts e f.layout).counts.some_block);
        values =
            shown (evaluate (cells e) (reached e).0) bytes (d.ready.room ∙ sym (v.sized ∙ length_cells e)) (d.right (reached e).0 (evaluate (cells e) (reached e).0) r.1 v)
            ∙ ap (map bit) (evaluate_start (sizes_of e).blocks (reached e).0 (run e).0 a.0 (cells e) (own_named f));
      }

-- zeros are working bytes
pub cleared_ready : {e : List ℕ} {m : ℕ} {after : List ℕ} → m ≡ (sizes_of e).cells → after ≡ replicate m 0 → Ready e after
cleared_ready {m = m} l is = record {
  room = ap length is ∙ length-replicate m 0 ∙ l;
  bits = λ i. rw is (low m i);
}
  where
    low : (n i : ℕ) → get_or (replicate n 0) i 0 ≤ 1
    low zero i = omega arith
    low (suc n) zero = omega arith
    low (suc n) (suc i) = low n i
