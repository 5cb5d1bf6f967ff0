-- A block's right-hand sides, put in place of its set state by state, from the last down.
use mathlib.Core.Path.{◌≡◌, refl, ap, sym, ◌∙◌}
use mathlib.Core.Bool.{Bool, false}
use mathlib.Core.List.{List, [], ◌∷◌, ◌++◌, append_assoc, append-nil}
use Prim.Native.Nat.{ℕ, suc, ◌+◌, ◌<◌, ◌≤◌}
use native.Mathlib.Omega.{arith}
use native.Mathlib.Numerals.{add-one}
use native.Mathlib.Decide.{ℕ_discrete}
use lib.ListN.{length, get_or, set, take, drop, length-append, length-drop, drop_of_length-le, length-set}
use lib.Seq.{take-suc, take_all, drop-cons, length-take-le, set_at, get_or-take, get_or-drop, get_or-set_same, get_or-set_other}
use Rattle.sets.specs.States.{States, Valuation, update}
use Rattle.sets.specs.Words.{words, bit, word_count}
use Rattle.solver.specs.File.{sizes_of, block_at, block_limit}
use Rattle.solver.specs.Conditions.{WellFormed}
use Rattle.solver.specs.internal.Working.{OpenFile, HoldsRows, Valued, CellsValued, RightSidesOf, Applied}
use Rattle.solver.specs.declared.Sizes.{Sizes}
use Rattle.solver.proofs.Tables.{counted, length_cells}
use Rattle.solver.proofs.Reading.{few_blocks, own_block}
use Rattle.solver.proofs.WellFormed.{block_kept}
use Rattle.solver.proofs.Values.{length_part}
use Rattle.solver.proofs.Shown.{evaluated_more}
use Rattle.sets.proofs.Valuation.{update_same, update_other}

-- ---- the sets of all blocks

-- the right-hand sides of a block are a set of the file's states
pub sides_sized : (e : List ℕ) (k : ℕ) {σ : Valuation} {w : States} → WellFormed e → k < (sizes_of e).blocks → RightSidesOf e k σ w → length w ≡ (sizes_of e).states
sides_sized e k f h s =
    ap length s.are ∙ length_part (sizes_of e).states (block_at e k).first s.values (omega (arith, block_kept e f k h, s.each.sized, length_cells e))

-- rows that hold v for block k, and for the others what was held
pub holds_update : {n : ℕ} {rows after : List (List ℕ)} {ρ : Valuation} → HoldsRows n rows ρ → (k : ℕ) (v : States) → length v ≡ n → get_or after k [] ≡ words word_count v →
    ((j : ℕ) → ¬ (j ≡ k) → get_or after j [] ≡ get_or rows j []) → HoldsRows n after (update ρ k v)
holds_update {n} {rows} {after} {ρ} h k v s e f = record { sized = λ j. long j (ℕ_discrete j k); row = λ j b. at j b (ℕ_discrete j k) }
  where
    long : (j : ℕ) → Dec (j ≡ k) → length (update ρ k v j) ≡ n
    long j (yes q) = rw (q, update_same ρ k v) s
    long j (no q) = rw (update_other ρ k v j q) (h.sized j)

    at : (j : ℕ) → j < block_limit → Dec (j ≡ k) → get_or after j [] ≡ words word_count (update ρ k v j)
    at j b (yes q) = rw (q, update_same ρ k v) e
    at j b (no q) = rw (update_other ρ k v j q, f j q) (h.row j b)

-- ---- the states that are replaced

-- the first s states of v, and the others of w
abbrev mixed : ℕ → States → States → States
mixed s v w = take s v ++ drop s w

mixed_long : (s : ℕ) (v w : States) → s ≤ length v → length w ≡ length v → length (mixed s v w) ≡ length v
mixed_long s v w h l = length-append (take s v) (drop s w) ∙ rw (length-take-le s v h, length-drop s w) (omega arith)

-- the state of w is put at s
mixed_more : (s : ℕ) (v w : States) → s < length v → length w ≡ length v → set (mixed (s + 1) v w) s (get_or w s false) ≡ mixed s v w
mixed_more s v w h l =
    let x : Bool = get_or w s false in
    ap (λ (i : ℕ). set (mixed i v w) s x) (add-one s)
    ∙ ap (λ (u : States). set (u ++ drop (suc s) w) s x) (take-suc v s false h)
    ∙ ap (λ (u : States). set u s x) (append_assoc (take s v) (get_or v s false ∷ []) (drop (suc s) w))
    ∙ set_at (take s v) (get_or v s false) (drop (suc s) w) x s (length-take-le s v (omega arith))
    ∙ ap (λ (u : States). take s v ++ u) (sym (drop-cons w s false (omega arith)))

-- a block of an opened file, and its first cell
pub record BlockOf (e : List ℕ) (sizes : Sizes) (k first : ℕ) : Type 0 where
  pub opens : OpenFile e sizes
  pub has : k < sizes.blocks
  pub is : first ≡ (block_at e k).first

-- it has a cell for each state, and its right-hand sides are a set of the file's states
module _ {e : List ℕ} {sizes : Sizes} {k first : ℕ} (b : BlockOf e sizes k first) where
  pub block_fits : first + sizes.states ≤ sizes.cells
  block_fits =
      let n = counted b.opens.counts in
      omega (arith, block_kept e b.opens.formed k (own_block b.opens b.has))

  block_sides : {σ : Valuation} {w : States} → RightSidesOf e k σ w → length w ≡ (sizes_of e).states
  block_sides s = sides_sized e k b.opens.formed (own_block b.opens b.has) s

-- With s states left: the cells from that of state s on are worked out under `rows`, and in `next` the states from s on are replaced.
pub record Replacing (e : List ℕ) (sizes : Sizes) (rows : List (List ℕ)) (k first s : ℕ) (work : List ℕ) (next : List (List ℕ)) : Type 0 where
  pub block : BlockOf e sizes k first
  pub left : s ≤ sizes.states
  pub long : length next ≡ block_limit
  pub worked : CellsValued e rows (first + s) work
  pub others : (j : ℕ) → ¬ (j ≡ k) → get_or next j [] ≡ get_or rows j []
  pub own : (σ : Valuation) (w : States) → HoldsRows (sizes_of e).states rows σ → RightSidesOf e k σ w → get_or next k [] ≡ words word_count (mixed s (σ k) w)

module _ {e : List ℕ} {sizes : Sizes} {rows : List (List ℕ)} {k first : ℕ} where
  -- no state is replaced yet
  pub replacing_none : {work : List ℕ} → BlockOf e sizes k first → length rows ≡ block_limit → CellsValued e rows (first + sizes.states) work →
      Replacing e sizes rows k first sizes.states work rows
  replacing_none b l d =
      let n : sizes.states ≡ (sizes_of e).states = (counted b.opens.counts).states in
      record {
        block = b;
        left = omega arith;
        long = l;
        worked = d;
        others = λ j q. refl;
        own = λ σ w h r.
            h.row k (few_blocks b.opens b.has)
            ∙ ap (words word_count)
            (sym (ap (λ (u : States). u ++ drop sizes.states w) (take_all sizes.states (σ k) (omega (arith, h.sized k)))
            ∙ ap (λ (u : States). σ k ++ u) (drop_of_length-le w {i = sizes.states} (omega (arith, block_sides b r)))
            ∙ append-nil (σ k)));
      }

  -- The right-hand side of state s is put in place: it is the value of cell first + s under `rows`.
  module _ {s v : ℕ} {answer : Bool} {work row : List ℕ} {next : List (List ℕ)} (r : Replacing e sizes rows k first (s + 1) work next) (x : Valued e rows (first + s) work answer)
      (is : v ≡ bit answer) (put : (u : States) → s < length u → get_or next k [] ≡ words word_count u → row ≡ words word_count (set u s answer)) where
    up : CellsValued e rows (first + s + 1) work
    up =
        let a : first + (s + 1) ≡ first + s + 1 = omega arith in
        rw a at r.worked

    inside : s < (sizes_of e).states
    inside = omega (arith, (counted r.block.opens.counts).states)

    side : (σ : Valuation) (w : States) → HoldsRows (sizes_of e).states rows σ → RightSidesOf e k σ w → answer ≡ get_or w s false
    side σ w holds t =
        x.right σ t.values holds t.each (up.right σ t.values holds t.each)
        ∙ sym (ap (λ (u : States). get_or u s false) t.are
        ∙ get_or-take (sizes_of e).states (drop (block_at e k).first t.values) s false inside
        ∙ get_or-drop (block_at e k).first t.values s false
        ∙ ap (λ (i : ℕ). get_or t.values (i + s) false) (sym r.block.is))

    pub replacing_more : Replacing e sizes rows k first s (set work (first + s) v) (set next k row)
    replacing_more = record {
      block = r.block;
      left = omega arith;
      long = length-set next k row ∙ r.long;
      worked = evaluated_more up (omega (arith, block_fits r.block, (counted r.block.opens.counts).cells)) x is;
      others = λ j q. get_or-set_other next k j row [] q ∙ r.others j q;
      own = λ σ w holds t.
          let a : length (σ k) ≡ (sizes_of e).states = holds.sized k in
          let z : length w ≡ length (σ k) = block_sides r.block t ∙ sym a in
          get_or-set_same next k row [] (omega (arith, few_blocks r.block.opens r.block.has))
          ∙ put (mixed (s + 1) (σ k) w) (omega (arith, inside, mixed_long (s + 1) (σ k) w (omega (arith, inside)) z)) (r.own σ w holds t)
          ∙ ap (λ (y : Bool). words word_count (set (mixed (s + 1) (σ k) w) s y)) (side σ w holds t)
          ∙ ap (words word_count) (mixed_more s (σ k) w (omega (arith, inside)) z);
    }

  -- all states are replaced
  pub replacing_all : {s : ℕ} {work : List ℕ} {next : List (List ℕ)} → Replacing e sizes rows k first s work next → s ≡ 0 → Applied e rows k work next
  replacing_all {s} {work} {next} r z = record {
    ready = r.worked.ready;
    right = λ σ w holds t. holds_update holds k w (block_sides r.block t) (r.own σ w holds t ∙ ap (λ (i : ℕ). words word_count (mixed i (σ k) w)) z) r.others;
  }
