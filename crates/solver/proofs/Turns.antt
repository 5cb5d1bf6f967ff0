-- What a round, and the loop over a block's rounds, give: the code's sets, rounds left and answer beside the rule's.
use mathlib.Core.Path.{◌≡◌, refl, sym, ap, subst, ◌∙◌}
use mathlib.Core.List.{List, [], ◌∷◌}
use Prim.Native.Nat.{ℕ, suc, ◌+◌, ◌-◌, ◌<◌, ◌≤◌}
use native.Mathlib.Omega.{arith}
use native.Mathlib.Numerals.{add-one}
use lib.ListN.{length, get_or, set, drop, drop_of_length-le, length-replicate}
use lib.Seq.{drop-cons, get_or-set_same, get_or-set_other}
use Rattle.sets.specs.States.{States, start, Valuation, update}
use Rattle.sets.specs.Loop.{Step, Loop}
use Rattle.sets.specs.Words.{words, word_count}
use Rattle.sets.proofs.Turns.{Left, turn, stops_here, goes_on as goes_further}
use Rattle.sets.proofs.Words.{words_inj}
use Rattle.solver.specs.File.{Block, sizes_of, blocks, block_at, cells, block_limit}
use Rattle.solver.specs.Solution.{Solves}
use Rattle.solver.specs.internal.Working.{OpenFile, HoldsRows, Started, SolvesFrom, RightSidesOf, Applied, TooMany, Settled, TooManyInRound, RoundCounted, IsStable, IsReplaced}
use Rattle.solver.specs.declared.Sizes.{Sizes}
use Rattle.solver.proofs.Tables.{length_blocks, block_at_lem, counted}
use Rattle.solver.proofs.Reading.{opens_read, few_blocks, own_block}
use Rattle.sets.proofs.Valuation.{update_same}
use Rattle.solver.proofs.Sides.{sides_sized, holds_update}

-- ---- the rule, block by block

-- one turn of block k's loop, with the sets ρ of the blocks before it
abbrev pub Turn : List ℕ → ℕ → Valuation → Step Valuation
Turn e k ρ u τ w q = SolvesFrom e (k + 1) (update ρ k u) τ q × RightSidesOf e k τ w

abbrev pub first : List ℕ → ℕ → States
first e k = start (sizes_of e).states (block_at e k).sign

pub from_none : (e : List ℕ) (k : ℕ) {ρ σ : Valuation} {r : ℕ} → (sizes_of e).blocks ≤ k → SolvesFrom e k ρ σ r → (σ ≡ ρ) × (r ≡ 0)
unfolding SolvesFrom Solves
from_none e k {ρ} {σ} {r} h s =
    subst (λ (bs : List Block). Solves (sizes_of e).states (cells e) bs k ρ σ r) (drop_of_length-le (blocks e) {i = k} (omega (arith, length_blocks e))) s

pub from_block : (e : List ℕ) (k : ℕ) (ρ σ : Valuation) (r : ℕ) → k < (sizes_of e).blocks → SolvesFrom e k ρ σ r → Loop (Turn e k ρ) (first e k) σ r
unfolding SolvesFrom Solves
from_block e k ρ σ r h s = subst Later (sym (add-one k)) (subst (λ (bs : List Block). Solves (sizes_of e).states (cells e) bs k ρ σ r) split s)
  where
    Later : ℕ → Type 0
    Later j = Loop (λ u τ w q. Solves (sizes_of e).states (cells e) (drop j (blocks e)) j (update ρ k u) τ q × RightSidesOf e k τ w) (first e k) σ r

    split : drop k (blocks e) ≡ block_at e k ∷ drop (suc k) (blocks e)
    split =
        drop-cons (blocks e) k (block_at e k) (omega (arith, length_blocks e))
        ∙ ap (λ (b : Block). b ∷ drop (suc k) (blocks e)) (block_at_lem e k (block_at e k) h)

-- ---- one round

module _ {e : List ℕ} {rows inner : List (List ℕ)} {k budget budget_inner : ℕ} (s : Settled e rows (k + 1) budget inner budget_inner) where
  module _ {sizes : Sizes} (o : OpenFile e sizes) (b : k < sizes.blocks) {work : List ℕ} {next : List (List ℕ)} (a : Applied e inner k work next) where
    row_is : (ρ τ : Valuation) (q : ℕ) (w : States) → HoldsRows (sizes_of e).states rows ρ → SolvesFrom e (k + 1) ρ τ q → RightSidesOf e k τ w → get_or next k [] ≡ words word_count w
    row_is ρ τ q w h t r = (a.right τ w (s.right ρ τ q h t).1 r).row k (few_blocks o b) ∙ ap (words word_count) (update_same τ k w)

    module _ {budget_after : ℕ} (one : budget_inner ≡ budget_after + 1) where
      one_counted : RoundCounted e rows k budget budget_after
      one_counted = record {
        low = omega (arith, s.low);
        counted = λ ρ τ q h f. omega (arith, (s.right ρ τ q h f).0);
      }

      pub is_stable : get_or next k [] ≡ get_or rows k [] → IsStable e rows k budget inner budget_after
      is_stable is = record {
        round = one_counted;
        kept = λ ρ τ q h t. (s.right ρ τ q h t).1;
        same = λ ρ τ q w h t r.
            let z = sides_sized e k o.formed (own_block o b) r in
            words_inj word_count w (ρ k) (z ∙ sym (h.sized k)) (omega (arith, (opens_read o).counts.few_states, (counted o.counts).states)) (sym (row_is ρ τ q w h t r) ∙ is ∙ h.row k (few_blocks o b));
      }

      pub is_replaced : ¬ (get_or next k [] ≡ get_or rows k []) → IsReplaced e rows k budget next budget_after
      is_replaced is = record {
        round = one_counted;
        differs = λ ρ τ q w h t r. (
          row_is ρ τ q w h t r,
          λ x. is (row_is ρ τ q w h t r ∙ ap (words word_count) x ∙ sym (h.row k (few_blocks o b))),
        );
      }

-- ---- the loop

-- the rows hold a set for block k, beside ρ
abbrev pub Beside : List ℕ → ℕ → Valuation → List (List ℕ) → States → Type 0
Beside e k ρ rows v = HoldsRows (sizes_of e).states rows (update ρ k v)

-- at the head of block k's loop: the rows `now` are turned, and the later blocks are where they start
pub record Going (e : List ℕ) (rows : List (List ℕ)) (k budget₀ : ℕ) (now : List (List ℕ)) (budget : ℕ) : Type 0 where
  pub low : budget ≤ budget₀
  pub later : Started e (k + 1) now
  pub left : (ρ σ : Valuation) (r : ℕ) → HoldsRows (sizes_of e).states rows ρ → Loop (Turn e k ρ) (first e k) σ r → Left (Turn e k ρ) (Beside e k ρ now) σ (budget₀ - budget) r

-- no blocks: no change
pub unchanged : {e : List ℕ} {rows : List (List ℕ)} {k budget : ℕ} → (sizes_of e).blocks ≤ k → Settled e rows k budget rows budget
unchanged {e} {rows} {k} h = record {
  low = omega arith;
  right = λ ρ σ r holds s.
      let z = from_none e k h s in
      (omega (arith, z.1), subst (HoldsRows (sizes_of e).states rows) (sym z.0) holds);
}

pub begins : {e : List ℕ} {rows : List (List ℕ)} {k budget : ℕ} → k < (sizes_of e).blocks → Started e k rows → Going e rows k budget rows budget
begins {e} {k = k} b s = record {
  low = omega arith;
  later = record { row = λ j h. s.row j (omega arith) };
  left = λ ρ σ r holds run. record {
    now = first e k;
    known = holds_update holds k (first e k) (length-replicate (sizes_of e).states (block_at e k).sign) (s.row k (omega arith) b) (λ j n. refl);
    rest = r;
    run = run;
    sum = omega arith;
  };
}

module _ {e : List ℕ} {sizes : Sizes} {rows now : List (List ℕ)} {k budget₀ budget : ℕ} (o : OpenFile e sizes) (b : k < sizes.blocks) (g : Going e rows k budget₀ now budget) where
  pub out_of_rounds : TooManyInRound e now k budget → TooMany e rows k budget₀
  out_of_rounds t = record {
    over = λ ρ σ r h s.
        let m = g.left ρ σ r h (from_block e k ρ σ r (own_block o b) s) in
        let y = turn m.run in
        omega (arith, t.over (update ρ k m.now) y.held y.took m.known y.step.0, y.less, m.sum, g.low);
  }

  module _ {after : List (List ℕ)} {budget_after : ℕ} where
    -- the loop stops where the set is stable
    pub stopped : IsStable e now k budget after budget_after → Settled e rows k budget₀ after budget_after
    stopped t = record {
      low = omega (arith, t.round.low, g.low);
      right = λ ρ σ r h s.
          let y = g.left ρ σ r h (from_block e k ρ σ r (own_block o b) s) in
          let x = stops_here (λ τ w q f. t.same (update ρ k y.now) τ q w y.known f.0 f.1 ∙ update_same ρ k y.now) y.run in
          (omega (arith, t.round.counted (update ρ k y.now) σ x.took y.known x.step.0, x.sum, y.sum, g.low), t.kept (update ρ k y.now) σ x.took y.known x.step.0);
    }

    -- it goes on from the set that was put in place, with the later blocks where they start
    pub goes_on : IsReplaced e now k budget after budget_after → length rows ≡ block_limit → Started e k rows → Going e rows k budget₀ (set rows k (get_or after k [])) budget_after
    goes_on t l s = record {
      low = omega (arith, t.round.low, g.low);
      later = record { row = λ j h d. get_or-set_other rows k j (get_or after k []) [] (λ q. omega arith) ∙ s.row j (omega arith) d };
      left = λ ρ σ r h run.
          let y = g.left ρ σ r h run in
          let other : (τ : Valuation) (w : States) (q : ℕ) → Turn e k ρ y.now τ w q → (get_or after k [] ≡ words word_count w) × ¬ (w ≡ update ρ k y.now k) =
          λ τ w q f. t.differs (update ρ k y.now) τ q w y.known f.0 f.1 in
          let x = goes_further (λ τ w q f d. (other τ w q f).1 (d ∙ sym (update_same ρ k y.now))) y.run in
          record {
            now = x.next;
            known = holds_update h k x.next (sides_sized e k o.formed (own_block o b) x.step.1)
                (get_or-set_same rows k (get_or after k []) [] (rw l (few_blocks o b)) ∙ (other x.held x.next x.took x.step).0)
                (λ j n. get_or-set_other rows k j (get_or after k []) [] n);
            rest = x.rest;
            run = x.run;
            sum = omega (arith, t.round.counted (update ρ k y.now) x.held x.took y.known x.step.0, x.sum, y.sum, g.low);
          };
    }
