-- The start valuation does not matter: where the cells name only blocks below d, solving all d blocks depends on no start.
-- So what solve works out stands for every solution of a well-formed file.
use mathlib.Core.Path.{◌≡◌, refl, ap, ap₂, fun_ext, ◌∙◌}
use mathlib.Core.Bool.{Bool, false}
use mathlib.Core.List.{List, [], ◌∷◌}
use Prim.Native.Nat.{ℕ, zero, suc, ◌+◌, ◌≤◌, ◌<◌}
use native.Mathlib.Omega.{arith}
use native.Mathlib.Decide.{ℕ_discrete}
use lib.ListN.{length, get_or, set, replicate, length-replicate}
use Rattle.sets.specs.States.{States, start, Valuation, update, all_empty, Sized}
use Rattle.sets.specs.computed.Iteration.{Worked, repeated}
use Rattle.solver.specs.Cells.{Cell, And, Or, Variable, value, Values, part}
use Rattle.solver.specs.computed.Solved.{work_out, evaluate, solved, run}
use Rattle.solver.specs.File.{sizes_of, Block, blocks, operands, entry_cell, cells}
use Rattle.solver.specs.internal.Forms.{Inside}
use Rattle.solver.specs.Conditions.{WellFormed}
use Rattle.solver.specs.Solution.{Solution, Solves, powers}
use Rattle.solver.specs.Outcome.{FileRounds}
use Rattle.solver.proofs.Tables.{length_blocks, length_cells, cell_at_lem}
use Rattle.solver.proofs.Reading.{layout_facts}
use Rattle.solver.proofs.WellFormed.{inside, ordered, cell_kept}
use Rattle.solver.proofs.Values.{evaluate_values, values_one}
use Rattle.sets.proofs.Valuation.{update_same, update_other}
use Rattle.solver.proofs.Solving.{turn, looped, solves, solution_one, solves_one, solved_sized, rounds_bound}

-- two valuations have the same sets for the blocks below d
abbrev pub Agree : ℕ → Valuation → Valuation → Type 0
Agree d ρ σ = (k : ℕ) → k < d → ρ k ≡ σ k

-- a cell that is a variable names a block below d
unfoldable pub Names : ℕ → Cell → Type 0
Names d (And os) = Unit {0}
Names d (Or os) = Unit {0}
Names d (Variable k s) = k < d

-- and so for each cell
abbrev pub Named : ℕ → List Cell → Type 0
Named d cs = (i : ℕ) → i < length cs → Names d (get_or cs i (And []))

-- Values depend only on the blocks that the cells name.
module _ (d : ℕ) (ρ σ : Valuation) (agree : Agree d ρ σ) where
  value_start : (vs : List Bool) (c : Cell) → Names d c → value ρ vs c ≡ value σ vs c
  unfolding Names value
  value_start vs (And os) h = refl
  value_start vs (Or os) h = refl
  value_start vs (Variable k s) h = ap (λ (v : States). get_or v s false) (agree k h)

  module _ (cs : List Cell) (named : Named d cs) where
    work_out_start : (i : ℕ) (vs : List Bool) → i ≤ length cs → work_out cs ρ i vs ≡ work_out cs σ i vs
    unfolding work_out
    work_out_start zero vs h = refl
    work_out_start (suc i) vs h =
        ap (λ (x : Bool). work_out cs ρ i (set vs i x)) (value_start vs (get_or cs i (And [])) (named i (omega arith)))
        ∙ work_out_start i _ (omega arith)

    pub evaluate_start : evaluate cs ρ ≡ evaluate cs σ
    unfolding evaluate
    evaluate_start = work_out_start (length cs) (replicate (length cs) false) (omega arith)

-- Valuations that agree below k agree below k + 1 once block k has the same set.
update_agree : (k : ℕ) (ρ σ : Valuation) (v : States) → Agree k ρ σ → Agree (suc k) (update ρ k v) (update σ k v)
update_agree k ρ σ v agree j h = go (ℕ_discrete j k)
  where
    go : Dec (j ≡ k) → update ρ k v j ≡ update σ k v j
    go (yes q) = rw (q, update_same ρ k v, update_same σ k v)
    go (no q) = rw (update_other ρ k v j q, update_other σ k v j q) (agree j (omega (arith, q)))

-- Solving the blocks from k to d - 1 depends only on the sets of the blocks below k, in sets of blocks below d and in rounds.
module _ (n d : ℕ) (cs : List Cell) (named : Named d cs) where
  -- the same is reached from two starts
  abbrev Alike : List Block → ℕ → Valuation → Valuation → Type 0
  Alike bs k ρ σ = Agree d (solved n cs bs k ρ).0 (solved n cs bs k σ).0 × ((solved n cs bs k ρ).1 ≡ (solved n cs bs k σ).1)

  -- then each turn of the block before is the same, and so is its loop
  looped_start : (b : Block) (bs : List Block) (k : ℕ) (ρ σ : Valuation)
      → ((v : States) → Alike bs (suc k) (update ρ k v) (update σ k v))
      → looped n cs b bs k ρ ≡ looped n cs b bs k σ
  unfolding turn
  looped_start b bs k ρ σ alike = ap (λ (f : States → Worked). repeated (suc n) f (start n b.sign)) (fun_ext λ v.
      ap₂ (λ (vs : List Bool) (r : ℕ). (part n b.first vs, r)) (evaluate_start d _ _ (alike v).0 cs named) (alike v).1)

  pub solved_start : (bs : List Block) (k : ℕ) → k + length bs ≡ d → (ρ σ : Valuation) → Agree k ρ σ → Alike bs k ρ σ
  unfolding solved turn
  solved_start [] k e ρ σ agree = (λ j h. agree j (omega arith), refl)
  solved_start (b ∷ bs) k e ρ σ agree =
      let alike : (v : States) → Alike bs (suc k) (update ρ k v) (update σ k v) = λ v. solved_start bs (suc k) (omega arith) (update ρ k v) (update σ k v) (update_agree k ρ σ v agree) in
      let same = looped_start b bs k ρ σ alike in (
        λ j h. (alike (looped n cs b bs k ρ).0).0 j h ∙ ap (λ (x : Worked). (solved n cs bs (suc k) (update σ k x.0)).0 j) same,
        ap (λ (x : Worked). x.1) same,
      )

-- a cell of kind 2 at most that names a block below d where it is a variable
cell_names : (d : ℕ) (ops : List ℕ) (kind x y : ℕ) → kind ≤ 2 → (kind ≡ 2 → x < d) → Names d (entry_cell ops kind x y)
unfolding Names entry_cell
cell_names d ops zero x y h g = tt
cell_names d ops (suc zero) x y h g = tt
cell_names d ops (suc (suc kind)) x y h g = g (omega arith)

-- Of a well-formed file:
module _ {e : List ℕ} (w : WellFormed e) where
  -- the cells name only its own blocks
  pub own_named : Named (sizes_of e).blocks (cells e)
  own_named i h =
      let low : i < (sizes_of e).cells = omega (arith, length_cells e) in
      let s = cell_kept e w i low in
      rw (cell_at_lem e i low) (cell_names (sizes_of e).blocks (operands e) _ _ _ s.kinds (λ k. (s.variable k).0))

  -- each block has its cells
  pub own_inside : Inside (sizes_of e).states (length (cells e)) (blocks e)
  own_inside = rw (length_cells e) (inside e w)

  -- a solution from any start agrees with what solve works out on the file's own blocks
  pub own_agree : (ρ σ : Valuation) → Sized (sizes_of e).states ρ → Solution (sizes_of e).states (cells e) (blocks e) 0 ρ σ → Agree (sizes_of e).blocks σ (run e).0
  unfolding run
  own_agree ρ σ r m k h =
      ap (λ (τ : Valuation). τ k) (solution_one (sizes_of e).states (cells e) (ordered e w) (blocks e) own_inside 0 ρ r σ m)
      ∙ (solved_start (sizes_of e).states (sizes_of e).blocks (cells e) own_named (blocks e) 0 (omega (arith, length_blocks e)) ρ (all_empty (sizes_of e).states) (λ j l. absurd (omega arith))).0 k h

  -- so it has the same set for the first block
  pub own_first : (ρ σ : Valuation) → Sized (sizes_of e).states ρ → Solution (sizes_of e).states (cells e) (blocks e) 0 ρ σ → σ 0 ≡ (run e).0 0
  own_first ρ σ r m = own_agree ρ σ r m 0 (layout_facts e w.layout).counts.some_block

  -- and the same values of the cells
  pub own_values : (ρ σ : Valuation) → Sized (sizes_of e).states ρ → Solution (sizes_of e).states (cells e) (blocks e) 0 ρ σ
      → (vs : List Bool) → Values (cells e) σ vs → vs ≡ evaluate (cells e) (run e).0
  own_values ρ σ r m vs v =
      values_one (cells e) (ordered e w) σ vs (evaluate (cells e) σ) v (evaluate_values (cells e) (ordered e w) σ)
      ∙ evaluate_start (sizes_of e).blocks σ (run e).0 (own_agree ρ σ r m) (cells e) own_named

  -- solving with no limit, from all sets empty, reaches what solve works out
  pub own_solves : Solves (sizes_of e).states (cells e) (blocks e) 0 (all_empty (sizes_of e).states) (run e).0 (run e).1
  unfolding run
  own_solves = solves (sizes_of e).states (cells e) (ordered e w) (blocks e) own_inside 0 (all_empty (sizes_of e).states) (λ k. length-replicate (sizes_of e).states false)

  -- so the rounds worked out are the own rounds
  pub own_rounds : (r : ℕ) → FileRounds e r → r ≡ (run e).1
  unfolding FileRounds
  own_rounds r o =
      (solves_one (sizes_of e).states (cells e) (ordered e w) (blocks e) 0 (all_empty (sizes_of e).states) o.0 (run e).0 r (run e).1 o.1 own_solves).1

  -- and the sets worked out have n states
  pub own_sized : Sized (sizes_of e).states (run e).0
  unfolding run
  own_sized = solved_sized (sizes_of e).states (cells e) (ordered e w) (blocks e) own_inside 0 (all_empty (sizes_of e).states) (λ k. length-replicate (sizes_of e).states false)

-- The rounds of any file are at most m + m ^ 2 + .. + m ^ d, for d blocks and m = n + 1.
pub own_bound : (e : List ℕ) → (run e).1 ≤ powers (suc (sizes_of e).states) (sizes_of e).blocks
unfolding run
own_bound e = rw (length_blocks e) at (rounds_bound (sizes_of e).states (cells e) (blocks e) 0 (all_empty (sizes_of e).states))
