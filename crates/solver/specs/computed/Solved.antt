-- Values and solutions by functions. For a well-formed file `evaluate_values` and `values_one` (proofs/Values.antt) say that the values are the
-- paper's Values; `solves` and `solves_one` (proofs/Solving.antt) that the solution and the rounds are those of the paper's Solves.
use Rattle.std.specs.Prelude.{Bool, false, List, [], ◌∷◌, ℕ, zero, suc, length, get_or, set, replicate}
use Rattle.sets.specs.States.{start, Valuation, update, all_empty}
use Rattle.sets.specs.computed.Iteration.{Worked, repeated}
use Rattle.solver.specs.Cells.{Cell, And, value, part}
use Rattle.solver.specs.File.{Block, sizes_of, blocks, cells}

-- values of cells, worked out from the last cell down: the first i cells are still to do
unfoldable pub work_out : List Cell → Valuation → ℕ → List Bool → List Bool
work_out cs ρ zero vs = vs
work_out cs ρ (suc i) vs = work_out cs ρ i (set vs i (value ρ vs (get_or cs i (And []))))

unfoldable pub evaluate : List Cell → Valuation → List Bool
evaluate cs ρ = work_out cs ρ (length cs) (replicate (length cs) false)

-- a valuation and the rounds that it took
abbrev pub Reached : Type 0
Reached = Valuation × ℕ

module _ (n : ℕ) (cs : List Cell) where
  -- The solution of the blocks bs from block k on. Each loop has n + 1 turns at most. What its last turn held
  -- is worked out once more from the set where it stops.
  unfoldable pub solved : List Block → ℕ → Valuation → Reached
  solved [] k ρ = (ρ, 0)
  solved (b ∷ bs) k ρ =
      let w : Worked = repeated (suc n) (λ v. let r : Reached = solved bs (suc k) (update ρ k v) in (part n b.first (evaluate cs r.0), r.1)) (start n b.sign) in
      let r : Reached = solved bs (suc k) (update ρ k w.0) in
      (r.0, w.1)

-- the solution of all blocks of a file, and the rounds
unfoldable pub run : List ℕ → Reached
run e = solved (sizes_of e).states (cells e) (blocks e) 0 (all_empty (sizes_of e).states)
