-- Solutions of blocks: the standard solution (Groote and Willemse), and what the paper's rounds reach.
use Rattle.std.specs.Prelude.{◌≡◌, List, [], ◌∷◌, Bool, ℕ, zero, suc, ◌+◌, ◌^◌}
use Rattle.sets.specs.States.{States, start, Extremal, Valuation, update}
use Rattle.sets.specs.Loop.{Loop}
use Rattle.solver.specs.Cells.{Cell, Values, part}
use Rattle.solver.specs.File.{sizes_of, Block, blocks, cells}

module _ (n : ℕ) (cs : List Cell) where
  -- v are the right-hand sides of a block whose first cell is b: the values of cells b to b + n - 1 under σ
  pub record RightSides (b : ℕ) (σ : Valuation) (v : States) : Type 0 where
    pub values : List Bool
    pub each : Values cs σ values
    pub are : v ≡ part n b values

  -- Solution bs k ρ σ: σ is the standard solution of the blocks bs, which are numbered from k on, starting from ρ.
  -- No blocks: no change. Otherwise the first block takes the least (mu) or greatest (nu) set equal to its right-hand
  -- sides under the solution of the later blocks, those solved with that set standing for it.
  unfoldable pub Solution : List Block → ℕ → Valuation → Valuation → Type 0
  Solution [] k ρ σ = σ ≡ ρ
  Solution (b ∷ bs) k ρ σ =
      (v : States)
      × Extremal n b.sign (λ u. (τ : Valuation) × Solution bs (suc k) (update ρ k u) τ × RightSides b.first τ u) v
      × Solution bs (suc k) (update ρ k v) σ

  -- The paper's rule. Solves bs k ρ σ r: from block k, with the sets ρ, the blocks bs are solved at σ after r rounds, as if there were no limit.
  -- The first block starts all false (mu) or all true (nu). In each turn of its loop the later blocks are solved anew, and
  -- all n right-hand sides are worked out from the sets then held. What the last turn held is the solution.
  unfoldable pub Solves : List Block → ℕ → Valuation → Valuation → ℕ → Type 0
  Solves [] k ρ σ r = (σ ≡ ρ) × (r ≡ 0)
  Solves (b ∷ bs) k ρ σ r =
      Loop (λ u τ w q. Solves bs (suc k) (update ρ k u) τ q × RightSides b.first τ w) (start n b.sign) σ r

-- σ is the standard solution of the blocks of a file, starting from ρ
abbrev pub StandardSolution : List ℕ → Valuation → Valuation → Type 0
StandardSolution e ρ σ = Solution (sizes_of e).states (cells e) (blocks e) 0 ρ σ

-- m + m ^ 2 + .. + m ^ d
unfoldable pub powers : ℕ → ℕ → ℕ
powers m zero = 0
powers m (suc d) = powers m d + m ^ suc d
