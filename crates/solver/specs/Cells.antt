-- Cells, and the values of all cells under a valuation.
use Rattle.std.specs.Prelude.{◌≡◌, Bool, false, List, [], ℕ, ◌<◌, length, get_or, take, drop}
use Rattle.sets.specs.Lists.{every, for_some}
use Rattle.sets.specs.States.{States, has, Valuation}

-- A cell is an and or an or of the cells with the given numbers, or the variable of a block in a state.
pub data Cell : Type 0 where
  And Or : List ℕ → Cell
  Variable : ℕ → ℕ → Cell

-- the cells that a cell is made of
unfoldable pub operands_of : Cell → List ℕ
operands_of (And os) = os
operands_of (Or os) = os
operands_of (Variable k s) = []

-- A cell's value by its rule, where the values of all cells are vs: an empty and is true, an empty or false.
unfoldable pub value : Valuation → List Bool → Cell → Bool
value ρ vs (And os) = every (λ o. get_or vs o false) os
value ρ vs (Or os) = for_some (λ o. get_or vs o false) os
value ρ vs (Variable k s) = has (ρ k) s

-- The paper's values: vs are values of the cells if each cell has the value of its rule.
pub record Values (cs : List Cell) (ρ : Valuation) (vs : List Bool) : Type 0 where
  pub sized : length vs ≡ length cs
  pub rule : (i : ℕ) → i < length cs → get_or vs i false ≡ value ρ vs (get_or cs i (And []))

-- the values of the n cells from b on
abbrev pub part : ℕ → ℕ → List Bool → States
part n b vs = take n (drop b vs)
