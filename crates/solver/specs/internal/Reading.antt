-- The three numbers that stand for a cell in a file.
use Rattle.std.specs.Prelude.{List, [], ◌∷◌, ℕ}
use Rattle.solver.specs.declared.FileCell.{FileCell}
use Rattle.solver.specs.declared.FileCell.TheVariants.{And, Or, Variable}

-- the numbers that a file has for a cell
unfoldable pub numbers_in_file : FileCell → List ℕ
numbers_in_file (And l) = 0 ∷ l.first ∷ l.count ∷ []
numbers_in_file (Or l) = 1 ∷ l.first ∷ l.count ∷ []
numbers_in_file (Variable block state) = 2 ∷ block ∷ state ∷ []
