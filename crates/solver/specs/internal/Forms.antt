-- Forms of files and cells that laws and inner contracts speak of.
use Rattle.std.specs.Prelude.{true, false, List, [], ℕ, ◌+◌, ◌*◌, ◌<◌, T, ltb, leb, length, get_or, Result, Ok, Err}
use Rattle.sets.specs.Lists.{every}
use Rattle.solver.specs.declared.Cause.{Cause}
use Rattle.solver.specs.declared.Cause.TheVariants.{Layout, Table}
use Rattle.solver.specs.declared.Sizes.{Sizes}
use Rattle.solver.specs.Cells.{Cell, And, operands_of}
use Rattle.solver.specs.File.{sizes_of, Block, blocks_at, block_limit, cell_limit, operand_limit}
use Rattle.solver.specs.Conditions.{layout_ok, tables_ok}

-- each operand is a cell above its own
unfoldable pub Ordered : List Cell → Type 0
Ordered cs = (i : ℕ) → i < length cs → T (every (ltb i) (operands_of (get_or cs i (And []))))

-- each block has a cell, of c cells, for each of n states
unfoldable pub Inside : ℕ → ℕ → List Block → Type 0
Inside n c bs = T (every (λ b. leb (b.first + n) c) bs)

-- what opening a file answers: its counts, or the first of the two conditions that holds
unfoldable pub opened : List ℕ → Result Sizes Cause
opened e = elim (layout_ok e) [
  | true ↦ elim (tables_ok e) [ true ↦ Ok (sizes_of e) | false ↦ Err Table ]
  | false ↦ Err Layout
]

-- the length of the largest file, the code's LARGEST
abbrev pub largest_file : ℕ
largest_file = blocks_at + 8 * block_limit + 12 * cell_limit + 4 * operand_limit
