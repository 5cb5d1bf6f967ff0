use Prim.Native.Nat.{◌+◌, ◌*◌}
use native.Mathlib.Omega.{arith}
use Rattle.solver.specs.File.{sizes_of, cells_at}
use Rattle.solver.proofs.Tables.{number_behind}
use Rattle.solver.proofs.file.Tables.pair.Goals as goal

pub returns : goal.returns
returns c =
    let e = c.args.self.now.bytes.now in
    let i = c.args.i in
    let from = cells_at (sizes_of e) in (
      number_behind e from (12 * i + 4) (from + 12 * i + 4) c.cells-cells.ensures c.number_at.ensures.0 (omega arith),
      number_behind e from (12 * i + 8) (from + 12 * i + 8) c.cells-cells.ensures c.number_at-2.ensures.0 (omega arith),
    )
