use Prim.Native.Nat.{◌+◌, ◌*◌}
use native.Mathlib.Omega.{arith}
use Rattle.solver.specs.File.{sizes_of, cells_at}
use Rattle.solver.proofs.Tables.{number_behind}
use Rattle.solver.proofs.file.Tables.kind.Goals as goal

pub returns : goal.returns
returns c =
    let e = c.args.self.now.bytes.now in
    number_behind e (cells_at (sizes_of e)) (12 * c.args.i) (cells_at (sizes_of e) + 12 * c.args.i) c.cells.ensures c.number_at.ensures.0 (omega arith)
