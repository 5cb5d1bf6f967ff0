use Prim.Native.Nat.{◌≤◌}
use Rattle.solver.specs.internal.Working.{CellsValued}
use Rattle.solver.proofs.cells.evaluate.Given as goal

abbrev pub invariant-loop-i : goal.invariant-loop-i
invariant-loop-i l = (l.from ≤ l.i) × CellsValued l.file.tables.bytes.now l.sets l.i l.work
