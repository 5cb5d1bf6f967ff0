use Rattle.solver.proofs.Sides.{Replacing}
use Rattle.solver.proofs.cells.right_sides.Given as goal

abbrev pub invariant-loop-s : goal.invariant-loop-s
invariant-loop-s l = Replacing l.file.tables.bytes.now l.file.tables.sizes l.sets l.k l.first l.s l.work l.next
