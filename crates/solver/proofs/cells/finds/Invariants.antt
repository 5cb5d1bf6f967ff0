use mathlib.Core.Path.{◌≡◌}
use Rattle.sets.specs.Words.{bit}
use Rattle.solver.proofs.Lookup.{found}
use Rattle.solver.proofs.cells.finds.Given as goal

abbrev pub invariant-loop-j : goal.invariant-loop-j
invariant-loop-j l = found l.file.tables.bytes.now l.list.first l.list.count l.work (bit l.wanted) 0 ≡ found l.file.tables.bytes.now l.list.first l.list.count l.work (bit l.wanted) l.j
