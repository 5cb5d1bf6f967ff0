use Rattle.cases.specs.internal.Links.{Sourced, LinkedFrom}
use Rattle.cases.proofs.transitions.links_of.Given as goal

abbrev pub invariant-loop-j : goal.invariant-loop-j
invariant-loop-j l = Sourced l.table.part.now l.table.count × LinkedFrom l.table.part.now l.table.count l.j l.links.first l.links.after
