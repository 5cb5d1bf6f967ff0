use Rattle.cases.specs.internal.Checks.{nodes_in}
use Rattle.routes.proofs.TableLaws.{Counted}
use Rattle.routes.proofs.tables.blocks_of.Given as goal

abbrev pub invariant-loop-i : goal.invariant-loop-i
invariant-loop-i l = Counted (nodes_in l.formula.part.now l.formula.count) l.blocks l.count l.i
