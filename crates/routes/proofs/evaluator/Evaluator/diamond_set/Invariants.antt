use Rattle.cases.specs.Meaning.{diamond_in}
use Rattle.cases.specs.internal.Checks.{transitions_in}
use Rattle.routes.specs.internal.Evaluating.{states_of, Finds}
use Rattle.routes.proofs.evaluator.Evaluator.diamond_set.Given as goal

abbrev pub invariant-loop-i : goal.invariant-loop-i
invariant-loop-i l = Finds l.self l.labels l.set (diamond_in (states_of l.self) (transitions_in l.self.case.transitions.part.now l.i)) l.found
