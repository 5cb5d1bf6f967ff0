-- What is left of the formula falls; a binder's loop is on its way, and the rounds left fall.
use Prim.Native.Nat.{◌+◌, ◌-◌, ◌*◌}
use Rattle.routes.proofs.BinderLaws.{Going}
use Rattle.routes.proofs.evaluator.Evaluator.+binder_evaluate.Given as goal

abbrev pub decreases-binder : goal.decreases-binder
decreases-binder l = 2 * (l.self.now.case.header.nodes - l.at)

abbrev pub decreases-evaluate : goal.decreases-evaluate
decreases-evaluate l = 2 * (l.self.now.case.header.nodes - l.at) + 1

abbrev pub decreases-and : goal.decreases-and
decreases-and l = 2 * (l.self.now.case.header.nodes - l.at)

abbrev pub decreases-or : goal.decreases-or
decreases-or l = 2 * (l.self.now.case.header.nodes - l.at)

abbrev pub decreases-box_node : goal.decreases-box_node
decreases-box_node l = 2 * (l.self.now.case.header.nodes - l.at)

abbrev pub decreases-diamond : goal.decreases-diamond
decreases-diamond l = 2 * (l.self.now.case.header.nodes - l.at)

abbrev pub invariant-binder-loop-one : goal.invariant-binder-loop-one
invariant-binder-loop-one l = Going l.self l.sets l.at l.used l.k l.held l.before l.s

abbrev pub decreases-binder-loop-one : goal.decreases-binder-loop-one
decreases-binder-loop-one l = l.self.limit - l.before
