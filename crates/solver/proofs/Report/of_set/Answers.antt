use Rattle.solver.proofs.Answers.{reported}
use Rattle.solver.proofs.Report.of_set.Goals as goal

pub returns : goal.returns
returns c = reported c.requires c.test.ensures c.count.ensures
