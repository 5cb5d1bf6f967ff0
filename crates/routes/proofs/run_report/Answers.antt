use Rattle.routes.proofs.DirectAnswers.{reported_by}
use Rattle.routes.proofs.run_report.Goals as goal

pub returns : goal.returns
returns c = reported_by c.requires c.test.ensures c.intersection.ensures c.count.ensures
