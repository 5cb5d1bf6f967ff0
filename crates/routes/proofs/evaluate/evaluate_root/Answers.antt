use Rattle.routes.proofs.RootLaws.{root_asked, root_answer}
use Rattle.routes.proofs.evaluate.evaluate_root.Goals as goal

pub evaluate-requires : goal.evaluate-requires
evaluate-requires c = root_asked _

pub returns : goal.returns
returns c = root_answer _ c.action_masks-masks.ensures.1 _ c.evaluate.ensures
