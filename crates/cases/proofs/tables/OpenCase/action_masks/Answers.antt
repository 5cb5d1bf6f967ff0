use mathlib.Core.Path.{refl}
use Rattle.cases.proofs.Accepting.{passed}
use Rattle.cases.proofs.Masks.{whole_actions}
use Rattle.cases.proofs.ModelRules.{labels_read, actions_read, labels_inside, actions_inside}
use Rattle.cases.proofs.tables.OpenCase.action_masks.Goals as goal

pub action_masks-requires : goal.action_masks-requires
action_masks-requires c =
    let s = c.args.self.now in
    let l = s.laid.laid in
    let good = passed _ s.accepted in (
      rw (c.labels.ensures.part, l.read) (labels_inside good.lies),
      rw (c.actions.ensures.part, l.read) (actions_inside good.lies),
      rw (actions_read l c.actions.ensures.part refl, l.read) (whole_actions _ good.actions),
    )

pub returns-clause-masks : goal.returns-clause-masks
returns-clause-masks c =
    let l = c.args.self.now.laid.laid in
    rw l.read (rw (labels_read l c.labels.ensures.part refl, actions_read l c.actions.ensures.part refl, l.read) at c.action_masks.ensures.1)
