use Rattle.cases.specs.File.{label_records}
use Rattle.cases.specs.Labels.{alike_labels}
use Rattle.cases.specs.internal.Checks.{labels_in, nodes_in}
use Rattle.cases.specs.internal.Masks.{action_in}
use Rattle.cases.proofs.Masks.{Masked, Kept}
use Rattle.cases.proofs.actions.action_masks.Given as goal

abbrev pub invariant-loop-i : goal.invariant-loop-i
invariant-loop-i l = Masked (alike_labels l.h (labels_in l.labels (label_records l.h))) (nodes_in l.part l.h.actions) l.masks l.at l.i
    × Kept (action_in l.h l.labels l.part) l.h.actions l.i l.all
