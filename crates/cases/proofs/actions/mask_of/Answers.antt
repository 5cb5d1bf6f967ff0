use mathlib.Core.Path.{◌∙◌}
use native.Mathlib.Omega.{arith}
use Rattle.cases.specs.File.{label_records}
use Rattle.cases.specs.Labels.{alike_labels}
use Rattle.cases.specs.internal.Checks.{labels_in}
use Rattle.cases.specs.internal.Masks.{action_of}
use Rattle.cases.proofs.LabelLaws.{length_alike}
use Rattle.cases.proofs.Masks.{mask_false, mask_true, mask_label, mask_not, mask_and, mask_or, mask_implies}
use Rattle.cases.proofs.actions.mask_of.Goals as goal

pub returns-in-False : goal.returns-in-False
unfolding action_of
returns-in-False c = λ a b p q. rw c.in-False.is mask_false

pub returns-in-True : goal.returns-in-True
unfolding action_of
returns-in-True c = λ a b p q. rw c.in-True.is mask_true

pub returns-in-Label : goal.returns-in-Label
unfolding action_of
returns-in-Label c = λ a b p q.
    rw c.in-Label.is (c.alike_labels.ensures
    ∙ mask_label (alike_labels c.args.h (labels_in c.args.labels.now (label_records c.args.h)) c.args.arg) (omega (arith, length_alike c.args.h (labels_in c.args.labels.now (label_records c.args.h)) c.args.arg, c.requires.0.few)))

pub returns-in-Not : goal.returns-in-Not
unfolding action_of
returns-in-Not c = λ a b p q. rw (c.in-Not.is, p) (mask_not a)

pub returns-in-And : goal.returns-in-And
unfolding action_of
returns-in-And c = λ a b p q. rw (c.in-And.is, p, q) (mask_and a b)

pub returns-in-Or : goal.returns-in-Or
unfolding action_of
returns-in-Or c = λ a b p q. rw (c.in-Or.is, p, q) (mask_or a b)

pub returns-in-Implies : goal.returns-in-Implies
unfolding action_of
returns-in-Implies c = λ a b p q. rw (c.in-Implies.is, p, q) (mask_implies a b)
