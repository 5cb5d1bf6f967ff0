use Rattle.cases.proofs.LabelLaws.{Masking}
use Rattle.cases.proofs.labels.same_labels.Given as goal

abbrev pub invariant-loop-x : goal.invariant-loop-x
invariant-loop-x l = Masking l.table.part.now l.table.count l.j l.x l.mask
