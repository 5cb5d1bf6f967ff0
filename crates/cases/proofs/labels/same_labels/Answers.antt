use mathlib.Core.Path.{◌≡◌, ap, ◌∙◌}
use Prim.Native.Nat.{suc, ◌-◌}
use native.Mathlib.Omega.{arith}
use Rattle.sets.specs.Words.{bit}
use Rattle.cases.proofs.LabelLaws.{byte_of, masking_none, masking_more, same_read}
use Rattle.cases.proofs.labels.same_labels.Goals as goal

pub loop-x-init : goal.loop-x-init
loop-x-init c = masking_none _ _ _

pub loop-x-preserved : goal.loop-x-preserved
loop-x-preserved c =
    let l = c.loop-x in
    let t = c.args.table.now in
    let z : suc (l.x - 1) ≡ l.x = omega arith in
    let same = c.same_names.ensures ∙ same_read t.part.now t.count c.args.j (l.x - 1) c.requires.1 (omega (arith, l.invariant.within)) c.at-own.ensures c.at.ensures in
    masking_more t.part.now t.count c.args.j (l.x - 1) l.mask c.from.result (omega (arith, l.invariant.within)) (rw z l.invariant) (c.from.ensures ∙ byte_of _ ∙ ap bit same)
