use native.Mathlib.Omega.{arith}
use Rattle.translate.proofs.Putting.{wrote_none, wrote_then}
use Rattle.translate.proofs.ShapeLaws.{targets_none, targets_more, targets_fit}
use Rattle.translate.proofs.steps.Steps.write_targets.Goals as goal

pub loop-j-init : goal.loop-j-init
loop-j-init c =
    let p = c.args in
    let e = p.self.now in
    (omega arith, rw (targets_none e.records.table.part.now e.records.first.now e.state e.labels p.base) (wrote_none p.w.now))

pub write_target-requires : goal.write_target-requires
write_target-requires c =
    let p = c.args in
    let e = p.self.now in
    let w = c.loop-j.invariant.1 in (
      omega arith,
      omega arith,
      omega (arith, w.done, w.long, targets_fit e.records.table.part.now e.records.first.now e.state e.labels p.base c.loop-j.j e.records.table.count (omega arith)),
    )

pub loop-j-preserved : goal.loop-j-preserved
loop-j-preserved c =
    let p = c.args in
    let e = p.self.now in
    (omega arith, rw (targets_more e.records.table.part.now e.records.first.now e.state e.labels p.base c.loop-j.j) (wrote_then c.loop-j.invariant.1 c.write_target.ensures))
