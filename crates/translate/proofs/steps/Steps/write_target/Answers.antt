use native.Mathlib.Omega.{arith}
use Rattle.translate.proofs.ShapeLaws.{wrote_target, wrote_no_target, target_room}
use Rattle.translate.proofs.steps.Steps.write_target.Goals as goal

pub put-requires : goal.put-requires
put-requires c =
    let p = c.args in
    let e = p.self.now in
    omega (arith, target_room e.records.table.part.now e.records.first.now e.state e.labels p.base p.j c.has.ensures c.if-has.true)

pub returns-then-has : goal.returns-then-has
returns-then-has c =
    let p = c.args in
    let e = p.self.now in
    wrote_target e.records.table.part.now e.records.first.now e.state e.labels p.base p.j _ c.has.ensures c.if-has.true c.target.ensures.0 c.put.ensures

pub returns-else-has : goal.returns-else-has
returns-else-has c =
    let p = c.args in
    let e = p.self.now in
    wrote_no_target e.records.table.part.now e.records.first.now e.state e.labels p.base p.j p.w.now c.has.ensures c.if-has.false
