use mathlib.Core.Path.{ap}
use native.Mathlib.Omega.{arith}
use lib.ListN.{length}
use Rattle.translate.specs.internal.Parts.{leaving}
use Rattle.translate.specs.internal.Flags.{distinct_of}
use Rattle.translate.proofs.Putting.{wrote_none}
use Rattle.translate.proofs.ShapeLaws.{operands_pair, operands_modal, modal_count, operands_none}
use Rattle.translate.proofs.sources.Equations.write_state.Goals as goal

pub put-requires : goal.put-requires
put-requires c =
    let p = c.args in
    omega (arith, ap length (operands_pair p.self.now.states (distinct_of p.self.now.records) p.x p.i p.s c.in-And.is))

pub returns-in-And : goal.returns-in-And
returns-in-And c =
    let p = c.args in
    rw (operands_pair p.self.now.states (distinct_of p.self.now.records) p.x p.i p.s c.in-And.is, ← c.row-low.ensures.0, ← c.row.ensures.0) c.put.ensures

pub write_targets-requires : goal.write_targets-requires
unfolding leaving
write_targets-requires c =
    let p = c.args in
    (omega arith, rw c.steps.ensures (omega (arith, modal_count p.self.now.states (distinct_of p.self.now.records) p.x p.i p.s c.in-Box.is)))

pub returns-in-Box : goal.returns-in-Box
unfolding leaving
returns-in-Box c =
    let p = c.args in
    rw (operands_modal p.self.now.states (distinct_of p.self.now.records) p.x p.i p.s c.in-Box.is, ← c.row-low.ensures.0) (rw c.steps.ensures at c.write_targets.ensures)

pub returns-in_default : goal.returns-in_default
returns-in_default c =
    let p = c.args in
    let d = c.in_default in
    rw (operands_none p.self.now.states (distinct_of p.self.now.records) p.x p.i p.s d.not-And d.not-Or d.not-Box d.not-Diamond) (wrote_none p.w.now)
