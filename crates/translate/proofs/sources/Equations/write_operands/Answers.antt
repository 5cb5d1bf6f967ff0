use native.Mathlib.Omega.{arith}
use Rattle.translate.specs.internal.Flags.{distinct_of}
use Rattle.translate.proofs.Putting.{wrote_none, wrote_then}
use Rattle.translate.proofs.ShapeLaws.{row_none, row_operands, row_fit}
use Rattle.translate.proofs.sources.Equations.write_operands.Goals as goal

pub loop-s-init : goal.loop-s-init
loop-s-init c =
    let p = c.args in
    (omega arith, rw (row_none p.self.now.states (distinct_of p.self.now.records) p.x p.i) (wrote_none p.w.now))

pub write_state-requires : goal.write_state-requires
write_state-requires c =
    let p = c.args in
    let w = c.loop-s.invariant.1 in
    (c.requires.0, c.requires.1, omega arith, omega (arith, w.done, w.long, row_fit p.self.now.states (distinct_of p.self.now.records) p.x p.i c.loop-s.s p.self.now.states (omega arith)))

pub loop-s-preserved : goal.loop-s-preserved
loop-s-preserved c =
    let p = c.args in
    (omega arith, rw (row_operands p.self.now.states (distinct_of p.self.now.records) p.x p.i c.loop-s.s) (wrote_then c.loop-s.invariant.1 c.write_state.ensures))
