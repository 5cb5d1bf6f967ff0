use native.Mathlib.Omega.{arith}
use mathlib.Core.Path.{refl}
use borrow.Author.Rules.{rules}
use Rattle.translate.proofs.Putting.{wrote_none, wrote_then, wrote_start}
use Rattle.translate.proofs.BlockParts.{numbers_none, numbers_more, numbers_fit, blocks_all}
use Rattle.translate.proofs.sources.Equations.write_blocks.Goals as goal

pub loop-i-init : goal.loop-i-init
loop-i-init c =
    let p = c.args in
    rw (numbers_none p.self.now.states p.self.now.shapes.now) (wrote_none _)

pub write_block-requires : goal.write_block-requires
write_block-requires c =
    let p = c.args in
    let l = c.loop-i in
    (omega arith, omega (arith, l.invariant.done, l.invariant.long, numbers_fit p.self.now.states p.self.now.shapes.now l.i (omega arith)))

pub loop-i-preserved : goal.loop-i-preserved
loop-i-preserved c =
    let p = c.args in
    let l = c.loop-i in
    rw (numbers_more p.self.now.states p.self.now.shapes.now l.i (omega arith)) (wrote_then l.invariant c.write_block.ensures)

pub returns : goal.returns
returns c =
    let p = c.args in
    let l = c.loop-i in
    let same = l.invariant.same_buffer in
    let started = wrote_start refl (rw (blocks_all p.self.now.states p.self.now.shapes.now l.i (omega arith)) at l.invariant) in
    search rules
