use native.Mathlib.Omega.{arith}
use Rattle.translate.specs.internal.Flags.{distinct_of}
use mathlib.Core.Path.{refl}
use borrow.Author.Rules.{rules}
use Rattle.translate.proofs.Putting.{wrote_then, wrote_start}
use Rattle.translate.proofs.NodeParts.{operands_more, operands_fit, cells_all}
use Rattle.translate.proofs.RowLaws.{wrote_no_operands}
use Rattle.translate.proofs.sources.Equations.write_all_operands.Goals as goal

pub loop-i-init : goal.loop-i-init
loop-i-init c =
    let e = c.args.self.now in
    wrote_no_operands e.states (distinct_of e.records) e.shapes.now _

pub write_operands-requires : goal.write_operands-requires
write_operands-requires c =
    let e = c.args.self.now in
    let l = c.loop-i in (
      omega (arith, e.within.few_nodes),
      e.within.second l.i (omega arith),
      omega (arith, l.invariant.done, l.invariant.long, operands_fit e.states (distinct_of e.records) e.shapes.now l.i (omega arith)),
    )

pub loop-i-preserved : goal.loop-i-preserved
loop-i-preserved c =
    let e = c.args.self.now in
    let l = c.loop-i in
    rw (operands_more e.states (distinct_of e.records) e.shapes.now l.i (omega arith)) (wrote_then l.invariant c.write_operands.ensures)

pub returns : goal.returns
returns c =
    let e = c.args.self.now in
    let l = c.loop-i in
    let same = l.invariant.same_buffer in
    let started = wrote_start refl (rw (cells_all e.states (distinct_of e.records) e.shapes.now l.i (omega arith)) at l.invariant) in
    search rules
