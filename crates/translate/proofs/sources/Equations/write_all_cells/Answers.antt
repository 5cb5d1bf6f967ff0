use native.Mathlib.Omega.{arith}
use mathlib.Core.Path.{refl}
use borrow.Author.Rules.{rules}
use lib.ListN.{length}
use Rattle.translate.specs.internal.Flags.{distinct_of}
use Rattle.translate.proofs.Putting.{wrote_start}
use Rattle.translate.proofs.NodeParts.{operands_fit, cells_all}
use Rattle.translate.proofs.RowLaws.{wrote_no_rows, wrote_row, rows_fit, numbers_to}
use Rattle.translate.proofs.sources.Equations.write_all_cells.Goals as goal

pub loop-x-init : goal.loop-x-init
loop-x-init c =
    let e = c.args.self.now in
    wrote_no_rows e.states (distinct_of e.records) e.shapes.now _

pub write_cells-used-requires : goal.write_cells-used-requires
write_cells-used-requires c =
    let e = c.args.self.now in
    let l = c.loop-x in
    let i = l.x-index in (
      omega (arith, l.invariant.wrote.done, l.invariant.wrote.long, numbers_to e.states (distinct_of e.records) e.shapes.now i (omega arith), rows_fit i (length e.shapes.now) e.states (omega arith)),
      omega (arith, l.invariant.count, operands_fit e.states (distinct_of e.records) e.shapes.now i (omega arith), e.within.few_operands),
    )

pub loop-x-preserved : goal.loop-x-preserved
loop-x-preserved c =
    let e = c.args.self.now in
    let l = c.loop-x in
    wrote_row e.states (distinct_of e.records) e.shapes.now l.x-index (omega arith) l.invariant (c.write_cells-used.ensures l.x-index)

pub returns : goal.returns
returns c =
    let e = c.args.self.now in
    let l = c.loop-x in
    let same = l.invariant.wrote.same_buffer in
    let started = wrote_start refl (rw (cells_all e.states (distinct_of e.records) e.shapes.now l.x-index (omega arith)) at l.invariant.wrote) in
    search rules
