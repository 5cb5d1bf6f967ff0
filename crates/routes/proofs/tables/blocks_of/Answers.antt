use mathlib.Core.Path.{refl}
use native.Mathlib.Omega.{arith}
use Rattle.cases.proofs.FormulaRules.{length_nodes}
use Rattle.routes.proofs.TableLaws.{binder_read, counted_none, counted_next, blocks_done}
use Rattle.routes.proofs.tables.blocks_of.Goals as goal

pub loop-i-init : goal.loop-i-init
loop-i-init c = counted_none refl

pub loop-i-preserved : goal.loop-i-preserved
loop-i-preserved c =
    let table = c.args.formula.now in
    let l = c.loop-i in
    let h = c.loop-i-test.true in
    let one = binder_read table.part.now h c.at.ensures c.is_binder.result c.is_binder.ensures in
    rw c.from-count.ensures
    (counted_next l.invariant (rw (length_nodes table.part.now table.count) h) (omega (arith, c.requires.few)) one.0 one.1)

pub returns : goal.returns
returns c =
    let table = c.args.formula.now in
    let l = c.loop-i in
    (l.invariant.stored.long, blocks_done table.part.now table.count l.i l.invariant c.loop-i-test.false)
