use mathlib.Core.Path.{refl}
use native.Mathlib.Omega.{arith}
use Rattle.solver.proofs.Tables.{counted}
use Rattle.solver.proofs.CellRules.{none_before, cells_end, cell_goes_on}
use Rattle.solver.proofs.conditions.cells_hold.Goals as goal

pub loop-i-init : goal.loop-i-init
loop-i-init c = (omega arith, refl, omega arith, none_before _, refl)

pub loop-i-preserved : goal.loop-i-preserved
loop-i-preserved c =
    let i = c.loop-i.invariant in
    let found = c.operand_count.ensures in (
      omega arith,
      refl,
      omega (arith, (counted c.args.tables.now.read.sizes_are).operands, found.fits c.in-Some.count c.in-Some.is),
      found.next c.in-Some.count c.in-Some.is,
      cell_goes_on _ _ c.args.tables.now.read _ _ i.3 i.4 found c.loop-i-test.true c.in-Some.count c.in-Some.is,
    )

pub returns : goal.returns
returns c = cells_end _ _ c.args.tables.now.read _ _ c.loop-i.invariant.3 c.loop-i.invariant.4 (omega arith)
