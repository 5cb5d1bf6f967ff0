use Prim.Native.Nat.{◌+◌, ◌-◌}
use mathlib.Core.Path.{◌≡◌}
use native.Mathlib.Omega.{arith}
use Rattle.solver.proofs.Tables.{counted}
use Rattle.solver.proofs.Shown.{byte_is}
use Rattle.solver.proofs.Sides.{block_fits, replacing_none, replacing_more, replacing_all}
use Rattle.solver.proofs.cells.right_sides.Goals as goal

pub evaluate-requires : goal.evaluate-requires
evaluate-requires c = (c.requires.0, block_fits record { opens = c.args.file.opens; has = c.requires.1; is = c.first-first.ensures.0 })

pub loop-s-init : goal.loop-s-init
loop-s-init c = replacing_none record { opens = c.args.file.opens; has = c.requires.1; is = c.first-first.ensures.0 } (omega arith) c.evaluate.ensures

pub value_of-v-requires : goal.value_of-v-requires
value_of-v-requires c = (c.loop-s.invariant.worked.ready, omega (arith, block_fits c.loop-s.invariant.block))

pub bounds-work-first : goal.bounds-work-first
bounds-work-first c = omega (arith, block_fits c.loop-s.invariant.block, c.loop-s.invariant.worked.ready.room, (counted c.args.file.opens.counts).cells)

pub loop-s-preserved : goal.loop-s-preserved
loop-s-preserved c =
    let s : c.loop-s.s - 1 + 1 ≡ c.loop-s.s = omega arith in
    replacing_more (rw (← s) at c.loop-s.invariant) c.value_of-v.ensures (byte_is c.value_of-v.result c.from.ensures) c.put.ensures

pub returns : goal.returns
returns c = replacing_all c.loop-s.invariant (omega arith)
