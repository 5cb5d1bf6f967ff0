use Prim.Native.Nat.{ℕ, ◌+◌, ◌-◌}
use mathlib.Core.Path.{◌≡◌}
use native.Mathlib.Omega.{arith}
use Rattle.solver.proofs.Tables.{counted}
use Rattle.solver.proofs.Shown.{byte_is, evaluated_none, evaluated_more}
use Rattle.solver.proofs.cells.evaluate.Goals as goal

pub loop-i-init : goal.loop-i-init
loop-i-init c = (c.requires.1, evaluated_none c.args.file.opens c.requires.0)

pub loop-i-preserved : goal.loop-i-preserved
loop-i-preserved c =
    let i : ℕ = c.loop-i.i - 1 in
    let s : i + 1 ≡ c.loop-i.i = omega arith in
    (omega arith, evaluated_more (rw (← s) at c.loop-i.invariant.1) (omega (arith, (counted c.args.file.opens.counts).cells)) c.value_of.ensures (byte_is c.value_of.result c.from.ensures))

pub returns : goal.returns
returns c =
    let s : c.loop-i.i ≡ c.args.from = omega arith in
    rw s at c.loop-i.invariant.1
