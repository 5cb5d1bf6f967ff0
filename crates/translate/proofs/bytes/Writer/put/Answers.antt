use native.Mathlib.Omega.{arith}
use native.Mathlib.Numerals.{add-one}
use lib.Seq.{take-suc, take_all, length-take-le}
use Rattle.translate.proofs.Putting.{wrote_none, wrote_then}
use Rattle.translate.proofs.bytes.Writer.put.Goals as goal

pub loop-x-init : goal.loop-x-init
loop-x-init g c = wrote_none c.args.self.now

pub put_number-requires : goal.put_number-requires
put_number-requires g c =
    let l = c.loop-x in
    omega (arith, l.invariant.done, l.invariant.long, length-take-le l.x-index c.args.numbers (omega arith))

pub loop-x-preserved : goal.loop-x-preserved
loop-x-preserved g c =
    let l = c.loop-x in
    rw (add-one, take-suc c.args.numbers l.x-index 0 (omega arith)) (wrote_then l.invariant c.put_number.ensures)

pub returns : goal.returns
returns g c = rw (take_all c.loop-x.x-index c.args.numbers (omega arith)) at c.loop-x.invariant
