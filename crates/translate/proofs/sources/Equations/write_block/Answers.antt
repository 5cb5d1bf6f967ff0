use mathlib.Core.Path.{ap}
use native.Mathlib.Omega.{arith}
use lib.ListN.{length}
use Rattle.translate.proofs.Putting.{wrote_none}
use Rattle.translate.proofs.BlockParts.{numbers_mu, numbers_nu, numbers_other}
use Rattle.translate.proofs.sources.Equations.write_block.Goals as goal

pub put-requires : goal.put-requires
put-requires c =
    let p = c.args in
    omega (arith, ap length (numbers_mu p.self.now.states p.i p.x c.in-Mu.is))

pub put-requires-in-Nu : goal.put-requires-in-Nu
put-requires-in-Nu c =
    let p = c.args in
    omega (arith, ap length (numbers_nu p.self.now.states p.i p.x c.in-Nu.is))

pub returns-in-Mu : goal.returns-in-Mu
returns-in-Mu c =
    let p = c.args in
    rw (numbers_mu p.self.now.states p.i p.x c.in-Mu.is) c.put.ensures

pub returns-in-Nu : goal.returns-in-Nu
returns-in-Nu c =
    let p = c.args in
    rw (numbers_nu p.self.now.states p.i p.x c.in-Nu.is) c.put-in-Nu.ensures

pub returns-in_default : goal.returns-in_default
returns-in_default c =
    let p = c.args in
    rw (numbers_other p.self.now.states p.i p.x c.in_default.not-Mu c.in_default.not-Nu) (wrote_none p.w.now)
