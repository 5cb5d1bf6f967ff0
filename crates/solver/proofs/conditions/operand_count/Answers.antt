use mathlib.Core.Path.{refl}
use native.Mathlib.Omega.{arith}
use Rattle.solver.proofs.CellRules.{found_variable, found_other, found_list}
use Rattle.solver.proofs.conditions.operand_count.Goals as goal

pub returns-in_default : goal.returns-in_default
returns-in_default c =
    let pre = c.requires in
    found_other c.args.tables.now.read pre.inside pre.counted pre.few refl (omega arith)

pub returns-in-2 : goal.returns-in-2
returns-in-2 c =
    let pre = c.requires in
    let n = c.pair-block.ensures in
    rw c.then_some.ensures (found_variable c.args.tables.now.read pre.inside pre.counted pre.few refl (omega arith) (rw (n.0, n.1) at c.variable_holds.ensures))

pub returns-in-0 : goal.returns-in-0
returns-in-0 c =
    let pre = c.requires in
    let n = c.list-list.ensures in
    rw (c.then_some-in-0.ensures, n.1) (found_list c.args.tables.now.read pre.inside pre.counted pre.few refl (omega arith) (rw (n.0, n.1) at c.list_holds.ensures))
