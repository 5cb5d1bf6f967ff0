use native.Mathlib.Omega.{arith}
use Rattle.cases.proofs.LinkLaws.{linked_none, linked_step, linked_all}
use Rattle.cases.proofs.Tallies.{sourced_table}
use Rattle.cases.proofs.transitions.links_of.Goals as goal

pub loop-j-init : goal.loop-j-init
loop-j-init c =
    let case = c.args.case.now in
    let table = c.transitions-table in
    (sourced_table case.laid.bytes.now case.accepted case.laid.laid.read table.ensures.part table.ensures.count, linked_none table.result.part.now table.result.count)

pub loop-j-preserved : goal.loop-j-preserved
loop-j-preserved c =
    let l = c.loop-j in
    let table = c.transitions-table.result in
    let (sourced, linked) = l.invariant in
    (sourced, linked_step table.part.now table.count l.j l.links.first l.links.after sourced (omega arith) (omega arith) linked c.at-s.result c.at-s.ensures)

pub returns : goal.returns
returns c = rw (← c.transitions-table.ensures.part, ← c.transitions-table.ensures.count) (linked_all c.loop-j.invariant.0 c.loop-j.invariant.1 c.loop-j-test.false)
