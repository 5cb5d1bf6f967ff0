use native.Mathlib.Omega.{arith}
use Rattle.cases.proofs.Tallies.{tally_case}
use Rattle.cases.proofs.transitions.first_appearances.Goals as goal

pub flag_appearances-requires : goal.flag_appearances-requires
flag_appearances-requires c =
    let linked = rw (← c.transitions-table.ensures.part, ← c.transitions-table.ensures.count) at c.requires.0 in
    (linked, omega (arith, linked.sourced.few, c.requires.1))

pub returns-clause-tally : goal.returns-clause-tally
returns-clause-tally c =
    let case = c.args.case.now in
    let table = c.transitions-table in
    tally_case case.laid.bytes.now case.accepted case.laid.laid.read table.ensures.part table.ensures.count c.flag_appearances.ensures.1
