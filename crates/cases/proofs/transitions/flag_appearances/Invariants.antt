use Rattle.cases.proofs.FirstAppearances.{SetBefore}
use Rattle.cases.proofs.transitions.flag_appearances.Given as goal

abbrev pub invariant-loop-i : goal.invariant-loop-i
invariant-loop-i l = SetBefore l.table.part.now l.table.count l.i l.flags
