use Prim.Native.Nat.{◌-◌}
use Rattle.cases.specs.File.{transition_in}
use Rattle.cases.proofs.Copies.{Walked}
use Rattle.cases.proofs.transitions.copies_before.Given as goal

abbrev pub invariant-loop-j : goal.invariant-loop-j
invariant-loop-j l = Walked (transition_in l.table.part.now) l.i l.j l.copies

abbrev pub decreases-loop-j : goal.decreases-loop-j
decreases-loop-j l = l.i - l.j
