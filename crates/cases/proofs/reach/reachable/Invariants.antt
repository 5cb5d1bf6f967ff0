use Prim.Native.Nat.{◌-◌}
use Rattle.sets.specs.States.{States}
use Rattle.sets.specs.Words.{state_limit}
use Rattle.cases.specs.Case.{case_of}
use Rattle.cases.proofs.Searching.{Model, Searched}
use Rattle.cases.proofs.reach.reachable.Given as goal

abbrev pub invariant-loop-done : goal.invariant-loop-done
invariant-loop-done l =
    let c = case_of l.case.laid.bytes.now in
    Model c l.table.part.now l.table.count × (v : States) × Searched c l.table.part.now l.table.count l.search l.done v

abbrev pub decreases-loop-done : goal.decreases-loop-done
decreases-loop-done l = state_limit - l.done
