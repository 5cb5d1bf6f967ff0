use Prim.Native.Nat.{◌-◌, ◌<◌}
use mathlib.Core.Path.{◌≡◌}
use Rattle.sets.specs.States.{States}
use Rattle.cases.specs.File.{transition_limit}
use Rattle.cases.specs.internal.Links.{source_in}
use Rattle.cases.specs.internal.Search.{FoundStates, Grown, TargetsBelow, Widened}
use Rattle.cases.proofs.reach.Search.find_targets.Given as goal

abbrev pub invariant-loop-j : goal.invariant-loop-j
invariant-loop-j l =
    (l.j < l.table.count → source_in l.table.part.now l.j ≡ l.s)
    × ((v : States) → FoundStates l.fn.self v → TargetsBelow l.table.part.now l.table.count v
    → (w : States) × FoundStates l.self w × Grown l.fn.self l.self × Widened l.table.part.now l.table.count l.j l.s v w)

abbrev pub decreases-loop-j : goal.decreases-loop-j
decreases-loop-j l = transition_limit - l.j
