use Prim.Native.Nat.{◌≤◌}
use mathlib.Core.Path.{◌≡◌}
use Rattle.solver.specs.Conditions.{operands_before}
use Rattle.solver.specs.internal.Checks.{rest_ok}
use Rattle.solver.proofs.conditions.cells_hold.Given as goal

abbrev pub invariant-loop-i : goal.invariant-loop-i
invariant-loop-i l = (l.i ≤ l.tables.sizes.cells) × (l.i-end ≡ l.tables.sizes.cells) × (l.used ≤ l.tables.sizes.operands) × (l.used ≡ operands_before l.tables.bytes.now l.i) × (rest_ok l.tables.bytes.now 0 ≡ rest_ok l.tables.bytes.now l.i)
