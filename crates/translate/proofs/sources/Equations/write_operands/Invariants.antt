use mathlib.Core.List.{map}
use Prim.Native.Nat.{◌≤◌}
use Rattle.sets.specs.Lists.{numbers_from}
use Rattle.translate.specs.Bytes.{all_operands}
use Rattle.translate.specs.internal.Writing.{shape_cell}
use Rattle.translate.specs.internal.Parts.{Wrote}
use Rattle.translate.specs.internal.Flags.{distinct_of}
use Rattle.translate.proofs.sources.Equations.write_operands.Given as goal

abbrev pub invariant-loop-s : goal.invariant-loop-s
invariant-loop-s l = (l.s ≤ l.self.states) × Wrote (all_operands (map (shape_cell l.self.states (distinct_of l.self.records) l.x l.i) (numbers_from 0 l.s))) l.initial.w l.w
