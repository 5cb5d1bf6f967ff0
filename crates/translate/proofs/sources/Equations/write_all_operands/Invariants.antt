use Rattle.translate.specs.Bytes.{all_operands}
use Rattle.translate.specs.internal.Parts.{Wrote}
use Rattle.translate.specs.internal.Flags.{distinct_of}
use Rattle.translate.proofs.NodeParts.{cells_to}
use Rattle.translate.proofs.sources.Equations.write_all_operands.Given as goal

abbrev pub invariant-loop-i : goal.invariant-loop-i
invariant-loop-i l = Wrote (all_operands (cells_to l.self.states (distinct_of l.self.records) l.self.shapes.now l.i)) l.initial.w l.w
