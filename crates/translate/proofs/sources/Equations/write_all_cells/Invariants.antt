use Rattle.translate.specs.internal.Parts.{WroteCells}
use Rattle.translate.specs.internal.Flags.{distinct_of}
use Rattle.translate.proofs.NodeParts.{cells_to}
use Rattle.translate.proofs.sources.Equations.write_all_cells.Given as goal

abbrev pub invariant-loop-x : goal.invariant-loop-x
invariant-loop-x l = WroteCells 0 (cells_to l.self.states (distinct_of l.self.records) l.self.shapes.now l.x-index) l.initial.w l.w l.used
