use Rattle.translate.specs.Bytes.{block_numbers}
use Rattle.translate.specs.internal.Parts.{Wrote}
use Rattle.translate.proofs.BlockParts.{blocks_to}
use Rattle.translate.proofs.sources.Equations.write_blocks.Given as goal

abbrev pub invariant-loop-i : goal.invariant-loop-i
invariant-loop-i l = Wrote (block_numbers (blocks_to l.self.states l.self.shapes.now l.i)) l.initial.w l.w
