use lib.ListN.{take}
use Rattle.translate.specs.internal.Parts.{Wrote}
use Rattle.translate.proofs.bytes.Writer.put.Given as goal

abbrev pub invariant-loop-x : goal.invariant-loop-x
invariant-loop-x g l = Wrote (take l.x-index l.fn.numbers) l.initial.self l.self
