use mathlib.Core.Path.{sym, ◌∙◌}
use native.Mathlib.Omega.{arith}
use borrow.Author.Tests.{le-ltb}
use Rattle.translate.proofs.ShapeLaws.{mark_high}
use Rattle.translate.proofs.steps.marks.Goals as goal

pub returns-else-x-lt64 : goal.returns-else-x-lt64
returns-else-x-lt64 c = le-ltb c.args.x 64 (omega arith) ∙ sym (mark_high c.args.labels c.args.x (omega arith))
