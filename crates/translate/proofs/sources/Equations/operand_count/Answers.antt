use mathlib.Core.Path.{sym, ap, ◌∙◌}
use native.Mathlib.Omega.{arith}
use lib.ListN.{length}
use Rattle.translate.specs.internal.Parts.{leaving}
use Rattle.translate.specs.internal.Flags.{distinct_of}
use Rattle.translate.proofs.ShapeLaws.{pair_count, modal_count, operands_none}
use Rattle.translate.proofs.sources.Equations.operand_count.Goals as goal

pub returns-in-And : goal.returns-in-And
returns-in-And c =
    let p = c.args in
    (λ n i. pair_count n (distinct_of p.self.now.records) p.x i p.s c.in-And.is, omega arith)

pub returns-in-Box : goal.returns-in-Box
unfolding leaving
returns-in-Box c =
    let p = c.args in
    let few = rw c.steps.ensures at c.count.ensures in
    (λ n i. few.0 ∙ modal_count n (distinct_of p.self.now.records) p.x i p.s c.in-Box.is, omega arith)

pub returns-in_default : goal.returns-in_default
returns-in_default c =
    let p = c.args in
    let d = c.in_default in
    (λ n i. sym (ap length (operands_none n (distinct_of p.self.now.records) p.x i p.s d.not-And d.not-Or d.not-Box d.not-Diamond)), omega arith)
