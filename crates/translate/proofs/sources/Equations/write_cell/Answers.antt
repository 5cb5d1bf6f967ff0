use native.Mathlib.Omega.{arith}
use Rattle.translate.specs.internal.Flags.{distinct_of}
use Rattle.translate.proofs.ShapeLaws.{wrote_one}
use Rattle.translate.proofs.sources.Equations.write_cell.Goals as goal

pub returns : goal.returns
returns c =
    let p = c.args in
    let count = c.operand_count-count.ensures in
    (λ n i. wrote_one n (distinct_of p.self.now.records) p.x i p.s (count.0 n i) (rw (c.file_cell-cell.ensures) at (rw c.numbers.ensures at c.put.ensures)), omega (arith, count.1))
