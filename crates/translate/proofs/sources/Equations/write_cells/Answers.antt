use mathlib.Core.Path.{◌≡◌, refl}
use native.Mathlib.Omega.{arith}
use mathlib.Core.List.{[], ◌∷◌}
use Rattle.translate.specs.Bytes.{cell_numbers}
use Rattle.translate.specs.internal.Writing.{shape_cell}
use Rattle.translate.specs.internal.Flags.{distinct_of}
use Rattle.translate.proofs.NumberBytes.{length_cell_numbers}
use Rattle.translate.proofs.ShapeLaws.{wrote_no_cells, wrote_cell}
use Rattle.translate.proofs.sources.Equations.write_cells.Goals as goal

pub loop-s-init : goal.loop-s-init
loop-s-init c =
    let p = c.args in
    (omega arith, λ i. wrote_no_cells p.self.now.states (distinct_of p.self.now.records) p.x i p.used p.w.now, omega arith, omega arith, refl)

pub loop-s-preserved : goal.loop-s-preserved
unfolding cell_numbers
loop-s-preserved c =
    let p = c.args in
    let next = c.write_cell-next.ensures.0 p.self.now.states 0 in (
      omega arith,
      λ i. wrote_cell p.self.now.states (distinct_of p.self.now.records) p.x i c.loop-s.s (c.loop-s.invariant.1 i) (c.write_cell-next.ensures.0 p.self.now.states i),
      omega (arith, c.write_cell-next.ensures.1),
      omega (arith, next.wrote.done, length_cell_numbers c.loop-s.next (shape_cell p.self.now.states (distinct_of p.self.now.records) p.x 0 c.loop-s.s ∷ [])),
      omega (arith, next.wrote.long),
    )

pub returns : goal.returns
returns c = λ i.
    let l = c.loop-s in
    let k : l.s ≡ c.args.self.now.states = omega arith in
    rw k at (l.invariant.1 i)
