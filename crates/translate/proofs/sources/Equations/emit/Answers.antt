use mathlib.Core.Path.{refl}
use native.Mathlib.Omega.{arith}
use Rattle.translate.specs.internal.Flags.{distinct_of}
use Rattle.translate.proofs.Filling.{sizes, sizes_just, short, done}
use Rattle.translate.proofs.sources.Equations.emit.Goals as goal

pub returns-then-out-size : goal.returns-then-out-size
returns-then-out-size c =
    let e = c.args.self.now in
    short _ (sizes_just e.states e.initial (distinct_of e.records) e.shapes.now e.within.few_nodes c.block_count-d.ensures c.operand_total-p.ensures) (omega arith) refl

pub fill-requires : goal.fill-requires
fill-requires c =
    let e = c.args.self.now in
    sizes e.states e.initial (distinct_of e.records) e.shapes.now e.within.few_nodes c.block_count-d.ensures c.operand_total-p.ensures (omega arith)

pub returns : goal.returns
returns c =
    let e = c.args.self.now in
    done _ (sizes_just e.states e.initial (distinct_of e.records) e.shapes.now e.within.few_nodes c.block_count-d.ensures c.operand_total-p.ensures) c.if-out-size.false c.fill.ensures
