use mathlib.Core.Path.{refl}
use borrow.Author.Rules.{rules}
use Rattle.translate.specs.internal.Flags.{distinct_of}
use Rattle.translate.proofs.Filling.{blocks_are, operands_are, filled_parts}
use Rattle.translate.proofs.sources.Equations.fill.Goals as goal

pub write_blocks-requires : goal.write_blocks-requires
write_blocks-requires c =
    let e = c.args.self.now in
    let room = c.requires.roomy in
    let are = blocks_are e.states e.initial (distinct_of e.records) e.shapes.now c.requires in
    search rules

pub write_all_operands-requires : goal.write_all_operands-requires
write_all_operands-requires c =
    let e = c.args.self.now in
    let room = c.requires.roomy in
    let are = operands_are e.states e.initial (distinct_of e.records) e.shapes.now c.requires in
    search rules

pub returns : goal.returns
returns c =
    let e = c.args.self.now in
    filled_parts e.states e.initial (distinct_of e.records) e.shapes.now c.requires _ _ c.put.ensures c.write_blocks.ensures refl c.write_all_cells.ensures refl
    c.write_all_operands.ensures refl
