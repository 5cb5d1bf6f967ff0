use mathlib.Core.Path.{refl, sym, ap, ◌∙◌}
use Rattle.cases.specs.internal.Kinds.{formula_number}
use Rattle.translate.specs.declared.Shape.{Shape}
use Rattle.translate.proofs.ShapeFields.{readable_here, shape_read}
use Rattle.translate.proofs.formula.WholeFormula.shape_at.Goals as goal

pub bounds-self-x : goal.bounds-self-x
bounds-self-x c = (readable_here c.at-x.ensures (c.args.self.now.readable c.args.i c.requires)).2 (rw (sym c.formula_kind.ensures ∙ ap formula_number c.in-Box.is) refl)

pub bounds-self-x-in-Diamond : goal.bounds-self-x-in-Diamond
bounds-self-x-in-Diamond c = (readable_here c.at-x.ensures (c.args.self.now.readable c.args.i c.requires)).2 (rw (sym c.formula_kind.ensures ∙ ap formula_number c.in-Diamond.is) refl)

pub block_of-requires : goal.block_of-requires
block_of-requires c = (readable_here c.at-x.ensures (c.args.self.now.readable c.args.i c.requires)).1 (sym c.formula_kind.ensures ∙ ap formula_number c.in-Variable.is)

pub returns-in-False : goal.returns-in-False
returns-in-False c = λ action masks.
    let t = c.args.self.now in
    shape_read t.nodes.part.now t.nodes.count c.args.i c.requires _ c.at-x.ensures action t.added c.formula_kind.ensures c.in-False.is

pub returns-in-True : goal.returns-in-True
returns-in-True c = λ action masks.
    let t = c.args.self.now in
    shape_read t.nodes.part.now t.nodes.count c.args.i c.requires _ c.at-x.ensures action t.added c.formula_kind.ensures c.in-True.is

pub returns-in-And : goal.returns-in-And
returns-in-And c = λ action masks.
    let t = c.args.self.now in
    ap Shape.And c.second_of.ensures ∙ shape_read t.nodes.part.now t.nodes.count c.args.i c.requires _ c.at-x.ensures action t.added c.formula_kind.ensures c.in-And.is

pub returns-in-Or : goal.returns-in-Or
returns-in-Or c = λ action masks.
    let t = c.args.self.now in
    ap Shape.Or c.second_of-in-Or.ensures ∙ shape_read t.nodes.part.now t.nodes.count c.args.i c.requires _ c.at-x.ensures action t.added c.formula_kind.ensures c.in-Or.is

pub returns-in-Box : goal.returns-in-Box
returns-in-Box c = λ action masks.
    let t = c.args.self.now in
    ap Shape.Box (masks.mask _ ((readable_here c.at-x.ensures (c.args.self.now.readable c.args.i c.requires)).2 (rw (sym c.formula_kind.ensures ∙ ap formula_number c.in-Box.is) refl))) ∙ shape_read t.nodes.part.now t.nodes.count c.args.i c.requires _ c.at-x.ensures action t.added c.formula_kind.ensures c.in-Box.is

pub returns-in-Diamond : goal.returns-in-Diamond
returns-in-Diamond c = λ action masks.
    let t = c.args.self.now in
    ap Shape.Diamond (masks.mask _ ((readable_here c.at-x.ensures (c.args.self.now.readable c.args.i c.requires)).2 (rw (sym c.formula_kind.ensures ∙ ap formula_number c.in-Diamond.is) refl))) ∙ shape_read t.nodes.part.now t.nodes.count c.args.i c.requires _ c.at-x.ensures action t.added c.formula_kind.ensures c.in-Diamond.is

pub returns-in-Variable : goal.returns-in-Variable
returns-in-Variable c = λ action masks.
    let t = c.args.self.now in
    ap Shape.Variable c.block_of.ensures ∙ shape_read t.nodes.part.now t.nodes.count c.args.i c.requires _ c.at-x.ensures action t.added c.formula_kind.ensures c.in-Variable.is

pub returns-in-Mu : goal.returns-in-Mu
returns-in-Mu c = λ action masks.
    let t = c.args.self.now in
    ap Shape.Mu c.block_of-in-Mu.ensures ∙ shape_read t.nodes.part.now t.nodes.count c.args.i c.requires _ c.at-x.ensures action t.added c.formula_kind.ensures c.in-Mu.is

pub returns-in-Nu : goal.returns-in-Nu
returns-in-Nu c = λ action masks.
    let t = c.args.self.now in
    ap Shape.Nu c.block_of-in-Nu.ensures ∙ shape_read t.nodes.part.now t.nodes.count c.args.i c.requires _ c.at-x.ensures action t.added c.formula_kind.ensures c.in-Nu.is
