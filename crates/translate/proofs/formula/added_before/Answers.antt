use mathlib.Core.Path.{◌∙◌}
use Rattle.translate.proofs.ShapeFields.{root_added}
use Rattle.translate.proofs.formula.added_before.Goals as goal

pub returns : goal.returns
returns c =
    let t = c.args.nodes.now in
    c.from.ensures ∙ root_added t.part.now t.count c.requires c.at.result c.at.ensures c.is_binder.result c.is_binder.ensures
