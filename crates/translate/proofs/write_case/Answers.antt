use mathlib.Core.Path.{sym}
use native.Mathlib.Omega.{arith}
use lib.Seq.{length-take-le}
use Rattle.translate.proofs.CaseParts.{masks_first, table_some, table_few, actions_few, table_readable, handed, left_as}
use Rattle.translate.proofs.write_case.Goals as goal

pub slice_bounds-masks-end : goal.slice_bounds-masks-end
slice_bounds-masks-end c =
    let o = c.args.case.now in
    omega (arith, c.action_masks-masks.ensures.long, actions_few _ o.accepted o.laid.laid.read)

pub slice_bounds-formula-end : goal.slice_bounds-formula-end
slice_bounds-formula-end c =
    let o = c.args.case.now in
    sym (length-take-le _ _ (omega (arith, c.action_masks-masks.ensures.long, actions_few _ o.accepted o.laid.laid.read)))

pub added_before-requires : goal.added_before-requires
added_before-requires c =
    let o = c.args.case.now in
    rw c.formula-nodes.ensures.count (table_some _ o.accepted o.laid.laid.read)

pub invariant_of-formula : goal.invariant_of-formula
invariant_of-formula c =
    let o = c.args.case.now in
    record {
      few = rw c.formula-nodes.ensures.count (table_few _ o.accepted o.laid.laid.read);
      readable = table_readable _ o.accepted o.laid.laid.read c.formula-nodes.ensures.part c.formula-nodes.ensures.count
          (sym (length-take-le _ _ (omega (arith, c.action_masks-masks.ensures.long, actions_few _ o.accepted o.laid.laid.read))));
      before = c.added_before.ensures;
    }

pub invariant_of-equations : goal.invariant_of-equations
invariant_of-equations c =
    let o = c.args.case.now in
    record {
      within = handed _ o.accepted o.laid.laid.read c.formula-nodes.ensures.part c.formula-nodes.ensures.count c.transitions-table.ensures.part c.transitions-table.ensures.count c.requires
          (c.shapes-shapes.ensures _ (masks_first _ o.laid.header.actions _ (omega (arith, c.action_masks-masks.ensures.long, actions_few _ o.accepted o.laid.laid.read)) c.action_masks-masks.ensures.masks))
          c.added_before.ensures;
    }

pub returns : goal.returns
returns c =
    let o = c.args.case.now in
    left_as _ o.accepted o.laid.laid.read c.formula-nodes.ensures.part c.formula-nodes.ensures.count c.transitions-table.ensures.part c.transitions-table.ensures.count c.requires
    (c.shapes-shapes.ensures _ (masks_first _ o.laid.header.actions _ (omega (arith, c.action_masks-masks.ensures.long, actions_few _ o.accepted o.laid.laid.read)) c.action_masks-masks.ensures.masks))
    c.added_before.ensures c.emit.ensures
