use mathlib.Core.Path.{refl, sym, ◌∙◌}
use Rattle.translate.proofs.ShapeLaws.{flag_tested, leaves_tested}
use Rattle.translate.proofs.steps.Steps.has.Goals as goal

pub returns-then-is_first : goal.returns-then-is_first
returns-then-is_first c =
    let e = c.args.self.now in
    let r = e.records in
    rw c.if-is_first.true at (flag_tested r.table.part.now r.first.now e.state e.labels c.args.j c.at.ensures c.leaves.ensures (c.is_first.ensures ∙ sym (r.flags.at c.args.j c.requires)))

pub returns-else-is_first : goal.returns-else-is_first
returns-else-is_first c =
    let e = c.args.self.now in
    let r = e.records in
    c.if-is_first.false ∙ rw c.if-is_first.false at (flag_tested r.table.part.now r.first.now e.state e.labels c.args.j refl refl (c.is_first.ensures ∙ sym (r.flags.at c.args.j c.requires)))

pub returns-then-leaves : goal.returns-then-leaves
returns-then-leaves c =
    let e = c.args.self.now in
    let r = e.records in
    rw c.if-leaves.true at (leaves_tested r.table.part.now r.first.now e.state e.labels c.args.j c.at-2.ensures c.leaves-2.ensures (c.is_first-then-leaves.ensures ∙ sym (r.flags.at c.args.j c.requires)))

pub returns-else-leaves : goal.returns-else-leaves
returns-else-leaves c =
    let e = c.args.self.now in
    let r = e.records in
    c.if-leaves.false ∙ rw c.if-leaves.false at (leaves_tested r.table.part.now r.first.now e.state e.labels c.args.j c.at-2.ensures c.leaves-2.ensures refl)
