use mathlib.Core.Path.{sym, ◌∙◌}
use Rattle.cases.proofs.LabelLaws.{names_by_numbers}
use Rattle.cases.proofs.labels.same_names.Goals as goal

pub returns-then-all_equally_many : goal.returns-then-all_equally_many
returns-then-all_equally_many c =
    c.all_equally_many-then-all_equally_many.ensures
    ∙ rw (sym c.all_equally_many.ensures ∙ c.if-all_equally_many.true) at (names_by_numbers c.args.x.now c.args.y.now)

pub returns-else-all_equally_many : goal.returns-else-all_equally_many
returns-else-all_equally_many c =
    c.if-all_equally_many.false
    ∙ rw (sym c.all_equally_many.ensures ∙ c.if-all_equally_many.false) at (names_by_numbers c.args.x.now c.args.y.now)
