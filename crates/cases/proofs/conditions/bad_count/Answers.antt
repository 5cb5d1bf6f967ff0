use mathlib.Core.Path.{sym, ◌∙◌}
use Rattle.cases.specs.Conditions.{bad_count}
use Rattle.cases.proofs.Checking.{broken_here, broken_later, broken_last}
use Rattle.cases.proofs.conditions.bad_count.Goals as goal

pub returns-then-outside : goal.returns-then-outside
unfolding bad_count
returns-then-outside c = broken_here _ _ (sym c.if-outside.true ∙ c.outside.ensures)

pub returns-then-outside-2 : goal.returns-then-outside-2
unfolding bad_count
returns-then-outside-2 c = broken_later _ _ _ (sym c.outside.ensures ∙ c.if-outside.false) (broken_here _ _ (sym c.if-outside-2.true ∙ c.outside-2.ensures))

pub returns-then-outside-3 : goal.returns-then-outside-3
unfolding bad_count
returns-then-outside-3 c = broken_later _ _ _ (sym c.outside.ensures ∙ c.if-outside.false) (broken_later _ _ _ (sym c.outside-2.ensures ∙ c.if-outside-2.false) (broken_here _ _ (sym c.if-outside-3.true ∙ c.outside-3.ensures)))

pub returns-then-outside-4 : goal.returns-then-outside-4
unfolding bad_count
returns-then-outside-4 c = broken_later _ _ _ (sym c.outside.ensures ∙ c.if-outside.false) (broken_later _ _ _ (sym c.outside-2.ensures ∙ c.if-outside-2.false) (broken_later _ _ _ (sym c.outside-3.ensures ∙ c.if-outside-3.false) (broken_here _ _ (sym c.if-outside-4.true ∙ c.outside-4.ensures))))

pub returns : goal.returns
unfolding bad_count
returns c = broken_later _ _ _ (sym c.outside.ensures ∙ c.if-outside.false) (broken_later _ _ _ (sym c.outside-2.ensures ∙ c.if-outside-2.false) (broken_later _ _ _ (sym c.outside-3.ensures ∙ c.if-outside-3.false) (broken_later _ _ _ (sym c.outside-4.ensures ∙ c.if-outside-4.false) (broken_last _ _ c.outside-5.ensures))))
