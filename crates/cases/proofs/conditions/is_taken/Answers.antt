use mathlib.Core.Path.{refl}
use borrow.Author.Tests.{eq-eqb, ne_eqb}
use Rattle.sets.specs.Lists.{for_some}
use Rattle.cases.proofs.LabelLaws.{or-false}
use Rattle.cases.proofs.conditions.is_taken.Goals as goal

pub returns-then-version-eq1 : goal.returns-then-version-eq1
unfolding for_some
returns-then-version-eq1 c = rw (eq-eqb _ _ c.if-version-eq1.true) refl

pub returns-else-version-eq1 : goal.returns-else-version-eq1
unfolding for_some
returns-else-version-eq1 c = rw (ne_eqb _ _ c.if-version-eq1.false, or-false) refl
