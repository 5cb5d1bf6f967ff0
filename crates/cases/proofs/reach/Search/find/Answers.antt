use mathlib.Core.Path.{sym, ◌∙◌}
use native.Mathlib.Omega.{arith}
use Rattle.cases.proofs.Searching.{found_again, found_new, place_left, place_fits}
use Rattle.cases.proofs.reach.Search.find.Goals as goal

pub bounds-self-self : goal.bounds-self-self
bounds-self-self c = place_left c.requires.1 c.requires.2 (sym c.test.ensures ∙ c.if-not-test.true)

pub offset_bounds-self-self : goal.offset_bounds-self-self
offset_bounds-self-self c = place_fits (place_left c.requires.1 c.requires.2 (sym c.test.ensures ∙ c.if-not-test.true))

pub overflow_add-self : goal.overflow_add-self
overflow_add-self c = omega (arith, place_left c.requires.1 c.requires.2 (sym c.test.ensures ∙ c.if-not-test.true))

pub returns-then-not-test : goal.returns-then-not-test
returns-then-not-test c v f inside = found_new f inside (sym c.test.ensures ∙ c.if-not-test.true) c.put.array_long.1 (c.put.ensures v inside f.held)

pub returns-else-not-test : goal.returns-else-not-test
returns-else-not-test c v f inside = found_again f inside (sym c.test.ensures ∙ c.if-not-test.false)
