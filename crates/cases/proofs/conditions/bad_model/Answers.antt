use mathlib.Core.Path.{ap, ◌∙◌}
use borrow.Author.Tests.{le-leb}
use native.Mathlib.Omega.{arith}
use Rattle.std.proofs.Common.{rules, tests}
use Rattle.std.proofs.lemmas.Iterator.{YieldsList-from_range}
use Rattle.std.proofs.lemmas.Iterator.Search.{all_from_yields_List}
use Rattle.sets.specs.Lists.{every}
use Rattle.cases.specs.File.{transition_in}
use Rattle.cases.specs.Conditions.{transition_ok}
use Rattle.cases.specs.internal.Checks.{transitions_in}
use Rattle.cases.proofs.Checking.{all_records}
use Rattle.cases.proofs.ModelRules.{transitions_read, initial_fails, transitions_decide}
use Rattle.cases.proofs.conditions.bad_model.Goals as goal

pub returns-then-h : goal.returns-then-h
returns-then-h c = le-leb _ _ c.if-h.true ∙ initial_fails c.args.case.now.laid c.if-h.true

pub returns-else-h : goal.returns-else-h
unfolding transitions_in
returns-else-h c =
    let l = c.args.case.now.laid in
    let t = c.transitions-transitions in
    let k = t.result.count in
    let ok = transition_ok c.args.case.now.header.states c.args.case.now.header.labels in
    let ran = all_from_yields_List (λ i. ok (transition_in t.result.part.now i)) _ _ c.all.result c.all.ensures.ran (YieldsList-from_range 0 k k (cc) (omega arith)) (λ x b q k. search (rules, tests)) in
    transitions_decide l (omega arith) _ (all_records ok (transition_in t.result.part.now) k ran ∙ ap (every ok) (transitions_read l t.ensures.part t.ensures.count))
