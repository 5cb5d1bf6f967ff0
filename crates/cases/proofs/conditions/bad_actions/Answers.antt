use mathlib.Core.Path.{sym, ap, ◌∙◌}
use mathlib.Core.Bool.{not}
use mathlib.Core.List.{List, map}
use Rattle.std.proofs.Common.{rules, tests}
use Rattle.sets.specs.Lists.{every}
use Rattle.cases.specs.Prefix.{Node, arity_in, action_arities, whole_formulas}
use Rattle.cases.specs.Conditions.{action_ok}
use Rattle.cases.proofs.ModelRules.{actions_read, actions_fail, whole_decides}
use Rattle.cases.proofs.conditions.bad_actions.Goals as goal

pub returns-then-not-all : goal.returns-then-not-all
returns-then-not-all c =
    let l = c.args.case.now.laid in
    let t = c.actions-actions in
    let ok = action_ok c.args.case.now.header.labels in
    let each = c.all.ensures ok (λ x b k. search (rules, tests)) in
    let read = actions_read l t.ensures.part t.ensures.count in
    ap not c.if-not-all.true ∙ actions_fail l (sym (each ∙ ap (every ok) read) ∙ c.if-not-all.true)

pub returns-else-not-all : goal.returns-else-not-all
returns-else-not-all c =
    let l = c.args.case.now.laid in
    let t = c.actions-actions in
    let ok = action_ok c.args.case.now.header.labels in
    let each = c.all.ensures ok (λ x b k. search (rules, tests)) in
    let read = actions_read l t.ensures.part t.ensures.count in
    whole_decides l (sym (each ∙ ap (every ok) read) ∙ c.if-not-all.false) _
    (c.whole_actions.ensures ∙ ap (λ (ns : List Node). whole_formulas 0 (map (arity_in action_arities) ns)) read)
