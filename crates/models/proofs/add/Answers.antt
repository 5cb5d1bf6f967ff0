-- What was found decides, condition by condition.
use mathlib.Core.Path.{◌∙◌}
use native.Mathlib.Omega.{arith}
use borrow.Author.Rules.{rules}
use Rattle.models.specs.Model.{add_conditions, add_checks}
use Rattle.models.proofs.ModelLaws.{refuses, hands_on, makes, look_refuses, is_held, is_new, held_left, new_left, add_held, add_full, add_memory, add_new}
use Rattle.models.proofs.add.Goals as goal

pub returns-in_err-found : goal.returns-in_err-found
unfolding add_conditions add_checks
returns-in_err-found c = hands_on _ c.from_residual.result c.from_residual.ensures.1 (look_refuses c.args.model.now c.args.t _ c.in_err-found.ensures)

pub returns-then-is_some : goal.returns-then-is_some
returns-then-is_some c =
    let m = c.args.model.now in let found = c.in_ok-found.ensures in
    let held = is_held m c.args.t c.in_ok-found.found.place found.place (search rules) in
    makes (add_held m c.args.t found.layout found.right held) (held_left m c.args.t held)

pub returns-then-found-ge-TRANSITIONS : goal.returns-then-found-ge-TRANSITIONS
returns-then-found-ge-TRANSITIONS c =
    let m = c.args.model.now in let found = c.in_ok-found.ensures in
    let new = is_new m c.args.t c.in_ok-found.found.place found.place (search rules) in
    refuses (add_full m c.args.t found.layout found.right new (omega (arith, found.count))) (λ z. omega arith)

pub returns-then-model-found-lt6 : goal.returns-then-model-found-lt6
returns-then-model-found-lt6 c =
    let m = c.args.model.now in let found = c.in_ok-found.ensures in
    let new = is_new m c.args.t c.in_ok-found.found.place found.place (search rules) in
    refuses (add_memory m c.args.t found.layout found.right new (omega (arith, found.count)) (omega (arith, found.ends, found.inside))) (λ z. omega arith)

pub insert-requires : goal.insert-requires
insert-requires c =
    let found = c.in_ok-found.ensures in
    (found.laid, omega arith, omega (arith, found.laid.ends, found.ends, found.inside))

pub returns : goal.returns
returns c =
    let m = c.args.model.now in let found = c.in_ok-found.ensures in
    let new = is_new m c.args.t c.in_ok-found.found.place found.place (search rules) in
    makes (add_new m c.args.t found.layout found.right new (omega (arith, found.count)) (omega (arith, found.ends, found.inside))) (c.insert.ensures ∙ new_left m c.args.t new)
