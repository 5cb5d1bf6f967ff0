use borrow.Author.Rules.{rules}
use Rattle.sets.proofs.Refusals.{holds_here, holds_later, none_holds}
use Rattle.cases.specs.Conditions.{model_conditions}
use Rattle.cases.proofs.Openings.{number_err, number_ok}
use Rattle.cases.proofs.conditions.check_model.Goals as goal

pub returns-then-bad_model : goal.returns-then-bad_model
unfolding model_conditions
returns-then-bad_model c = number_err _ (holds_here _ _ _ (search rules))

pub returns-then-bad_labels : goal.returns-then-bad_labels
unfolding model_conditions
returns-then-bad_labels c = number_err _ (holds_later _ _ _ (search rules) (holds_here _ _ _ (search rules)))

pub returns-then-bad_actions : goal.returns-then-bad_actions
unfolding model_conditions
returns-then-bad_actions c = number_err _ (holds_later _ _ _ (search rules) (holds_later _ _ _ (search rules) (holds_here _ _ _ (search rules))))

pub returns : goal.returns
unfolding model_conditions
returns c = number_ok (holds_later _ _ _ (search rules) (holds_later _ _ _ (search rules) (holds_later _ _ _ (search rules) none_holds)))
