use mathlib.Core.Path.{sym, ap, ◌∙◌}
use Rattle.sets.specs.Words.{words, word_count}
use Rattle.cases.specs.Case.{Case}
use Rattle.cases.specs.computed.Reached.{reachable}
use Rattle.routes.proofs.RootLaws.{given_parts, given_case, case_ran}
use Rattle.routes.proofs.direct_opened.Goals as goal

pub invariant_of-given : goal.invariant_of-given
invariant_of-given c =
    let b = c.args.case.now in
    let is = given_case _ b.accepted b.laid.laid.read c.labels.ensures.part c.transitions.ensures.part c.actions.ensures.part c.formula.ensures.part in
    record {
      parts = given_parts _ b.accepted b.laid.laid.read c.labels.ensures.part c.transitions.ensures.part c.actions.ensures.part c.formula.ensures.part;
      label_count = c.labels.ensures.count;
      transition_count = c.transitions.ensures.count;
      action_count = c.actions.ensures.count;
      node_count = c.formula.ensures.count;
      reached = c.reachable.ensures ∙ ap (λ (x : Case). words word_count (reachable x)) (sym is);
    }

pub returns : goal.returns
returns c =
    let b = c.args.case.now in
    let is = given_case _ b.accepted b.laid.laid.read c.labels.ensures.part c.transitions.ensures.part c.actions.ensures.part c.formula.ensures.part in
    case_ran _ b.accepted c.direct_parts-answer.ensures is c.first_appearances-tally.ensures.tally
