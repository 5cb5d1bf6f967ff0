-- Evaluating from the root: what the evaluator is handed and answers there, and the three parts of an accepted case.
use mathlib.Core.Path.{◌≡◌, refl, sym, ◌∙◌}
use mathlib.Core.Bool.{false}
use mathlib.Core.List.{List, []}
use Prim.Native.Nat.{ℕ, ◌+◌, ◌<◌, ◌≤◌}
use native.Mathlib.Omega.{arith}
use borrow.Author.Tests.{ltb-false}
use lib.ListN.{take, replicate, length-replicate, get_or-replicate}
use Rattle.std.specs.Prelude.{Option, Some, None}
use Rattle.sets.specs.Words.{words, word_count}
use Rattle.sets.specs.computed.Iteration.{Worked}
use Rattle.sets.proofs.Words.{words_none}
use Rattle.solver.specs.File.{block_limit}
use Rattle.sets.specs.States.{all_empty}
use Rattle.cases.specs.Action.{Action}
use Rattle.cases.specs.declared.Header.{Header}
use Rattle.cases.specs.declared.Node.{Node}
use Rattle.cases.specs.Prefix.{formula_at}
use Rattle.cases.specs.File.{header_of, label_table, transition_table, action_table, formula_table}
use Rattle.cases.specs.Case.{Case, case_of}
use Rattle.cases.specs.declared.Tally.{Tally}
use Rattle.cases.specs.Tally.{tally_of}
use Rattle.cases.specs.Conditions.{binder_count, block_total, too_deep, Accepted}
use Rattle.sets.specs.Refusals.{Outcome}
use Rattle.cases.specs.internal.Checks.{label_part, transition_part, action_part, formula_part, labels_in, transitions_in, nodes_in}
use Rattle.cases.specs.internal.Masks.{action_in, ActionMasks}
use Rattle.cases.proofs.Accepting.{Passed, passed}
use Rattle.cases.proofs.TableTrees.{formula_table_lem, root}
use Rattle.cases.proofs.Masks.{whole_actions}
use Rattle.cases.proofs.ModelRules.{labels_inside, transitions_inside, actions_inside, nodes_inside}
use Rattle.cases.proofs.Tallies.{model_holds}
use Rattle.cases.proofs.FormulaRules.{length_nodes}
use Rattle.routes.specs.declared.evaluate.Value.{Value}
use Rattle.routes.specs.computed.Worked.{worked}
use Rattle.routes.specs.Route.{direct, run_of, marks_only, run_conditions, RanBy, Ran}
use Rattle.routes.specs.internal.Answering.{Rooted}
use Rattle.routes.specs.internal.Parts.{FormulaPart, case_in, CaseParts}
use Rattle.routes.specs.internal.Given.{case_given}
use Rattle.routes.specs.internal.Evaluating.{states_of, nodes_of, transitions_of, Shown, Asks, Rule, Evaluated}
use Rattle.routes.specs.declared.evaluator.Evaluator.{Evaluator}
use Rattle.routes.proofs.DirectLaws.{direct_exists}
use Rattle.routes.proofs.TableLaws.{binders_before}
use Rattle.routes.proofs.RouteLaws.{case_accepted}
use Rattle.routes.proofs.DirectAnswers.{ran_first}

-- ---- from the parts

-- a formula part has a root
some_node : {part : List ℕ} {f a : ℕ} → FormulaPart part f a → 0 < f
some_node {part} {f} {a} p =
    let t : List Node = nodes_in part f in
    omega (arith, root t (formula_table_lem a t p.formed), length_nodes part f)

-- before any round every set is empty
none_shown : (n : ℕ) (t : List Node) → binder_count t ≤ block_limit → Shown n t (replicate block_limit (replicate word_count 0)) (all_empty n)
none_shown n t few = record {
  sized = λ i. length-replicate n false;
  row = λ i h e.
      let low : binder_count (take i t) < block_limit = omega (arith, binders_before t i h e) in
      get_or-replicate block_limit (binder_count (take i t)) (replicate word_count 0) [] low ∙ words_none word_count n;
}

module _ (ev : Evaluator) where
  -- what it is asked at the root
  pub root_asked : Asks ev 0 0
  root_asked = record { node = some_node ev.case.parts.formula_part; within = omega arith }

  -- and what it answers there
  pub root_answer : ActionMasks (action_in ev.case.header ev.case.labels.part.now ev.case.actions.part.now) ev.case.header.actions ev.masks.now
      → (o : Option Value) → Evaluated ev (replicate block_limit (replicate word_count 0)) 0 0 o → Rooted (run_of direct (case_given ev.case)) ev.limit o
  unfolding run_of case_in
  root_answer are = go
    where
      n : ℕ
      n = states_of ev

      action : ℕ → Action
      action = action_in ev.case.header ev.case.labels.part.now ev.case.actions.part.now

      w : Worked
      w = worked n (transitions_of ev) (formula_at action (nodes_of ev) 0) (all_empty n)

      given : Rule ev (replicate block_limit (replicate word_count 0)) 0 0 action (all_empty n) w.0 w.1
      given =
          let shown = none_shown n (nodes_of ev) ev.case.parts.formula_part.shallow in
          (are, shown, direct_exists n (transitions_of ev) (formula_at action (nodes_of ev) 0) (all_empty n) shown.sized)

      go : (o : Option Value) → Evaluated ev (replicate block_limit (replicate word_count 0)) 0 0 o → Rooted w ev.limit o
      go None e = omega (arith, e.over action (all_empty n) w.0 w.1 given)
      go (Some x) e =
          let right : (x.rounds ≡ 0 + w.1) × (x.set ≡ words word_count w.0) = e.right action (all_empty n) w.0 w.1 given in
          record { within = omega (arith, e.high, right.0); rounds = omega (arith, right.0); set = right.1 }

-- ---- an accepted case

-- a table that is not too deep has at most six binders
few_binders : (t : List Node) → too_deep t ≡ false → binder_count t ≤ block_limit
unfolding too_deep block_total
few_binders t e = omega (arith, ltb-false block_limit (block_total t) e)

module _ (b : List ℕ) (accepted : Accepted b) where
  -- The parts of an accepted case that start at its tables are as direct needs them,
  header_parts : CaseParts (header_of b) (label_part b) (transition_part b) (action_part b) (formula_part b)
  unfolding transition_table action_table formula_table transitions_in nodes_in
  header_parts =
      let good : Passed b = passed b accepted in
      let l = good.lies in
      record {
        model = record {
          inside = transitions_inside l;
          ok = (model_holds b good.model).1;
          few_states = l.counts.few_states;
          few_labels = l.counts.few_labels;
        };
        initial = (model_holds b good.model).0;
        label_part = labels_inside l;
        action_part = actions_inside l;
        whole_actions = whole_actions b good.actions;
        formula_part = record {
          holds = nodes_inside l;
          formed = good.formula;
          bound = good.variables;
          shallow = few_binders (formula_table b) good.depth;
        };
      }

  -- and their case is the case of the bytes.
  header_case : case_in (header_of b) (label_part b) (transition_part b) (action_part b) (formula_part b) ≡ case_of b
  unfolding case_in case_of label_table transition_table action_table formula_table labels_in transitions_in nodes_in
  header_case = refl

  -- So are parts that are equal to them.
  module _ {h : Header} {labels records actions formula : List ℕ} (read : h ≡ header_of b) (ls : labels ≡ label_part b) (ts : records ≡ transition_part b)
      (acts : actions ≡ action_part b) (fs : formula ≡ formula_part b) where
    pub given_parts : CaseParts h labels records actions formula
    given_parts = rw (read, ls, ts, acts, fs) header_parts

    pub given_case : case_in h labels records actions formula ≡ case_of b
    given_case = rw (read, ls, ts, acts, fs) header_case

  -- What direct promises of that case it promises of the bytes.
  pub case_ran : {c : Case} {marks : List ℕ} {limit : ℕ} {o : Outcome} {after : List ℕ}
      → RanBy (run_conditions direct c (marks_only marks) limit) direct c marks o after → c ≡ case_of b
      → {t : Tally} → t ≡ tally_of b → Ran direct b (marks_only marks) limit o t after
  case_ran {marks = marks} {limit = limit} r is tally_is =
      record { tally_is = tally_is; by = ran_first (sym (case_accepted direct b (marks_only marks) limit accepted)) (rw is at r) }
