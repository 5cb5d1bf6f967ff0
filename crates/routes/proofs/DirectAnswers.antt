-- What a run promises with each answer, by its conditions; and what direct answers from the parts of a case.
use mathlib.Core.Path.{◌≡◌, refl, sym, ap, ◌∙◌}
use mathlib.Core.Bool.{Bool, false, ◌&&◌}
use mathlib.Core.List.{List, ◌++◌}
use Prim.Native.Nat.{ℕ, ◌<◌, ◌≤◌}
use native.Mathlib.Omega.{arith}
use borrow.Author.Tests.{lt-ltb, le-ltb}
use lib.ListN.{length, drop, length-replicate}
use Rattle.std.specs.Prelude.{Result, Ok, Err, Option, None}
use Rattle.std.specs.Option.{ok_or}
use Rattle.sets.specs.States.{States, has, all_empty}
use Rattle.sets.specs.Words.{words, word_count, state_limit, marked as marked_in}
use Rattle.sets.specs.internal.Size.{SizeIs}
use Rattle.sets.proofs.Lists.{length_table}
use Rattle.sets.proofs.Words.{marked_words}
use Rattle.cases.specs.Meaning.{intersection}
use Rattle.sets.specs.Refusals.{Conditions, first_of, refused, outcome_by, Outcome}
use Rattle.sets.proofs.Refusals.{refusing, reports, refuses}
use Rattle.cases.specs.Case.{Case}
use Rattle.cases.specs.computed.Reached.{reachable}
use Rattle.cases.proofs.Reaching.{reachable_sized}
use Rattle.solver.specs.declared.Cause.{Cause}
use Rattle.solver.specs.declared.Cause.TheVariants.{Memory, Spent}
use Rattle.solver.specs.Outcome.{solve_number}
use Rattle.routes.specs.declared.Cause.TheVariants.{Run}
use Rattle.solver.specs.declared.Report.{Report}
use Rattle.routes.specs.declared.evaluate.Value.{Value}
use Rattle.routes.specs.Route.{route_number, route_answer, Route, direct, run_of, marks_only, too_short, exceeds, run_conditions, run_report, route_outcome, marks_after, RanBy}
use Rattle.routes.specs.internal.Answering.{RootValue, ReportedBy}
use Rattle.routes.specs.internal.Parts.{case_in}
use Rattle.routes.specs.internal.Given.{case_given}
use Rattle.routes.specs.declared.direct_case.DirectCase.{DirectCase}
use Rattle.routes.proofs.DirectLaws.{worked_sized}

-- the two causes that a run has beside those of its case
pub memory_is : route_answer (Err (Run Memory)) ≡ refused 13
unfolding route_answer route_number solve_number
memory_is = refl

-- the number of a cause in place of a value
number_in : Result Value Cause → ℕ
number_in (Ok x) = 0
number_in (Err cause) = solve_number cause

pub spent_is : {o : Option Value} {cause : Cause} → Err cause ≡ ok_or o Spent → o ≡ None → route_answer (Err (Run cause)) ≡ refused 14
unfolding number_in route_answer route_number solve_number
spent_is is none = ap (λ (r : Result Value Cause). refused (number_in r)) (is ∙ ap (λ (o : Option Value). ok_or o Spent) none)

-- what is read from the words of two sets is what is reported of them
pub reported_by : {marked reached both : List ℕ} {initial rounds : ℕ} {verdict : Bool} {count : ℕ} → initial < state_limit → verdict ≡ marked_in marked initial
    → ((n : ℕ) (v w : States) → length v ≡ n → length w ≡ n → marked ≡ words word_count v → reached ≡ words word_count w → both ≡ words word_count (intersection n v w))
    → SizeIs both count → ReportedBy initial marked reached rounds (record { verdict = verdict; count = count; rounds = rounds })
unfolding route_answer
reported_by {initial = initial} low p q size_is = record {
  are = λ c v w is long long' few e f.
      let held = p ∙ ap (λ (ws : List ℕ). marked_in ws initial) e ∙ marked_words word_count v initial low in
      rw (is, held, size_is (intersection c.states v w) (omega (arith, length_table (λ s. has v s && has w s) c.states, few)) (q c.states v w long long' e f));
}

-- ---- by the conditions

module _ {R : Route} {c : Case} {marks : List ℕ} where
  -- a refusal
  pub ran_refused : {cs : Conditions} {o : Outcome} {k : ℕ} → o ≡ refused k → first_of cs ≡ k → ¬ (k ≡ 0) → RanBy cs R c marks o marks
  unfolding route_outcome marks_after
  ran_refused {cs} is e d = record {
    answers = is ∙ sym (refuses cs _ (λ z. d (sym e ∙ z)) ∙ ap refused e);
    marks_are = sym (refusing (first_of cs) _ _ (λ z. d (sym e ∙ z)));
  }

  -- success
  pub ran_solved : {cs : Conditions} {o : Outcome} {after : List ℕ} → first_of cs ≡ 0 → o ≡ run_report c (run_of R c).0 (reachable c) (run_of R c).1
      → after ≡ words word_count (run_of R c).0 ++ drop word_count marks → RanBy cs R c marks o after
  unfolding route_outcome marks_after
  ran_solved {cs} z is a = record { answers = is ∙ sym (reports cs _ z); marks_are = a ∙ sym (rw z) }

  -- only the first condition that holds matters
  pub ran_first : {cs ds : Conditions} {o : Outcome} {after : List ℕ} → first_of cs ≡ first_of ds → RanBy cs R c marks o after → RanBy ds R c marks o after
  unfolding route_outcome marks_after outcome_by
  ran_first e r = record { answers = rw e at r.answers; marks_are = rw e at r.marks_are }

-- ---- direct, from the parts of a case

module _ (c : Case) (marks : List ℕ) (limit : ℕ) where
  abbrev conditions : Conditions
  conditions = run_conditions direct c (marks_only marks) limit

  -- 13
  number_13 : length marks < word_count → first_of conditions ≡ 13
  unfolding run_conditions too_short first_of
  number_13 h = rw (lt-ltb (length marks) word_count h)

  module _ (room : word_count ≤ length marks) where
    -- 14, or none
    number_14 : limit < (run_of direct c).1 → first_of conditions ≡ 14
    unfolding run_conditions too_short exceeds first_of
    number_14 h = rw (le-ltb (length marks) word_count room, lt-ltb limit (run_of direct c).1 h)

    number_0 : (run_of direct c).1 ≤ limit → first_of conditions ≡ 0
    unfolding run_conditions too_short exceeds first_of
    number_0 h = rw (le-ltb (length marks) word_count room, le-ltb limit (run_of direct c).1 h)

-- what direct works out of a case has as many states as the case
run_sized : (c : Case) → length (run_of direct c).0 ≡ c.states
unfolding run_of
run_sized c = worked_sized c.states c.transitions c.formula (all_empty c.states) (λ k. length-replicate c.states false)

module _ (d : DirectCase) (marks : List ℕ) (limit : ℕ) where
  abbrev c : Case
  c = case_given d

  pub too_short_lem : {o : Outcome} → o ≡ refused 13 → length marks < word_count → RanBy (conditions c marks limit) direct c marks o marks
  too_short_lem is h = ran_refused is (number_13 c marks limit h) (λ z. omega arith)

  module _ (room : word_count ≤ length marks) where
    pub spent : {said : Outcome} → said ≡ refused 14 → limit < (run_of direct c).1 → RanBy (conditions c marks limit) direct c marks said marks
    spent is over = ran_refused is (number_14 c marks limit room over) (λ z. omega arith)

    -- success
    pub solved : {x : Value} → RootValue (run_of direct c) limit x → {report : Report} → ReportedBy d.header.initial x.set d.reachable x.rounds report
        → {after : List ℕ} → after ≡ x.set ++ drop word_count marks → RanBy (conditions c marks limit) direct c marks (route_answer (Ok report)) after
    unfolding case_in
    solved r f is = ran_solved (number_0 c marks limit room r.within)
        (f.are c (run_of direct c).0 (reachable c) refl (run_sized c) (reachable_sized c) d.parts.model.few_states r.set d.reached
        ∙ ap (run_report c (run_of direct c).0 (reachable c)) r.rounds)
        (is ∙ ap (λ (w : List ℕ). w ++ drop word_count marks) r.set)
