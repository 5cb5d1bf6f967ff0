-- What the equation route promises from what translate and solve promise.
use mathlib.Core.Path.{◌≡◌, refl, sym, ap, subst, ◌∙◌}
use mathlib.Core.Bool.{Bool, true, false}
use mathlib.Core.List.{List, ◌++◌}
use Prim.Native.Nat.{ℕ, ◌≤◌}
use native.Mathlib.Omega.{arith}
use borrow.Author.Tests.{ltb-true, ltb-false}
use lib.Dec.{ltb}
use Rattle.sets.specs.Words.{words, word_count}
use lib.ListN.{length, take, drop, length-append}
use lib.Seq.{take-append_seam}
use Rattle.std.specs.Prelude.{Result, Ok, Err}
use Rattle.sets.specs.Refusals.{Outcome, first_of, refused}
use Rattle.sets.proofs.Refusals.{refusing, number_is, reports}
use Rattle.solver.specs.declared.Sizes.{Sizes}
use Rattle.solver.specs.File.{sizes_of, blocks_at}
use Rattle.solver.proofs.Reading.{layout_facts}
use Rattle.solver.specs.Outcome.{report, solve_number, solve_answer, solve_refusal, solve_outcome, solve_marks, solve_work, Answered}
use Rattle.solver.specs.declared.Cause.{Cause as SolveCause}
use Rattle.solver.specs.declared.Cause.TheVariants.{Layout, Table, Memory, Spent}
use Rattle.solver.specs.declared.Report.{Report}
use Rattle.solver.proofs.Promises.{refused_unchanged}
use Rattle.cases.specs.Case.{case_of}
use Rattle.cases.specs.Conditions.{Accepted}
use Rattle.cases.specs.declared.Tally.{Tally}
use Rattle.cases.specs.Tally.{tally_of}
use Rattle.translate.specs.Translating.{file, file_after, translate_refusal, written_number, written_length, Translated}
use Rattle.translate.specs.declared.Cause.{Cause}
use Rattle.translate.proofs.Promises.{well_formed, writes}
use Rattle.translate.proofs.Translations.{some_number, unrefused, lacks_room}
use Rattle.cases.specs.computed.Reached.{reachable}
use Rattle.routes.specs.declared.Cause.TheVariants.{Run}
use Rattle.routes.specs.Route.{route_number, route_answer, equation, Lent, run_of, route_conditions, run_report, work_after, RanBy, EquationRan}
use Rattle.routes.specs.internal.Answering.{ReportedBy}
use Rattle.routes.specs.Price.{price, run_price}
use Rattle.sets.proofs.Words.{words_length, take_words}
use Rattle.cases.proofs.Reaching.{reachable_sized}
use Rattle.routes.proofs.Outcomes.{few_states, run_sized}
use Rattle.routes.proofs.RouteLaws.{translate_then_solve, translate_never_14}
use Rattle.routes.proofs.DirectAnswers.{ran_refused, ran_solved}

-- no cause has the number 0
some_cause : (cause : SolveCause) → ¬ (solve_number cause ≡ 0)
unfolding solve_number
some_cause Layout e = omega arith
some_cause Table e = omega arith
some_cause Memory e = omega arith
some_cause Spent e = omega arith

-- A file has no number, and its length is answered.
pub file_number : {w : Result ℕ Cause} {k : ℕ} → w ≡ Ok k → written_number w ≡ 0
unfolding written_number
file_number e = ap written_number e

pub file_long : {w : Result ℕ Cause} {k : ℕ} → w ≡ Ok k → written_length w ≡ k
unfolding written_length
file_long e = ap written_length e

module _ {b : List ℕ} (l : Lent) {file' : List ℕ} {number long : ℕ} (t : Translated b l.file number long file') (limit : ℕ) where
  abbrev room : ℕ
  room = length l.file

  -- ---- a refusal of translate's is the route's
  module _ (d : ¬ (number ≡ 0)) where
    none : ¬ (translate_refusal b room ≡ 0)
    none z = d (t.answers ∙ z)

    first_is : first_of (route_conditions equation b l limit) ≡ number
    first_is = translate_then_solve b l limit ∙ refusing (translate_refusal b room) _ (translate_refusal b room) none ∙ sym t.answers

    pub translate_refused : {o : Outcome} {tally : Tally} → o ≡ refused number → tally ≡ tally_of b → EquationRan b l limit o tally file' l.work l.marks
    unfolding file_after work_after
    translate_refused is tally_is = record {
      ran = record { by = ran_refused is first_is d; tally_is = tally_is };
      file_is = t.bytes;
      work_is = λ n. sym (refusing (first_of (route_conditions equation b l limit)) _ _ (λ z. d (sym first_is ∙ z)));
      work_14 = λ z. absurd (translate_never_14 b room (sym (ap (λ (o : Outcome). o.refusal) is ∙ t.answers) ∙ z));
    }

  -- of an accepted case it is 13
  pub short_refused : {w : Result ℕ Cause} {cause : Cause} → w ≡ Err cause → number ≡ written_number w → Accepted b
      → {o : Outcome} {tally : Tally} → o ≡ refused 13 → tally ≡ tally_of b → EquationRan b l limit o tally file' l.work l.marks
  unfolding written_number
  short_refused {cause = cause} e is ok said tally_is =
      let some : ¬ (number ≡ 0) = λ z. some_number cause (sym (is ∙ ap written_number e) ∙ z) in
      translate_refused some (said ∙ ap refused (sym (by (ltb room (length (file b))) refl some))) tally_is
    where
      by : (x : Bool) → ltb room (length (file b)) ≡ x → ¬ (number ≡ 0) → number ≡ 13
      by true h some = t.answers ∙ (lacks_room b room).1 (ok, ltb-true room (length (file b)) h)
      by false h some = absurd (some (t.answers ∙ (unrefused b room).1 (ok, ltb-false room (length (file b)) h)))

  -- ---- what is written is the file of an accepted case
  module _ {k : ℕ} (zero_number : number ≡ 0) (length_is : long ≡ k) where
    nothing : translate_refusal b room ≡ 0
    nothing = sym t.answers ∙ zero_number

    pub accepted : Accepted b
    accepted = ((unrefused b room).0 nothing).0

    written_length_lem : k ≡ length (file b)
    written_length_lem = sym length_is ∙ (writes t zero_number).1

    pub written_file : take k file' ≡ file b
    written_file = rw (written_length_lem, (writes t zero_number).0) (take-append_seam (file b) _)

    pub written_fits : k ≤ length file'
    written_fits = rw (written_length_lem, (writes t zero_number).0) (simp length-append (omega arith))

    -- It has a header, whose number of cells is the one that is paid for.
    pub has_header : blocks_at ≤ length (take k file')
    has_header = let r = layout_facts (file b) (well_formed b accepted).layout in rw written_file (omega (arith, r.places.ends))

    pub priced : (o : Outcome) {cents : ℕ} {sizes : Sizes} → sizes ≡ sizes_of (take k file') → cents ≡ price o sizes.cells limit → cents ≡ run_price b limit o
    unfolding run_price
    priced o s e = rw (s, written_file) at e

    -- The route's number is solve's on it,
    number_solve : first_of (route_conditions equation b l limit) ≡ solve_refusal (file b) (length l.work) (length l.marks) limit
    number_solve = translate_then_solve b l limit ∙ rw nothing

    module _ {said : Outcome} {work' marks' : List ℕ} (answered : Answered (take k file') l.work l.marks limit said work' marks') where
      solves : Answered (file b) l.work l.marks limit said work' marks'
      solves = rw written_file at answered

      number_said : first_of (route_conditions equation b l limit) ≡ said.refusal
      unfolding solve_refusal solve_outcome report
      number_said = number_solve ∙ sym (ap (λ (o : Outcome). o.refusal) solves.answers ∙ number_is _ _ refl)

      -- and so is all that it leaves, where it answers with that number.
      left : {o : Outcome} {tally : Tally} → o.refusal ≡ said.refusal → tally ≡ tally_of b
          → RanBy (route_conditions equation b l limit) equation (case_of b) l.marks o marks' → EquationRan b l limit o tally file' work' marks'
      unfolding file_after work_after solve_work
      left same tally_is by = record {
        ran = record { by = by; tally_is = tally_is };
        file_is = t.bytes;
        work_is = λ n. solves.work_is (λ z. n (same ∙ z)) ∙ rw number_solve;
        work_14 = λ z. solves.work_14 (sym same ∙ z);
      }

    -- A refusal of solve's is the route's.
    pub route_refused : (cause : SolveCause) {work' marks' : List ℕ} → Answered (take k file') l.work l.marks limit (solve_answer (Err cause)) work' marks'
        → {tally : Tally} → tally ≡ tally_of b → EquationRan b l limit (route_answer (Err (Run cause))) tally file' work' marks'
    unfolding route_answer route_number solve_answer
    route_refused cause answered tally_is =
        left answered refl tally_is (subst (RanBy (route_conditions equation b l limit) equation (case_of b) l.marks (refused (solve_number cause)))
        (sym (refused_unchanged (solves answered) (some_cause cause)).0) (ran_refused refl (number_said answered) (some_cause cause)))

    -- What it solves is reported of the marks that it leaves, and of the states that can be reached.
    module _ (solved : Report) {work' marks' : List ℕ} (answered : Answered (take k file') l.work l.marks limit (solve_answer (Ok solved)) work' marks') where
      nothing_said : solve_refusal (file b) (length l.work) (length l.marks) limit ≡ 0
      unfolding solve_answer
      nothing_said = sym number_solve ∙ number_said answered

      marks_solved : marks' ≡ words word_count (run_of equation (case_of b)).0 ++ drop word_count l.marks
      unfolding solve_marks run_of
      marks_solved = (solves answered).marks_are ∙ rw nothing_said

      pub marks_long : word_count ≤ length marks'
      marks_long = rw marks_solved (simp length-append (omega (arith, words_length word_count (run_of equation (case_of b)).0)))

      rounds_solved : solved.rounds ≡ (run_of equation (case_of b)).1
      unfolding solve_answer solve_outcome solve_refusal report run_of
      rounds_solved = ap (λ (o : Outcome). o.rounds) ((solves answered).answers ∙ reports _ _ nothing_said)

      pub route_solved : {initial : ℕ} {marked reached : List ℕ} {said : Report} → ReportedBy initial marked reached solved.rounds said → (case_of b).initial ≡ initial
          → marked ≡ take word_count marks' → reached ≡ words word_count (reachable (case_of b))
          → {tally : Tally} → tally ≡ tally_of b → EquationRan b l limit (route_answer (Ok said)) tally file' work' marks'
      unfolding solve_answer route_answer
      route_solved f initial_is marked_is reached_is tally_is =
          let v = (run_of equation (case_of b)).0 in
          let held = marked_is ∙ ap (take word_count) marks_solved ∙ take_words word_count v (drop word_count l.marks) in
          let said_is = f.are (case_of b) v (reachable (case_of b)) initial_is (run_sized b accepted equation) (reachable_sized (case_of b)) (few_states b accepted) held reached_is in
          left answered refl tally_is (ran_solved (number_said answered) (said_is ∙ ap (run_report (case_of b) v (reachable (case_of b))) rounds_solved) marks_solved)
