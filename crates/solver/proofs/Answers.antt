-- Which outcome the definitions give, from plain facts, and what a call promises with each.
use mathlib.Core.Path.{◌≡◌, refl, sym, ap, ap₂, ◌∙◌}
use mathlib.Core.Bool.{Bool, true, false, or-true}
use mathlib.Core.List.{List, ◌++◌, map}
use Prim.Native.Nat.{ℕ, ◌<◌, ◌≤◌}
use native.Mathlib.Omega.{arith}
use borrow.Author.Tests.{lt-ltb}
use Rattle.std.specs.Prelude.{Ok, Err, None}
use lib.Dec.{ltb}
use lib.ListN.{length, drop, length-replicate}
use Rattle.sets.specs.States.{States, all_empty}
use Rattle.sets.specs.Words.{words, bit, marked, word_count, state_limit}
use Rattle.sets.specs.internal.Size.{SizeIs}
use Rattle.sets.proofs.Words.{marked_words}
use Rattle.solver.specs.computed.Solved.{evaluate, run}
use Rattle.solver.specs.File.{sizes_of, blocks, cells}
use Rattle.solver.specs.Conditions.{layout_ok, tables_ok, WellFormed}
use Rattle.solver.specs.internal.Forms.{opened}
use Rattle.solver.specs.Outcome.{solve_number, solve_answer, bad_layout, bad_table, solve_too_short, solve_conditions, solve_refusal, SolveEnough, report, solve_outcome, Scratch, Answered}
use Rattle.sets.specs.Refusals.{Conditions, refused, report_of}
use Rattle.sets.proofs.Refusals.{holds_here, holds_later, reports, refuses}
use Rattle.solver.specs.internal.Working.{OpenFile, IsFound, AllSolved, Reported}
use Rattle.solver.specs.declared.Sizes.{Sizes}
use Rattle.solver.specs.declared.Cause.{Cause}
use Rattle.solver.specs.declared.Cause.TheVariants.{Layout, Table, Memory, Spent}
use Rattle.solver.specs.declared.Report.{Report}
use Rattle.solver.specs.declared.Found.{Found}
use Rattle.solver.proofs.Tables.{counted, length_cells}
use Rattle.solver.proofs.Reading.{layout_facts}
use Rattle.solver.proofs.WellFormed.{ordered, inside}
use Rattle.solver.proofs.Refusals.{enough, is_0, is_14, marks_written, marks_kept, work_written, work_kept}
use Rattle.solver.proofs.Solving.{solved_sized}

-- ---- refusals

module _ (e : List ℕ) (work marks limit : ℕ) where
  pub refusal_11 : layout_ok e ≡ false → solve_refusal e work marks limit ≡ 11
  unfolding solve_refusal solve_conditions bad_layout
  refusal_11 h = sym (holds_here 11 _ _ (rw h))

  pub refusal_12 : layout_ok e ≡ true → tables_ok e ≡ false → solve_refusal e work marks limit ≡ 12
  unfolding solve_refusal solve_conditions bad_layout bad_table
  refusal_12 h g = sym (holds_later 11 _ _ (rw h) (holds_here 12 _ _ (rw g)))

  pub refusal_13 : WellFormed e → solve_too_short e work marks ≡ true → solve_refusal e work marks limit ≡ 13
  unfolding solve_refusal solve_conditions bad_layout bad_table
  refusal_13 f h = sym (holds_later 11 _ _ (rw f.layout) (holds_later 12 _ _ (rw f.tables) (holds_here 13 _ _ h)))

-- ---- what each answer promises

module _ (e work marks : List ℕ) (limit : ℕ) where
  abbrev conditions : Conditions
  conditions = solve_conditions e (length work) (length marks) limit

  -- a refusal but 14 changes nothing
  pub answered_refused : (cause : Cause) → solve_refusal e (length work) (length marks) limit ≡ solve_number cause → ¬ (solve_number cause ≡ 0) → ¬ (solve_number cause ≡ 14) →
      Answered e work marks limit (solve_answer (Err cause)) work marks
  unfolding solve_answer solve_outcome solve_refusal
  answered_refused cause h n m = record {
    answers = sym (refuses conditions (report e) (λ z. n (sym h ∙ z)) ∙ ap refused h);
    marks_are = sym (marks_kept e (length work) marks limit (λ z. n (sym h ∙ z)));
    work_is = λ _. sym (work_kept e work (length marks) limit (λ z. n (sym h ∙ z)));
    work_14 = λ z. absurd (m z);
  }

  -- 14 leaves the marks, and bits in the working bytes
  pub answered_spent : {after : List ℕ} → solve_refusal e (length work) (length marks) limit ≡ 14 → Scratch (sizes_of e).cells work after → Answered e work marks limit (solve_answer (Err Spent)) after marks
  unfolding solve_answer solve_number solve_outcome solve_refusal
  answered_spent h s = record {
    answers = sym (refuses conditions (report e) (λ z. omega arith) ∙ ap refused h);
    marks_are = sym (marks_kept e (length work) marks limit (λ z. omega arith));
    work_is = λ n. absurd (n refl);
    work_14 = λ z. s;
  }

  -- success
  pub answered_solved : (r : Report) {work_after marks_after : List ℕ} → solve_refusal e (length work) (length marks) limit ≡ 0 → solve_answer (Ok r) ≡ report e →
      marks_after ≡ words word_count ((run e).0 0) ++ drop word_count marks → work_after ≡ map bit (evaluate (cells e) (run e).0) ++ drop (sizes_of e).cells work →
      Answered e work marks limit (solve_answer (Ok r)) work_after marks_after
  unfolding solve_answer solve_outcome solve_refusal
  answered_solved r h is m w = record {
    answers = is ∙ sym (reports conditions (report e) h);
    marks_are = m ∙ sym (marks_written e (length work) marks limit h);
    work_is = λ _. w ∙ sym (work_written e work (length marks) limit h);
    work_14 = λ z. absurd (omega arith);
  }

-- ---- an opened file
module _ {e : List ℕ} {sizes : Sizes} (o : OpenFile e sizes) (work marks : List ℕ) (limit : ℕ) where
  -- lent memory that is too short, one way or the other
  short : solve_too_short e (length work) (length marks) ≡ true → Answered e work marks limit (solve_answer (Err Memory)) work marks
  unfolding solve_number
  short h = answered_refused e work marks limit Memory (refusal_13 e (length work) (length marks) limit o.formed h) (λ z. omega arith) (λ z. omega arith)

  pub few_bytes : length work < sizes.cells → Answered e work marks limit (solve_answer (Err Memory)) work marks
  unfolding solve_too_short
  few_bytes h = short (rw (lt-ltb (length work) (sizes_of e).cells (omega (arith, (counted o.counts).cells))) refl)

  pub few_words : length marks < word_count → Answered e work marks limit (solve_answer (Err Memory)) work marks
  unfolding solve_too_short
  few_words h = short (rw (lt-ltb (length marks) word_count h) (or-true (ltb (length work) (sizes_of e).cells)))

  module _ (bytes : sizes.cells ≤ length work) (room : word_count ≤ length marks) where
    lent : WellFormed e × SolveEnough e (length work) (length marks)
    lent = (o.formed, (enough e (length work) (length marks)).0 (omega (arith, (counted o.counts).cells), room))

    rest : drop sizes.cells work ≡ drop (sizes_of e).cells work
    rest = ap (λ (k : ℕ). drop k work) (counted o.counts).cells

    -- the part that was lent, and the rest
    abbrev whole : List ℕ → List ℕ
    whole after = after ++ drop sizes.cells work

    pub ended_spent : {after : List ℕ} → AllSolved e limit after None → Answered e work marks limit (solve_answer (Err Spent)) (whole after) marks
    ended_spent {after} r = answered_spent e work marks limit
        ((is_14 e (length work) (length marks) limit).1 (lent, r.answers))
        (record { bytes = after; sized = r.ready.room; bits = r.ready.bits; are = ap (λ (l : List ℕ). after ++ l) rest })

    pub ended_solved : {after : List ℕ} {found : Found} → IsFound e limit after found → {said : Report} → Reported found.row sizes.initial found.rounds said →
        {marks_after : List ℕ} → marks_after ≡ found.row ++ drop word_count marks →
        Answered e work marks limit (solve_answer (Ok said)) (whole after) marks_after
    unfolding run report
    ended_solved r {said} s m =
        let first : States = (run e).0 0 in
        let is = r.first in
        let long : length first ≡ (sizes_of e).states =
        solved_sized (sizes_of e).states (cells e) (ordered e o.formed) (blocks e) (rw (length_cells e) (inside e o.formed)) 0 (all_empty (sizes_of e).states) (λ j. length-replicate (sizes_of e).states false) 0 in
        answered_solved e work marks limit said
        ((is_0 e (length work) (length marks) limit).1 (lent, r.within))
        (s.are first (omega (arith, long, (layout_facts e o.formed.layout).counts.few_states)) is ∙ ap₂ (λ (i k : ℕ). report_of i first k) (counted o.counts).initial r.counted)
        (m ∙ ap (λ (l : List ℕ). l ++ drop word_count marks) is)
        (ap₂ (λ (x y : List ℕ). x ++ y) r.values rest)

-- what is read from a set's words is what is reported of the set
pub reported : {set : List ℕ} {initial rounds : ℕ} {verdict : Bool} {count : ℕ} → initial < state_limit → verdict ≡ marked set initial → SizeIs set count
    → Reported set initial rounds (record { verdict = verdict; count = count; rounds = rounds })
unfolding solve_answer
reported {initial = initial} low p q = record {
  are = λ v few e. rw (p ∙ ap (λ (w : List ℕ). marked w initial) e ∙ marked_words word_count v initial low, q v few e);
}

-- ---- opening a file: the condition that holds
pub unfit : {e : List ℕ} {cause : Cause} → Err cause ≡ opened e → (work marks : List ℕ) (limit : ℕ) → Answered e work marks limit (solve_answer (Err cause)) work marks
unfolding opened solve_number
unfit {e} {cause} h work marks limit = go (layout_ok e) (tables_ok e) refl refl
  where
    go : (a b : Bool) → layout_ok e ≡ a → tables_ok e ≡ b → Answered e work marks limit (solve_answer (Err cause)) work marks
    go true true p q =
        let z : opened e ≡ Ok (sizes_of e) = rw (p, q, opened) refl in
        let n : ◌≡◌ {A = ℕ} 0 1 = cc in
        absurd (omega arith)
    go true false p q =
        let z : opened e ≡ Err Table = rw (p, q, opened) refl in
        let is : cause ≡ Table = cc in
        rw is (answered_refused e work marks limit Table (refusal_12 e (length work) (length marks) limit p q) (λ z. omega arith) (λ z. omega arith))
    go false b p q =
        let z : opened e ≡ Err Layout = rw (p, opened) refl in
        let is : cause ≡ Layout = cc in
        rw is (answered_refused e work marks limit Layout (refusal_11 e (length work) (length marks) limit p) (λ z. omega arith) (λ z. omega arith))
