-- The number that solve refuses with, and what follows from it being 0 or 14.
use mathlib.Core.Path.{◌≡◌, refl, sym, ap, ◌∙◌}
use mathlib.Core.Logic.{◌↔◌}
use mathlib.Core.Bool.{Bool, true, false, ◌||◌, true≢false}
use mathlib.Core.List.{List, [], ◌∷◌, ◌++◌, map}
use Prim.Native.Nat.{ℕ, ◌≤◌, ◌<◌}
use native.Mathlib.Omega.{arith}
use borrow.Author.Tests.{not-false, ltb-true, ltb-false, lt-ltb, le-ltb}
use lib.Dec.{ltb}
use lib.ListN.{length, drop}
use Rattle.sets.specs.Lists.{every}
use Rattle.sets.specs.Words.{words, bit, word_count}
use Rattle.sets.specs.Refusals.{Conditions, first_of, Outcome, refused}
use Rattle.sets.proofs.Refusals.{none_holds, holds_later, none_here, reached, none_reached, refusing, reports, refuses, number_is}
use Rattle.solver.specs.computed.Solved.{evaluate, run}
use Rattle.solver.specs.File.{sizes_of, cells}
use Rattle.solver.specs.Conditions.{layout_ok, tables_ok, WellFormed}
use Rattle.solver.specs.Outcome.{bad_layout, bad_table, solve_too_short, solve_exceeds, solve_conditions, solve_refusal, SolveEnough, report, solve_outcome, solve_marks, solve_work, Answered}

-- ---- the conditions in plain words

-- neither 11 nor 12 holds of a well-formed file, and of no other
pub formed : (e : List ℕ) → WellFormed e ↔ (bad_layout e ≡ false) × (bad_table e ≡ false)
unfolding bad_layout bad_table
formed e =
    (λ w. (rw w.layout, rw w.tables), λ h. record { layout = not-false (layout_ok e) h.0; tables = not-false (tables_ok e) h.1 })

-- an or that is false
or-false : (a b : Bool) → (a || b) ≡ false → (a ≡ false) × (b ≡ false)
or-false true b h = absurd (true≢false h)
or-false false b h = (refl, h)

-- 13 does not hold where a byte for each cell and the words of a set are lent
pub enough : (e : List ℕ) (work marks : ℕ) → ((sizes_of e).cells ≤ work) × (word_count ≤ marks) ↔ SolveEnough e work marks
unfolding solve_too_short
enough e work marks = (
  λ h. rw (le-ltb work (sizes_of e).cells h.0, le-ltb marks word_count h.1),
  λ h. let x = or-false (ltb work (sizes_of e).cells) (ltb marks word_count) h in (ltb-false work (sizes_of e).cells x.0, ltb-false marks word_count x.1),
)

-- ---- the number

module _ (e : List ℕ) (work marks : ℕ) where
  -- the conditions before 14
  abbrev early : Conditions
  early = (11, bad_layout e) ∷ (12, bad_table e) ∷ (13, solve_too_short e work marks) ∷ []

  none_early : first_of early ≡ 0 ↔ WellFormed e × SolveEnough e work marks
  none_early = (
    λ z.
        let x = none_here 11 _ _ (λ h. omega arith) z in
        let y = none_here 12 _ _ (λ h. omega arith) x.1 in
        ((formed e).1 (x.0, y.0), (none_here 13 _ _ (λ h. omega arith) y.1).0),
    λ w. let f = (formed e).0 w.0 in sym (holds_later 11 _ _ f.0 (holds_later 12 _ _ f.1 (holds_later 13 _ _ w.1 none_holds))),
  )

  module _ (limit : ℕ) where
    -- solve succeeds on a well-formed file with enough memory whose rounds are within the limit
    pub is_0 : solve_refusal e work marks limit ≡ 0 ↔ (WellFormed e × SolveEnough e work marks) × ((run e).1 ≤ limit)
    unfolding solve_refusal solve_conditions solve_exceeds every
    is_0 =
        let x = none_reached early 14 (solve_exceeds e limit) (λ h. omega arith) tt in (
          λ z. (none_early.0 (x.0 z).0, ltb-false limit (run e).1 (x.0 z).1),
          λ h. x.1 (none_early.1 h.0, le-ltb limit (run e).1 h.1),
        )

    -- and is spent where they exceed it
    pub is_14 : solve_refusal e work marks limit ≡ 14 ↔ (WellFormed e × SolveEnough e work marks) × (limit < (run e).1)
    unfolding solve_refusal solve_conditions solve_exceeds every
    is_14 =
        let x = reached early 14 (solve_exceeds e limit) [] (λ h. omega arith) tt tt tt in (
          λ z. (none_early.0 (x.0 z).0, ltb-true limit (run e).1 (x.0 z).1),
          λ h. x.1 (none_early.1 h.0, lt-ltb limit (run e).1 h.1),
        )

-- ---- what lent memory holds, by the number

-- The marks: written if it is 0, kept if not.
module _ (e : List ℕ) (work : ℕ) (marks : List ℕ) (limit : ℕ) where
  pub marks_written : solve_refusal e work (length marks) limit ≡ 0 → solve_marks e work marks limit ≡ words word_count ((run e).0 0) ++ drop word_count marks
  unfolding solve_marks
  marks_written z = rw z

  pub marks_kept : ¬ (solve_refusal e work (length marks) limit ≡ 0) → solve_marks e work marks limit ≡ marks
  unfolding solve_marks
  marks_kept d = refusing _ _ _ d

-- The working bytes, in the same way.
module _ (e work : List ℕ) (marks limit : ℕ) where
  pub work_written : solve_refusal e (length work) marks limit ≡ 0 → solve_work e work marks limit ≡ map bit (evaluate (cells e) (run e).0) ++ drop (sizes_of e).cells work
  unfolding solve_work
  work_written z = rw z

  pub work_kept : ¬ (solve_refusal e (length work) marks limit ≡ 0) → solve_work e work marks limit ≡ work
  unfolding solve_work
  work_kept d = refusing _ _ _ d

-- ---- the number in an answer

-- Of whatever keeps the contract of solve:
module _ {e work marks : List ℕ} {limit : ℕ} {o : Outcome} {work' marks' : List ℕ} (a : Answered e work marks limit o work' marks') where
  abbrev conditions : Conditions
  conditions = solve_conditions e (length work) (length marks) limit

  pub answered_number : o.refusal ≡ solve_refusal e (length work) (length marks) limit
  unfolding solve_outcome solve_refusal report
  answered_number = ap (λ (o : Outcome). o.refusal) a.answers ∙ number_is conditions (report e) refl

  -- with 0 the report is answered, with another number that number and zeros
  pub answered_report : o.refusal ≡ 0 → o ≡ report e
  unfolding solve_outcome solve_refusal
  answered_report z = a.answers ∙ reports conditions (report e) (sym answered_number ∙ z)

  pub answered_refusal : ¬ (o.refusal ≡ 0) → o ≡ refused o.refusal
  unfolding solve_outcome solve_refusal
  answered_refusal d = a.answers ∙ refuses conditions (report e) (λ z. d (answered_number ∙ z)) ∙ ap refused (sym answered_number)

  -- with 0 the marks and the working bytes are written
  pub answered_marks : o.refusal ≡ 0 → marks' ≡ words word_count ((run e).0 0) ++ drop word_count marks
  answered_marks z = a.marks_are ∙ marks_written e (length work) marks limit (sym answered_number ∙ z)

  pub answered_work : o.refusal ≡ 0 → work' ≡ map bit (evaluate (cells e) (run e).0) ++ drop (sizes_of e).cells work
  answered_work z = a.work_is (λ s. omega arith) ∙ work_written e work (length marks) limit (sym answered_number ∙ z)
