use native.Mathlib.Omega.{arith}
use Rattle.solver.proofs.Reading.{opens_read}
use Rattle.solver.proofs.Answers.{few_bytes, few_words, ended_spent, ended_solved}
use Rattle.solver.proofs.solve_opened.Goals as goal

pub returns-then-work-c : goal.returns-then-work-c
returns-then-work-c c = few_bytes c.args.file.now.opens _ _ _ (omega arith)

pub returns-then-marks-lt-WORDS : goal.returns-then-marks-lt-WORDS
returns-then-marks-lt-WORDS c = few_words c.args.file.now.opens _ _ _ c.if-marks-lt-WORDS.true

pub returns-in_default : goal.returns-in_default
returns-in_default c = ended_spent c.args.file.now.opens _ _ _ (omega arith) (omega arith) (rw c.in_default.is at c.run.ensures)

pub of_set-requires : goal.of_set-requires
of_set-requires c = let n = (opens_read c.args.file.now.opens).counts in omega arith

pub returns : goal.returns
returns c =
    ended_solved c.args.file.now.opens _ _ _ c.if-work-c.false c.if-marks-lt-WORDS.false c.in-Some.ensures.answers c.of_set.ensures c.store.ensures
