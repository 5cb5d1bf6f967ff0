use Rattle.std.proofs.lemmas.Result.{err_from_is_err_and}
use Rattle.routes.proofs.DirectAnswers.{memory_is, spent_is, too_short_lem, spent, solved}
use Rattle.routes.proofs.direct_parts.Goals as goal

pub returns-then-marks-lt-WORDS : goal.returns-then-marks-lt-WORDS
returns-then-marks-lt-WORDS c = too_short_lem c.args.case.now _ _ memory_is c.if-marks-lt-WORDS.true

pub returns-in_err-value : goal.returns-in_err-value
returns-in_err-value c =
    let cause = err_from_is_err_and c.from_residual.result c.from_residual.ensures.1 in
    let none = c.in_err-value.ensures in
    spent c.args.case.now _ _ c.if-marks-lt-WORDS.false (rw (cause.1, cause.2) (spent_is none.value none.ok_part)) (rw none.ok_part at c.evaluate_root.ensures)

pub returns : goal.returns
returns c =
    let some = c.in_ok-value.ensures in
    solved c.args.case.now _ _ c.if-marks-lt-WORDS.false (rw some.ok_part at c.evaluate_root.ensures) c.run_report.ensures c.store.ensures
