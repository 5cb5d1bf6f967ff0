use Rattle.std.proofs.lemmas.Result.{err_from_is_err_and}
use Rattle.cases.proofs.Openings.{refused}
use Rattle.translate.specs.Translating.{translate_number, written_number, written_length}
use Rattle.translate.proofs.Translations.{case_refused}
use Rattle.translate.proofs.translate.Goals as goal

pub returns-in_err-opened : goal.returns-in_err-opened
unfolding written_number written_length translate_number
returns-in_err-opened c =
    let p = err_from_is_err_and c.from_residual.result c.from_residual.ensures.1 in
    rw (p.1, p.2) (case_refused _ _ (refused c.«open».ensures c.in_err-opened.was))
