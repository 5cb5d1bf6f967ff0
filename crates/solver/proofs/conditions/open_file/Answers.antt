use mathlib.Core.Path.{sym, ◌∙◌}
use Rattle.std.proofs.lemmas.Result.{err_from_is_err_and}
use Rattle.solver.proofs.Reading.{opened_table, opens}
use Rattle.solver.proofs.conditions.open_file.Goals as goal

pub returns-in_err-tables-clause-refuses : goal.returns-in_err-tables-clause-refuses
returns-in_err-tables-clause-refuses c =
    let p = err_from_is_err_and c.from_residual.result c.from_residual.ensures.1 in
    rw (p.1, p.2) c.in_err-tables.ensures.refuses

pub returns-then-not-tables_hold-clause-refuses : goal.returns-then-not-tables_hold-clause-refuses
returns-then-not-tables_hold-clause-refuses c = rw c.in_ok-tables.ensures.lays_out at (opened_table c.in_ok-tables.tables.read (sym c.tables_hold.ensures ∙ c.if-not-tables_hold.true))

pub invariant_of-result : goal.invariant_of-result
invariant_of-result c = record { opens = opens c.in_ok-tables.tables.read (sym c.tables_hold.ensures ∙ c.if-not-tables_hold.false) }
