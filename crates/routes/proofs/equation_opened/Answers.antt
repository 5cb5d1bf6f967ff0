use mathlib.Core.Path.{refl, sym}
use mathlib.Core.List.{[]}
use native.Mathlib.Omega.{arith}
use lib.Seq.{length-take-le}
use Rattle.solver.specs.Outcome.{solve_number}
use Rattle.routes.specs.Route.{lent, route_number, route_answer}
use Rattle.routes.specs.Price.{price, run_price}
use Rattle.routes.proofs.DirectAnswers.{memory_is}
use Rattle.routes.proofs.EquationAnswers.{file_number, file_long, short_refused, written_fits, has_header, priced, marks_long, route_solved, route_refused}
use Rattle.routes.proofs.Outcomes.{initial_is, initial_below}
use Rattle.routes.proofs.equation_opened.Goals as goal
use Rattle.routes.proofs.equation_opened.Goals.{in-Ok-solve, in-Err}

pub returns-in_default-clause-ran : goal.returns-in_default-clause-ran
returns-in_default-clause-ran c =
    short_refused (lent _ _ _) c.write_case-written.ensures _ c.in_default.is refl c.args.case.accepted memory_is c.first_appearances-tally.ensures.tally

pub returns-in_default-clause-price : goal.returns-in_default-clause-price
unfolding run_price price route_answer route_number solve_number
returns-in_default-clause-price c = refl

pub slice_bounds-equations-end : goal.slice_bounds-equations-end
slice_bounds-equations-end c = omega (arith, written_fits (lent _ [] []) c.write_case-written.ensures 0 (file_number c.in-Ok.is) (file_long c.in-Ok.is))

pub slice_bounds-equations-end-2 : goal.slice_bounds-equations-end-2
slice_bounds-equations-end-2 c =
    sym (length-take-le _ _ (omega (arith, written_fits (lent _ [] []) c.write_case-written.ensures 0 (file_number c.in-Ok.is) (file_long c.in-Ok.is))))

pub sizes_of-cells-requires : goal.sizes_of-cells-requires
sizes_of-cells-requires c = has_header (lent _ [] []) c.write_case-written.ensures 0 (file_number c.in-Ok.is) (file_long c.in-Ok.is)

pub returns-clause-ran : goal.returns-clause-ran
returns-clause-ran c =
    let case = c.args.case in
    let number = file_number c.in-Ok.is in
    let long = file_long c.in-Ok.is in
    let tally = c.first_appearances-tally.ensures.tally in
    elim c.match-solve.branch [
      | in-Ok-solve w ↦ rw w.answer-is (route_solved (lent _ _ _) c.write_case-written.ensures _ number long w.in-Ok-solve.solved (rw w.in-Ok-solve.is at c.solve.ensures)
          w.run_report.ensures (initial_is case.laid.bytes.now case.accepted case.laid.laid.read) w.load-marked.ensures w.reachable-reached.ensures tally)
      | in-Err w ↦ rw w.answer-is (route_refused (lent _ _ _) c.write_case-written.ensures _ number long w.in-Err.cause (rw w.in-Err.is at c.solve.ensures) tally)
    ]

pub run_report-requires : goal.run_report-requires
run_report-requires c = initial_below c.args.case.laid.bytes.now c.args.case.accepted c.args.case.laid.laid.read

pub load-marked-requires : goal.load-marked-requires
load-marked-requires c =
    marks_long (lent _ _ _) c.write_case-written.ensures _ (file_number c.in-Ok.is) (file_long c.in-Ok.is) c.in-Ok-solve.solved (rw c.in-Ok-solve.is at c.solve.ensures)

pub returns-clause-price : goal.returns-clause-price
returns-clause-price c = priced (lent _ [] []) c.write_case-written.ensures _ (file_number c.in-Ok.is) (file_long c.in-Ok.is) _ c.sizes_of-cells.ensures c.price.ensures
