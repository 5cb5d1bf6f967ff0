use mathlib.Core.Path.{refl}
use Rattle.std.proofs.lemmas.Result.{err_from_is_err_and}
use Rattle.solver.specs.Outcome.{solve_answer}
use Rattle.routes.specs.Route.{route_number, route_answer}
use Rattle.routes.proofs.outcome.solving_answer.Goals as goal

pub returns-in_err-answer : goal.returns-in_err-answer
unfolding route_number route_answer solve_answer
returns-in_err-answer c =
    let p = err_from_is_err_and c.from_residual.result c.from_residual.ensures.1 in
    rw (p.1, p.2, c.in_err-answer.was) refl

pub returns : goal.returns
unfolding route_answer solve_answer
returns c = rw c.in_ok-answer.was refl
