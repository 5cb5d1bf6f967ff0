use Rattle.cases.proofs.Openings.{accepted}
use Rattle.routes.proofs.Refusing.{equation_refused, free_refused}
use Rattle.routes.proofs.equation.Goals as goal

pub returns-in-Ok : goal.returns-in-Ok
returns-in-Ok c = rw (accepted c.«open».ensures c.in-Ok.is).1.0 at c.equation_opened.ensures

pub returns-in-Err-clause-ran : goal.returns-in-Err-clause-ran
returns-in-Err-clause-ran c = equation_refused _ c.«open».ensures c.in-Err.is c.unopened.ensures

pub returns-in-Err-clause-price : goal.returns-in-Err-clause-price
returns-in-Err-clause-price c = free_refused _ c.«open».ensures c.in-Err.is c.unopened.ensures c.args.limit
