use mathlib.Core.Path.{refl}
use Rattle.routes.specs.Route.{route_number, route_answer}
use Rattle.routes.proofs.unopened.Goals as goal

pub returns : goal.returns
unfolding route_answer route_number
returns c = (rw c.from.ensures refl, refl)
