-- Direct looks at no lent memory but the marks, so what the program lends beside them changes nothing.
use Rattle.routes.specs.Route.{too_short, run_conditions, route_conditions, route_outcome}
use Rattle.lines.proofs.by_direct.Goals as goal

pub returns : goal.returns
unfolding route_outcome route_conditions run_conditions too_short
returns c = (c.direct.ensures.by.answers, c.direct.ensures.tally_is)
