use Rattle.routes.specs.internal.Evaluating.{states_of, transitions_of}
use Rattle.routes.proofs.ModalLaws.{sources_length, sources_of, box_by_diamond}
use mathlib.Core.Path.{◌∙◌}
use mathlib.Core.Bool.{not}
use mathlib.Core.List.{map}
use lib.ListN.{length-map}
use Rattle.sets.specs.States.{States}
use Rattle.routes.proofs.evaluator.Evaluator.box_set.Goals as goal

pub returns : goal.returns
returns c α v e l q =
    let ev = c.args.self.now in
    let n = states_of ev in
    let ts = transitions_of ev in
    let outside : States = map not v in
    rw (box_by_diamond ev.case.parts.model α v l)
    (c.complement.ensures (sources_of n α outside ts) (sources_length n α outside ts)
    (c.diamond_set.ensures α outside e (length-map v not ∙ l) (c.complement-outside.ensures v l q)))
