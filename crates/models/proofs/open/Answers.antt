-- The case's own refusal, or that there is no room, or the model that is made.
use mathlib.Core.Path.{sym}
use native.Mathlib.Omega.{arith}
use Rattle.cases.proofs.Openings.{accepted, refused}
use Rattle.models.specs.Model.{opened_model}
use Rattle.models.proofs.ModelLaws.{refuses, hands_on, makes, case_refuses, open_refuses, open_makes, room_is}
use Rattle.models.proofs.open.Goals as goal

pub returns-in_err-opened : goal.returns-in_err-opened
returns-in_err-opened c = hands_on _ c.from_residual.result c.from_residual.ensures.1 (case_refuses c.args.case.now c.args.model.now (refused c.«open».ensures c.in_err-opened.was))

pub returns-then-model-opened : goal.returns-then-model-opened
returns-then-model-opened c =
    let o = c.in_ok-opened.opened in
    let same = (accepted c.«open».ensures c.in_ok-opened.was).1.0 in
    rw (sym same) (refuses (open_refuses _ c.args.model.now o.accepted (omega (arith, room_is _ o.laid.laid.read))) (λ z. omega arith))

pub returns : goal.returns
unfolding opened_model
returns c =
    let o = c.in_ok-opened.opened in
    let same = (accepted c.«open».ensures c.in_ok-opened.was).1.0 in
    rw (sym same) (makes (open_makes _ c.args.model.now o.accepted (omega (arith, room_is _ o.laid.laid.read))) c.write_distinct.ensures)
