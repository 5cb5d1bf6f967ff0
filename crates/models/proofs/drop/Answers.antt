-- What was found decides.
use mathlib.Core.Path.{ap, ◌∙◌}
use Prim.Native.Nat.{ℕ}
use native.Mathlib.Omega.{arith}
use Rattle.cases.specs.File.{transition_table, case_within}
use Rattle.records.specs.Replaced.{with_transitions, written_to}
use Rattle.records.specs.Places.{without_at}
use Rattle.models.specs.Model.{dropping, dropped_model, drop_conditions, drop_checks}
use Rattle.models.proofs.ModelLaws.{refuses, hands_on, makes, look_refuses, drop_held, drop_absent}
use Rattle.models.proofs.drop.Goals as goal

pub returns-in_err-found : goal.returns-in_err-found
unfolding drop_conditions drop_checks
returns-in_err-found c = hands_on _ c.from_residual.result c.from_residual.ensures.1 (look_refuses c.args.model.now c.args.t _ c.in_err-found.ensures)

pub returns-in_default : goal.returns-in_default
returns-in_default c =
    let found = c.in_ok-found.ensures in
    refuses (drop_absent c.args.model.now c.args.t found.layout found.right (rw c.in_default.is at found.place)) (λ z. omega arith)

pub remove-requires : goal.remove-requires
remove-requires c =
    let found = c.in_ok-found.ensures in
    let at : _ = rw c.in-Some.is at found.place in
    (found.laid, omega (arith, at.2, found.count))

pub returns : goal.returns
unfolding dropped_model dropping
returns c =
    let m = c.args.model.now in let found = c.in_ok-found.ensures in
    let at : _ = rw c.in-Some.is at found.place in
    makes (drop_held m c.args.t found.layout found.right at.0)
    (c.remove.ensures ∙ ap (λ (i : ℕ). written_to m (with_transitions (case_within m) (without_at (transition_table (case_within m)) i))) at.1)
