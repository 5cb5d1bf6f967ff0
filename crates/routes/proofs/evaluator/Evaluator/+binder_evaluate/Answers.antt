-- Each kind of node works out what its rule says; a binder's loop starts, goes on and stops as the rule's does.
use mathlib.Core.Path.{sym, ◌∙◌}
use native.Mathlib.Omega.{arith}
use borrow.Author.Rules.{rules}
use Rattle.std.specs.Cmp.Lexicographic.{same_text, other_text}
use Rattle.routes.proofs.NodeLaws.{kind_is, kind_known, binder_of, block_read, block_fits}
use Rattle.routes.proofs.EvaluateLaws.{false_done, true_done, variable_done, box_at, diamond_at, one_asked, mask_read, one_spent, one_done, and_at, or_at, left_asked, left_spent, right_asked, right_after, right_spent, two_done}
use Rattle.routes.proofs.BinderLaws.{mu_starts, nu_starts, own_binder, binder_body, body_spent, round_spent, stopped, replaced}
use Rattle.routes.proofs.evaluator.Evaluator.+binder_evaluate.Goals as goal

pub binder-bounds-s-k : goal.binder-bounds-s-k
binder-bounds-s-k t c = let p = c.requires in block_fits p.0 (own_binder p.0 p.1) c.from-k.ensures

pub binder-evaluate-requires : goal.binder-evaluate-requires
binder-evaluate-requires t c = let p = c.requires in (omega (arith, p.0.node), binder_body p.0 p.1 c.loop-one.invariant.high)

pub binder-returns-in_err-one : goal.binder-returns-in_err-one
binder-returns-in_err-one t c =
    let p = c.requires in rw c.from_residual.ensures (body_spent p.0 p.1 c.from-k.ensures c.loop-one.invariant c.in_err-one.ensures)

pub binder-returns-then-self-rounds : goal.binder-returns-then-self-rounds
binder-returns-then-self-rounds t c =
    let p = c.requires in round_spent p.0 p.1 c.from-k.ensures c.loop-one.invariant c.in_ok-one.ensures (omega arith)

pub binder-returns-then-eq : goal.binder-returns-then-eq
binder-returns-then-eq t c =
    let p = c.requires in
    stopped p.0 p.1 c.from-k.ensures c.loop-one.invariant c.in_ok-one.ensures (omega arith) (same_text _ _ (sym c.if-eq.true ∙ c.eq.ensures))

pub binder-loop-one-preserved : goal.binder-loop-one-preserved
binder-loop-one-preserved t c =
    let p = c.requires in
    replaced p.0 p.1 c.from-k.ensures c.loop-one.invariant c.in_ok-one.ensures (omega arith) (other_text _ _ (sym c.if-eq.false ∙ c.eq.ensures))

pub evaluate-formula_kind-kind-requires : goal.evaluate-formula_kind-kind-requires
evaluate-formula_kind-kind-requires t c = kind_known c.requires c.at-node.ensures

pub evaluate-returns-in-False : goal.evaluate-returns-in-False
evaluate-returns-in-False t c =
    let q = c.requires in rw c.leaf.ensures (false_done q (kind_is q c.at-node.ensures c.formula_kind-kind.ensures c.in-False.is) (c.empty.ensures _))

pub evaluate-returns-in-True : goal.evaluate-returns-in-True
evaluate-returns-in-True t c =
    let q = c.requires in rw c.leaf-in-True.ensures (true_done q (kind_is q c.at-node.ensures c.formula_kind-kind.ensures c.in-True.is) c.full.ensures)

pub evaluate-and-requires : goal.evaluate-and-requires
evaluate-and-requires t c =
    let q = c.requires in (omega arith, (q, kind_is q c.at-node.ensures c.formula_kind-kind.ensures c.in-And.is))

pub evaluate-or-requires : goal.evaluate-or-requires
evaluate-or-requires t c =
    let q = c.requires in (omega arith, (q, kind_is q c.at-node.ensures c.formula_kind-kind.ensures c.in-Or.is))

pub evaluate-box_node-requires : goal.evaluate-box_node-requires
evaluate-box_node-requires t c =
    let q = c.requires in (omega arith, (q, kind_is q c.at-node.ensures c.formula_kind-kind.ensures c.in-Box.is))

pub evaluate-diamond-requires : goal.evaluate-diamond-requires
evaluate-diamond-requires t c =
    let q = c.requires in (omega arith, (q, kind_is q c.at-node.ensures c.formula_kind-kind.ensures c.in-Diamond.is))

pub evaluate-bounds-self-node : goal.evaluate-bounds-self-node
evaluate-bounds-self-node t c =
    let q = c.requires in
    block_read q (binder_of q c.at-node.ensures (kind_is q c.at-node.ensures c.formula_kind-kind.ensures c.in-Variable.is))

pub evaluate-bounds-sets-from : goal.evaluate-bounds-sets-from
evaluate-bounds-sets-from t c =
    let q = c.requires in
    block_fits q (binder_of q c.at-node.ensures (kind_is q c.at-node.ensures c.formula_kind-kind.ensures c.in-Variable.is)) c.from.ensures

pub evaluate-returns-in-Variable : goal.evaluate-returns-in-Variable
evaluate-returns-in-Variable t c =
    let q = c.requires in
    rw c.leaf-in-Variable.ensures (variable_done q c.at-node.ensures (kind_is q c.at-node.ensures c.formula_kind-kind.ensures c.in-Variable.is) c.from.ensures)

pub evaluate-binder-requires : goal.evaluate-binder-requires
evaluate-binder-requires t c =
    let q = c.requires in
    (omega arith, (q, mu_starts (kind_is q c.at-node.ensures c.formula_kind-kind.ensures c.in-Mu.is) (c.empty-in-Mu.ensures _)))

pub evaluate-binder-requires-in-Nu : goal.evaluate-binder-requires-in-Nu
evaluate-binder-requires-in-Nu t c =
    let q = c.requires in
    (omega arith, (q, nu_starts (kind_is q c.at-node.ensures c.formula_kind-kind.ensures c.in-Nu.is) c.full-in-Nu.ensures))

pub and-evaluate-requires : goal.and-evaluate-requires
and-evaluate-requires t c =
    let q = c.requires.0 in
    let k = and_at q c.requires.1 in
    (omega (arith, q.node), left_asked q k)

pub and-returns-in_err-left : goal.and-returns-in_err-left
and-returns-in_err-left t c =
    let q = c.requires.0 in
    let k = and_at q c.requires.1 in
    rw c.from_residual.ensures (left_spent q k c.in_err-left.ensures)

pub and-evaluate-requires-2 : goal.and-evaluate-requires-2
and-evaluate-requires-2 t c =
    let q = c.requires.0 in
    let k = and_at q c.requires.1 in
    let next = right_asked q k c.in_ok-left.ensures in
    (omega (arith, right_after q k c.in_ok-left.ensures, next.node), next)

pub and-returns-in_err-right : goal.and-returns-in_err-right
and-returns-in_err-right t c =
    let q = c.requires.0 in
    let k = and_at q c.requires.1 in
    rw c.from_residual-in_err-right.ensures (right_spent q k c.in_ok-left.ensures c.in_err-right.ensures)

pub and-returns : goal.and-returns
and-returns t c =
    let q = c.requires.0 in
    let k = and_at q c.requires.1 in
    rw c.with_set.ensures (two_done q k c.in_ok-left.ensures c.in_ok-right.ensures (c.intersection.ensures _))

pub or-evaluate-requires : goal.or-evaluate-requires
or-evaluate-requires t c =
    let q = c.requires.0 in
    let k = or_at q c.requires.1 in
    (omega (arith, q.node), left_asked q k)

pub or-returns-in_err-left : goal.or-returns-in_err-left
or-returns-in_err-left t c =
    let q = c.requires.0 in
    let k = or_at q c.requires.1 in
    rw c.from_residual.ensures (left_spent q k c.in_err-left.ensures)

pub or-evaluate-requires-2 : goal.or-evaluate-requires-2
or-evaluate-requires-2 t c =
    let q = c.requires.0 in
    let k = or_at q c.requires.1 in
    let next = right_asked q k c.in_ok-left.ensures in
    (omega (arith, right_after q k c.in_ok-left.ensures, next.node), next)

pub or-returns-in_err-right : goal.or-returns-in_err-right
or-returns-in_err-right t c =
    let q = c.requires.0 in
    let k = or_at q c.requires.1 in
    rw c.from_residual-in_err-right.ensures (right_spent q k c.in_ok-left.ensures c.in_err-right.ensures)

pub or-returns : goal.or-returns
or-returns t c =
    let q = c.requires.0 in
    let k = or_at q c.requires.1 in
    rw c.with_set.ensures (two_done q k c.in_ok-left.ensures c.in_ok-right.ensures (c.union.ensures _))

pub box_node-offset_bounds-self-at : goal.box_node-offset_bounds-self-at
box_node-offset_bounds-self-at t c =
    let q = c.requires.0 in
    let k = box_at q c.requires.1 in
    let low = mask_read q k c.at.ensures in
    search rules

pub box_node-bounds-self-at : goal.box_node-bounds-self-at
box_node-bounds-self-at t c =
    let q = c.requires.0 in
    let k = box_at q c.requires.1 in
    mask_read q k c.at.ensures

pub box_node-evaluate-requires : goal.box_node-evaluate-requires
box_node-evaluate-requires t c =
    let q = c.requires.0 in
    let k = box_at q c.requires.1 in
    (omega (arith, q.node), one_asked q k)

pub box_node-returns-in_err-one : goal.box_node-returns-in_err-one
box_node-returns-in_err-one t c =
    let q = c.requires.0 in
    let k = box_at q c.requires.1 in
    rw c.from_residual.ensures (one_spent q k c.in_err-one.ensures)

pub box_node-returns : goal.box_node-returns
box_node-returns t c =
    let q = c.requires.0 in
    let k = box_at q c.requires.1 in
    rw c.with_set.ensures (one_done q k c.in_ok-one.ensures c.at.ensures c.box_set.ensures)

pub diamond-offset_bounds-self-at : goal.diamond-offset_bounds-self-at
diamond-offset_bounds-self-at t c =
    let q = c.requires.0 in
    let k = diamond_at q c.requires.1 in
    let low = mask_read q k c.at.ensures in
    search rules

pub diamond-bounds-self-at : goal.diamond-bounds-self-at
diamond-bounds-self-at t c =
    let q = c.requires.0 in
    let k = diamond_at q c.requires.1 in
    mask_read q k c.at.ensures

pub diamond-evaluate-requires : goal.diamond-evaluate-requires
diamond-evaluate-requires t c =
    let q = c.requires.0 in
    let k = diamond_at q c.requires.1 in
    (omega (arith, q.node), one_asked q k)

pub diamond-returns-in_err-one : goal.diamond-returns-in_err-one
diamond-returns-in_err-one t c =
    let q = c.requires.0 in
    let k = diamond_at q c.requires.1 in
    rw c.from_residual.ensures (one_spent q k c.in_err-one.ensures)

pub diamond-returns : goal.diamond-returns
diamond-returns t c =
    let q = c.requires.0 in
    let k = diamond_at q c.requires.1 in
    rw c.with_set.ensures (one_done q k c.in_ok-one.ensures c.at.ensures c.diamond_set.ensures)
