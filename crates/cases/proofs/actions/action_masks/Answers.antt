use mathlib.Core.Path.{◌≡◌, refl, sym, ◌∙◌}
use Prim.Native.Nat.{ℕ, suc, ◌-◌}
use native.Mathlib.Omega.{arith}
use mathlib.Core.Bool.{Bool}
use mathlib.Core.List.{List}
use Rattle.cases.specs.File.{Header, label_records}
use Rattle.cases.specs.Labels.{alike_labels}
use Rattle.cases.specs.internal.Checks.{labels_in, nodes_in}
use Rattle.cases.specs.internal.Masks.{action_in}
use Rattle.cases.proofs.FormulaRules.{length_nodes}
use Rattle.cases.proofs.Masks.{masked_none, node_known, turn_fits, turn_masked, stored_first, kept_none, kept_more}
use Rattle.cases.proofs.actions.action_masks.Goals as goal

-- the labels that are alike to a label
abbrev alike_in : List ℕ → Header → ℕ → List Bool
alike_in labels h = alike_labels h (labels_in labels (label_records h))

pub loop-i-init : goal.loop-i-init
loop-i-init c =
    let p = c.args in (
      masked_none (alike_in p.labels.now p.h) (nodes_in p.part.now p.h.actions) _ p.h.actions refl (length_nodes p.part.now p.h.actions) c.requires.1.few,
      kept_none (action_in p.h p.labels.now p.part.now) p.h.actions _ refl,
    )

pub action_kind-requires : goal.action_kind-requires
action_kind-requires c =
    let p = c.args in
    let n = c.at-node in
    (node_known (alike_in p.labels.now p.h) p.part.now p.h.actions c.requires.2 (c.loop-i.i - 1) n.result (omega arith) n.ensures).0

pub mask_of-mask-requires : goal.mask_of-mask-requires
mask_of-mask-requires c =
    let p = c.args in
    let n = c.at-node in
    let k = node_known (alike_in p.labels.now p.h) p.part.now p.h.actions c.requires.2 (c.loop-i.i - 1) n.result (omega arith) n.ensures in
    (c.requires.0, λ e. k.1 (sym c.action_kind.ensures ∙ e))

pub bounds-masks-at : goal.bounds-masks-at
bounds-masks-at c =
    let p = c.args in
    let s = c.loop-i in
    let n = c.at-node in
    let fits = turn_fits (alike_in p.labels.now p.h) p.part.now p.h.actions c.requires.2 s.masks s.at s.i (omega arith) (omega arith) s.invariant.0 n.result n.ensures in
    omega (arith, c.action_arity.ensures.arity, fits)

pub loop-i-preserved : goal.loop-i-preserved
loop-i-preserved c =
    let p = c.args in
    let s = c.loop-i in
    let n = c.at-node in
    let k = c.action_arity in
    let m = c.mask_of-mask in
    let like = alike_in p.labels.now p.h in
    let a = p.h.actions in
    let z : suc (s.i - 1) ≡ s.i = omega arith in
    let fits = turn_fits like p.part.now a c.requires.2 s.masks s.at s.i (omega arith) (omega arith) s.invariant.0 n.result n.ensures in
    let turn = turn_masked like p.part.now a c.requires.2 s.masks s.at s.i (omega arith) (omega arith) s.invariant.0 n.result n.ensures k.result m.result k.ensures.arity
    (λ x y e f. rw c.action_kind.ensures at (m.ensures x y (c.mask_at-x.ensures ∙ e) (c.mask_at-y.ensures ∙ f))) in (
      turn,
      kept_more (action_in p.h p.labels.now p.part.now) a (s.i - 1) m.result s.all (omega (arith, c.requires.1.few))
          (stored_first like (nodes_in p.part.now a) s.masks _ m.result (s.i - 1) (omega (arith, k.ensures.arity, fits, s.invariant.0.long)) turn) (rw z s.invariant.1),
    )
