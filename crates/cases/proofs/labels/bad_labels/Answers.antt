use borrow.Author.Rules.{rules}
use mathlib.Core.Path.{◌≡◌, refl, sym, ap, ◌∙◌}
use mathlib.Core.Bool.{true, false}
use Prim.Native.Nat.{ℕ}
use native.Mathlib.Omega.{arith}
use lib.ListN.{drop}
use Rattle.std.proofs.lemmas.Iterator.{YieldsList-from_range, cases_from_all}
use Rattle.sets.proofs.Ranges.{every_below}
use Rattle.sets.specs.Lists.{every}
use Rattle.cases.specs.File.{Header, label_in}
use Rattle.cases.specs.internal.Checks.{labels_in}
use Rattle.cases.specs.Conditions.{label_ok}
use Rattle.cases.proofs.ModelRules.{labels_decide}
use Rattle.cases.proofs.LabelLaws.{labels_all}
use Rattle.cases.proofs.labels.bad_labels.Goals as goal

pub returns : goal.returns
returns c =
    let t = c.labels-table.result in
    let ok = λ (j : ℕ). label_ok (label_in t.part.now j) in
    let hold = every_below ok t.count c.all.result (cases_from_all _ _ c.all.result (λ j. ok j ≡ true) (λ j. ok j ≡ false) c.all.ensures.ran (YieldsList-from_range 0 t.count t.count refl (omega arith)) (λ x q k. search rules) (λ x q k. search rules)) in
    let all = rw c.labels-table.ensures.part at (hold ∙ sym (labels_all t.part.now t.count)) in
    labels_decide c.args.case.now.laid t.count c.labels-table.ensures.count c.all.result
    (all ∙ ap (λ (h : Header). every label_ok (labels_in (drop h.labels_at c.args.case.now.bytes.now) t.count)) (sym c.args.case.now.laid.read))
