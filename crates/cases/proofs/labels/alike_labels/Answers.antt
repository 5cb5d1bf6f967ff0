use mathlib.Core.Path.{◌≡◌, sym, ◌∙◌}
use mathlib.Core.Bool.{true}
use native.Mathlib.Omega.{arith}
use Rattle.sets.proofs.Words.{shifted_one}
use Rattle.cases.specs.File.{label_records, has_label_table}
use Rattle.cases.proofs.LabelLaws.{alike_names, alike_own}
use Rattle.cases.proofs.labels.alike_labels.Goals as goal

pub invariant_of-table : goal.invariant_of-table
unfolding label_records
invariant_of-table c =
    let named : has_label_table c.args.h.version ≡ true = sym c.has_label_table.ensures ∙ c.if-has_label_table.true in
    record { inside = rw named at c.requires.0.inside }

pub returns-then-has_label_table : goal.returns-then-has_label_table
returns-then-has_label_table c = c.same_labels.ensures ∙ alike_names _ _ _ (sym c.has_label_table.ensures ∙ c.if-has_label_table.true)

pub returns : goal.returns
returns c =
    shifted_one c.args.j (omega (arith, c.requires.0.few, c.requires.1))
    ∙ alike_own c.args.h _ c.args.j (sym c.has_label_table.ensures ∙ c.if-has_label_table.false) c.requires.1
