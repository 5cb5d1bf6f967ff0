use mathlib.Core.Path.{refl, sym, ◌∙◌}
use native.Mathlib.Omega.{arith}
use Rattle.cases.specs.File.{label_records}
use Rattle.cases.proofs.file.label_records.Goals as goal

pub returns-then-has_label_table : goal.returns-then-has_label_table
unfolding label_records
returns-then-has_label_table c = (rw (sym c.has_label_table.ensures ∙ c.if-has_label_table.true) refl, omega arith)

pub returns : goal.returns
unfolding label_records
returns c = (rw (sym c.has_label_table.ensures ∙ c.if-has_label_table.false) refl, omega arith)
