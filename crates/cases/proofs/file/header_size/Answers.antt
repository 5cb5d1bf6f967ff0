use mathlib.Core.Path.{refl, sym, ◌∙◌}
use native.Mathlib.Omega.{arith}
use Rattle.cases.specs.File.{header_size}
use Rattle.cases.proofs.file.header_size.Goals as goal

pub returns-then-has_label_table : goal.returns-then-has_label_table
unfolding header_size
returns-then-has_label_table c = (rw (sym c.has_label_table.ensures ∙ c.if-has_label_table.true) refl, omega arith, omega arith)

pub returns : goal.returns
unfolding header_size
returns c = (rw (sym c.has_label_table.ensures ∙ c.if-has_label_table.false) refl, omega arith, omega arith)
