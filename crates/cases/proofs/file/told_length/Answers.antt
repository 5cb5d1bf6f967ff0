use mathlib.Core.Path.{sym, ap, ◌∙◌}
use native.Mathlib.Omega.{arith}
use Rattle.cases.specs.File.{header_size}
use Rattle.cases.proofs.LayoutRules.{records_told, records_none}
use Rattle.cases.proofs.file.told_length.Goals as goal

pub returns-then-has_label_table : goal.returns-then-has_label_table
returns-then-has_label_table c =
    let is = c.version-version.ensures in
    omega (arith, ap header_size is, records_told _ is (sym c.has_label_table.ensures ∙ c.if-has_label_table.true))

pub returns : goal.returns
returns c =
    let is = c.version-version.ensures in
    omega (arith, ap header_size is, records_none _ is (sym c.has_label_table.ensures ∙ c.if-has_label_table.false))
