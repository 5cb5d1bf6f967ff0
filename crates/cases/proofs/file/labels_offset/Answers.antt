use mathlib.Core.Path.{sym, ap, ◌∙◌}
use Rattle.cases.specs.File.{has_label_table, header_size}
use Rattle.cases.proofs.file.labels_offset.Goals as goal

pub number_at-requires : goal.number_at-requires
unfolding header_size
number_at-requires c = rw (ap has_label_table (sym c.version-version.ensures) ∙ sym c.has_label_table.ensures ∙ c.if-has_label_table.true) at c.requires.1
