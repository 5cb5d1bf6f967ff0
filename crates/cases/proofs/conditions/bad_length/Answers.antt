use mathlib.Core.Path.{refl}
use Rattle.cases.specs.Conditions.{bad_length}
use Rattle.cases.proofs.conditions.bad_length.Goals as goal

pub returns : goal.returns
unfolding bad_length
returns c = rw (c.file_end.ensures, c.requires.header_read) refl
