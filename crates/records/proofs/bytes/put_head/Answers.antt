use mathlib.Core.Path.{◌∙◌}
use Rattle.records.proofs.Heads.{head_put}
use Rattle.records.proofs.bytes.put_head.Goals as goal

pub returns : goal.returns
returns c =
    c.put_number-3.ensures ∙ rw (c.put_number-2.ensures, c.put_number.ensures) (head_put c.args.h c.args.k c.args.bytes.now c.requires.2)
