use mathlib.Core.Path.{◌∙◌}
use Rattle.records.proofs.Moves.{record_over}
use Rattle.records.proofs.bytes.put_record.Goals as goal

pub returns : goal.returns
returns c =
    c.put_number-3.ensures ∙ rw (c.put_number-2.ensures, c.put_number.ensures) (record_over c.args.bytes.now c.args.at c.args.t c.requires)
