use mathlib.Core.Path.{refl}
use Rattle.records.specs.Replaced.{with_number}
use Rattle.records.proofs.bytes.put_number.Goals as goal

pub returns : goal.returns
unfolding with_number
returns c = rw c.to_le_bytes.ensures refl
