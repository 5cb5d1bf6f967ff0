-- The numbers are those of an outcome, and of a file of so many bytes.
use Rattle.std.specs.Prelude.{◌≡◌, ℕ}
use Rattle.sets.specs.Refusals.{Outcome}
use Rattle.exports.specs.declared.Numbers.{Numbers}
use Rattle.exports.specs.Exported.{exported}

pub record Says (n : Numbers) (o : Outcome) (bytes : ℕ) : Type 0 where
  pub numbers : exported n ≡ o
  pub length_is : n.length ≡ bytes
