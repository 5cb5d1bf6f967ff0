-- How many records a case's transition table has, and how many of them are distinct.
use Rattle.std.specs.Prelude.{List, ℕ, length}
use Rattle.sets.specs.Refusals.{by_refusal}
use Rattle.cases.specs.declared.Tally.{Tally}
use Rattle.cases.specs.File.{Transition}
use Rattle.cases.specs.Case.{case_of, distinct}
use Rattle.cases.specs.Conditions.{case_refusal}

-- of a table; the length of the table is the number of its records
unfoldable pub tallied : List Transition → Tally
tallied ts = record { records = length ts; distinct = length (distinct ts) }

-- of a case that is refused
abbrev pub no_tally : Tally
no_tally = record { records = 0; distinct = 0 }

-- Of any bytes: the tally of an accepted case's table. Where one of a case's own conditions holds, both numbers are 0.
unfoldable pub tally_of : List ℕ → Tally
tally_of b = by_refusal (case_refusal b) (tallied (case_of b).transitions) no_tally
