-- The transitions of flagged records: the distinct ones, and those that leave a state.
use Rattle.std.specs.Prelude.{Bool, List, ℕ}
use Rattle.cases.specs.declared.Transition.{Transition}
use Rattle.translate.specs.internal.Parts.{distinct_in, leaves_at, leaving, target_cell}
use Rattle.cases.specs.declared.transitions.Flagged.{Flagged}
use Rattle.translate.specs.declared.steps.Steps.{Steps}

-- the distinct transitions of flagged records
abbrev pub distinct_of : Flagged → List Transition
distinct_of r = distinct_in r.table.part.now r.first.now r.table.count

-- whether record j is one that a box or diamond follows, and all of them
abbrev pub follows : Steps → ℕ → Bool
follows x j = leaves_at x.records.table.part.now x.records.first.now x.state x.labels j

abbrev pub followed : Steps → List Transition
followed x = leaving x.records.table.part.now x.records.first.now x.state x.labels x.records.table.count

-- the operand that record j gives, in the row of cells that starts at `base`, if it is one
abbrev pub target_of : Steps → ℕ → ℕ → List ℕ
target_of x base j = target_cell x.records.table.part.now x.records.first.now base x.state x.labels j
