-- What is printed, in ASCII.
use Rattle.std.specs.Prelude.{ℕ, List, ◌++◌, codes, decimal}
use Rattle.sets.specs.Refusals.{Outcome}
use Rattle.cases.specs.declared.Tally.{Tally}

-- a space, and a number in decimal digits
abbrev pub number_text : ℕ → List ℕ
number_text n = codes " " ++ decimal n

-- the refusal number, the verdict, the count and the rounds
abbrev pub outcome_text : Outcome → List ℕ
outcome_text o = number_text o.refusal ++ (number_text o.verdict ++ (number_text o.count ++ number_text o.rounds))

-- the records, and the distinct ones
abbrev pub records_text : Tally → List ℕ
records_text t = number_text t.records ++ number_text t.distinct
