-- What the functions that read label records promise.
use Rattle.std.specs.Prelude.{Bool, not, ◌||◌, List, ℕ, eqb}
use Rattle.cases.specs.Labels.{is_name, occurrences, same_names, label_names}
use Rattle.cases.specs.internal.Checks.{labels_in}

-- whether k stands in two lists equally many times, if it is a name
abbrev pub equally_many : List ℕ → List ℕ → ℕ → Bool
equally_many xs ys k = not (is_name k) || eqb (occurrences k xs) (occurrences k ys)

-- whether label x has the names of label j, of l labels of a part
abbrev pub same_as : List ℕ → ℕ → ℕ → ℕ → Bool
same_as part l j x = same_names (label_names (labels_in part l) j) (label_names (labels_in part l) x)
