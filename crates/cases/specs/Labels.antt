-- Labels: the names of a label, and which labels are alike.
use Rattle.std.specs.Prelude.{Bool, cond, not, List, [], ◌∷◌, ◌++◌, map, ℕ, ◌+◌, eqb, get_or}
use Rattle.sets.specs.Lists.{numbers_from, every, keep}
use Rattle.cases.specs.File.{Header, Label, has_label_table}

-- the four numbers of a label record
abbrev pub record_numbers : Label → List ℕ
record_numbers r = r.names

-- A 0 is no name; it pads a record at its end.
abbrev pub is_name : ℕ → Bool
is_name k = not (eqb k 0)

-- The names of a label. The silent step has none.
unfoldable pub names_of : Label → List ℕ
names_of r = keep is_name (record_numbers r)

-- how many times k stands in a list
unfoldable pub occurrences : ℕ → List ℕ → ℕ
occurrences k [] = 0
occurrences k (x ∷ xs) = cond (eqb x k) 1 0 + occurrences k xs

-- The names are the same multiset: each name in either list stands equally many times in both.
unfoldable pub same_names : List ℕ → List ℕ → Bool
same_names xs ys = every (λ k. eqb (occurrences k xs) (occurrences k ys)) (xs ++ ys)

-- the names of label j by the label records
abbrev pub label_names : List Label → ℕ → List ℕ
label_names table j = names_of (get_or table j (record { names = 0 ∷ 0 ∷ 0 ∷ 0 ∷ [] }))

-- Whether label x is alike to label j: with label records if its names are the same multiset as those of j, without them if it is j.
unfoldable pub alike : Header → List Label → ℕ → ℕ → Bool
alike h table j x = cond (has_label_table h.version) (same_names (label_names table j) (label_names table x)) (eqb j x)

-- the set of the labels that are alike to label j
unfoldable pub alike_labels : Header → List Label → ℕ → List Bool
alike_labels h table j = map (alike h table j) (numbers_from 0 h.labels)
