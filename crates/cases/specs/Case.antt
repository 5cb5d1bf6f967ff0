-- A case: a model and a formula; and the distinct transitions.
use Rattle.std.specs.Prelude.{◌≡◌, ◌↔◌, Bool, cond, ◌&&◌, ℕ, ◌+◌, eqb, length, get_or, take}
use mathlib.Core.List.{List, [], ◌∷◌, ◌++◌, map, Mem}
use Rattle.sets.specs.Lists.{numbers_from, keep}
use Rattle.cases.specs.Action.{Action}
use Rattle.cases.specs.Formula.{Formula}
use Rattle.cases.specs.Prefix.{action_at, formula_at}
use Rattle.cases.specs.File.{Transition, header_of, label_table, transition_table, action_table, formula_table}
use Rattle.cases.specs.Labels.{alike_labels}

pub record Case : Type 0 where
  pub states : ℕ
  pub labels : ℕ
  pub initial : ℕ
  pub transitions : List Transition
  pub formula : Formula

-- the action formula at action node j; by the version a label node accepts the labels that are alike to its own
abbrev pub case_action : List ℕ → ℕ → Action
case_action b = action_at (alike_labels (header_of b) (label_table b)) (action_table b)

-- the case of any bytes: the formula is the one at the formula table's first node
unfoldable pub case_of : List ℕ → Case
case_of b = record {
  states = (header_of b).states;
  labels = (header_of b).labels;
  initial = (header_of b).initial;
  transitions = transition_table b;
  formula = formula_at (case_action b) (formula_table b) 0;
}

-- Two files have the same counts and the same tables, but for their versions and label records.
pub record SameTables (b b' : List ℕ) : Type 0 where
  pub states : (header_of b).states ≡ (header_of b').states
  pub labels : (header_of b).labels ≡ (header_of b').labels
  pub initial : (header_of b).initial ≡ (header_of b').initial
  pub transitions : transition_table b ≡ transition_table b'
  pub actions : action_table b ≡ action_table b'
  pub formula : formula_table b ≡ formula_table b'

-- Two cases have the same states, initial state and formula, and the same set of transitions: their tables may differ in order and in copies.
pub record SameTransitionSet (c c' : Case) : Type 0 where
  pub states : c.states ≡ c'.states
  pub initial : c.initial ≡ c'.initial
  pub formula : c.formula ≡ c'.formula
  pub transitions : (t : Transition) → Mem t c.transitions ↔ Mem t c'.transitions

-- whether two records are equal
unfoldable pub same_transition : Transition → Transition → Bool
same_transition x y = eqb x.source y.source && eqb x.label y.label && eqb x.target y.target

-- how many records of a list equal x
unfoldable pub copies : Transition → List Transition → ℕ
copies x [] = 0
copies x (y ∷ ys) = cond (same_transition y x) 1 0 + copies x ys

abbrev pub transition_at : List Transition → ℕ → Transition
transition_at ts i = get_or ts i (record { source = 0; label = 0; target = 0 })

-- How many equal records stand before record i. The first of its kind is the one with 0.
unfoldable pub copies_before : List Transition → ℕ → ℕ
copies_before ts i = copies (transition_at ts i) (take i ts)

-- Equal records are one transition; distinct ones stand in order of first appearance.
unfoldable pub distinct : List Transition → List Transition
distinct ts = map (transition_at ts) (keep (λ i. eqb (copies_before ts i) 0) (numbers_from 0 (length ts)))

-- the records of a list that equal none of `seen` and none before them
unfoldable pub fresh : List Transition → List Transition → List Transition
fresh seen [] = []
fresh seen (t ∷ ts) = cond (eqb (copies t seen) 0) (t ∷ fresh (seen ++ (t ∷ [])) ts) (fresh (seen ++ (t ∷ [])) ts)
