-- Worked values: what is refused, of cases whose answer the paper gives, or that are worked out here by hand.
use Rattle.std.specs.Prelude.{◌≡◌, refl, Bool, true, false, ℕ, ◌+◌, ◌-◌, ◌*◌, ◌/◌, ◌%◌, length, set, take, replicate}
use mathlib.Core.List.{List, [], ◌∷◌, ◌++◌, map, flat_map}
use Rattle.sets.specs.Lists.{numbers_from, every, for_some, keep}
use Rattle.sets.specs.Words.{state_limit}
use Rattle.solver.specs.File.{block_limit}
use Rattle.sets.specs.Refusals.{first_of}
use Rattle.cases.specs.Action.{accepts}
use Rattle.cases.specs.Prefix.{whole_formulas, exactly, span, trees, action_at}
use Rattle.cases.specs.File.{u16, header_size, header_of, label_records, Transition, label_table, transition_table, action_table, formula_table, label_limit, name_limit, transition_limit, action_limit, node_limit}
use Rattle.cases.specs.Labels.{alike, alike_labels}
use Rattle.cases.specs.Case.{same_transition, copies, copies_before, distinct}
use Rattle.cases.specs.Tally.{tallied}
use Rattle.cases.specs.Conditions.{too_small, other_version, bad_count, bad_offset, bad_length, bad_model, padded, bad_labels, bad_actions, bad_formula, bound_ok, bad_variable, binder_count, block_total, too_deep}
use Rattle.cases.specs.internal.Checks.{largest_case}
use Rattle.cases.specs.Conditions.{layout_conditions, model_conditions, formula_conditions, case_conditions, case_refusal}

-- numbers of 16 bits as bytes, low byte first
unfoldable pub bytes : List ℕ → List ℕ
bytes [] = []
bytes (x ∷ xs) = x % 256 ∷ x / 256 % 256 ∷ bytes xs

-- how many bytes a header of version 1 has
abbrev pub header : ℕ
header = 20

-- P1's offsets: three transitions, then an action node
abbrev p1_actions : ℕ
p1_actions = header + 6 * 3

abbrev p1_formula : ℕ
p1_formula = p1_actions + 4

-- P1, number by number: header, three transitions, an action node, three formula nodes
unfoldable pub p1 : List ℕ
p1 =
    1 ∷ 3 ∷ 3 ∷ 2 ∷ 0 ∷ 1 ∷ 3 ∷ header ∷ p1_actions ∷ p1_formula
    ∷ 0 ∷ 0 ∷ 1 ∷ 0 ∷ 0 ∷ 1 ∷ 1 ∷ 1 ∷ 2
    ∷ 1 ∷ 0
    ∷ 7 ∷ 0 ∷ 4 ∷ 0 ∷ 6 ∷ 0 ∷ []

-- the place of the first number after the header
abbrev tables : ℕ
tables = header / 2

-- other numbers at some places
unfoldable pub set_all : List (ℕ × ℕ) → List ℕ → List ℕ
set_all [] xs = xs
set_all (c ∷ cs) xs = set_all cs (set xs c.0 c.1)

-- P1 with other numbers at some places: from `tables` on there are 9 numbers of transitions, 2 of the action node, 6 of formula nodes
changed : List (ℕ × ℕ) → List ℕ
unfolding bytes p1 set_all
changed cs = bytes (set_all cs p1)

-- nodes of kind and argument, as numbers
unfoldable pub flat : List (ℕ × ℕ) → List ℕ
unfolding flat_map
flat xs = flat_map (λ x. x.0 ∷ x.1 ∷ []) xs

-- a case of one state and three labels without transitions
still : List (ℕ × ℕ) → List (ℕ × ℕ) → List ℕ
unfolding bytes flat
still actions nodes =
    bytes (1 ∷ 1 ∷ 0 ∷ 3 ∷ 0 ∷ length actions ∷ length nodes ∷ header ∷ header ∷ (header + 4 * length actions) ∷ (flat actions ++ flat nodes))

-- d nested nu over true
nested : ℕ → List (ℕ × ℕ)
nested d = replicate d (8, 0) ++ ((1, 0) ∷ [])

-- a case, and the number that it is refused with, or 0
abbrev pub Example : Type 0
Example = List ℕ × ℕ

-- Each number outside and inside its range, where P1 then breaks no rule or a later one.
counted : List Example
unfolding changed
counted =
    -- states
    (changed ((1, 0) ∷ []), 3)
    ∷ (changed ((1, 1) ∷ []), 6)
    ∷ (changed ((1, state_limit) ∷ []), 0)
    ∷ (changed ((1, state_limit + 1) ∷ []), 3)
    ∷ (changed ((1, 65_535) ∷ []), 3)
    -- transitions
    ∷ (changed ((2, 0) ∷ []), 4)
    ∷ (changed ((2, transition_limit) ∷ []), 4)
    ∷ (changed ((2, transition_limit + 1) ∷ []), 3)
    -- labels
    ∷ (changed ((3, 0) ∷ []), 3)
    ∷ (changed ((3, 1) ∷ []), 6)
    ∷ (changed ((3, label_limit) ∷ []), 0)
    ∷ (changed ((3, label_limit + 1) ∷ []), 3)
    ∷ (changed ((3, 65_535) ∷ []), 3)
    -- action nodes
    ∷ (changed ((5, 0) ∷ []), 4)
    ∷ (changed ((5, action_limit) ∷ []), 4)
    ∷ (changed ((5, action_limit + 1) ∷ []), 3)
    -- formula nodes
    ∷ (changed ((6, 0) ∷ []), 3)
    ∷ (changed ((6, 1) ∷ []), 5)
    ∷ (changed ((6, node_limit) ∷ []), 5)
    ∷ (changed ((6, node_limit + 1) ∷ []), 3)
    ∷ []

-- P1 damaged in one place.
damaged : List Example
unfolding bytes p1 changed
damaged =
    ([], 1)
    ∷ (take (header - 1) (bytes p1), 1)
    -- version
    ∷ (changed ((0, 0) ∷ []), 2)
    ∷ (changed ((0, 9) ∷ []), 2)
    ∷ (changed ((0, 257) ∷ []), 2)
    -- offsets
    ∷ (changed ((7, header + 1) ∷ []), 4)
    ∷ (changed ((7, header - 1) ∷ []), 4)
    ∷ (changed ((8, p1_actions + 1) ∷ []), 4)
    ∷ (changed ((8, p1_actions - 1) ∷ []), 4)
    ∷ (changed ((9, p1_formula + 1) ∷ []), 4)
    ∷ (changed ((9, p1_formula - 1) ∷ []), 4)
    -- length
    ∷ ((bytes p1 ++ (0 ∷ [])), 5)
    ∷ (take (length (bytes p1) - 1) (bytes p1), 5)
    ∷ (take header (bytes p1), 5)
    -- initial state; source, label and target of a transition
    ∷ (changed ((4, 2) ∷ []), 0)
    ∷ (changed ((4, 3) ∷ []), 6)
    ∷ (changed ((tables, 3) ∷ []), 6)
    ∷ (changed ((tables + 7, 2) ∷ []), 6)
    ∷ (changed ((tables + 8, 3) ∷ []), 6)
    -- the action node: its kind; a label, and none; an argument of another kind; a single not
    ∷ (changed ((tables + 9, 7) ∷ []), 7)
    ∷ (changed ((tables + 9, 2) ∷ (tables + 10, 1) ∷ []), 0)
    ∷ (changed ((tables + 9, 2) ∷ (tables + 10, 2) ∷ []), 7)
    ∷ (changed ((tables + 10, 1) ∷ []), 7)
    ∷ (changed ((tables + 9, 3) ∷ []), 7)
    -- a formula node: its kind; an argument where none belongs; a box and a diamond without an action node
    ∷ (changed ((tables + 11, 9) ∷ []), 8)
    ∷ (changed ((tables + 11, 65_535) ∷ []), 8)
    ∷ (changed ((tables + 12, 1) ∷ []), 8)
    ∷ (changed ((tables + 15, 1) ∷ (tables + 16, 1) ∷ []), 8)
    ∷ (changed ((tables + 14, 1) ∷ []), 8)
    ∷ (changed ((tables + 13, 5) ∷ (tables + 14, 1) ∷ []), 8)
    -- a variable: itself, a box, no node
    ∷ (changed ((tables + 16, 2) ∷ []), 9)
    ∷ (changed ((tables + 16, 1) ∷ []), 9)
    ∷ (changed ((tables + 16, 3) ∷ []), 9)
    ∷ (changed ((tables + 16, 65_535) ∷ []), 9)
    -- the first condition that holds counts
    ∷ (changed ((0, 9) ∷ (1, 0) ∷ (tables + 16, 3) ∷ []), 2)
    ∷ (changed ((4, 3) ∷ (tables + 10, 1) ∷ []), 6)
    ∷ (changed ((tables + 10, 1) ∷ (tables + 12, 1) ∷ []), 7)
    ∷ []

-- Formulas and action formulas over one state.
formed : List Example
unfolding still nested
formed =
    -- P4, P5 and P6: true, box true false, diamond true true
    (still [] ((1, 0) ∷ []), 0)
    ∷ (still ((1, 0) ∷ []) ((4, 0) ∷ (0, 0) ∷ []), 0)
    ∷ (still ((1, 0) ∷ []) ((5, 0) ∷ (1, 0) ∷ []), 0)
    -- P7: an and of two formulas, each three nested nu over true
    ∷ (still [] ((2, 0) ∷ (nested 3 ++ nested 3)), 10)
    -- P8, and one nested nu more; where the root is no binder, one more is added
    ∷ (still [] (nested block_limit), 0)
    ∷ (still [] (nested (block_limit + 1)), 10)
    ∷ (still [] ((2, 0) ∷ (1, 0) ∷ nested (block_limit - 1)), 0)
    ∷ (still [] ((2, 0) ∷ (1, 0) ∷ nested block_limit), 10)
    -- a box into the middle of an action formula, not label 1
    ∷ (still ((3, 0) ∷ (2, 1) ∷ []) ((4, 1) ∷ (1, 0) ∷ []), 0)
    -- action tables: every kind, two formulas, an operand short
    ∷ (still ((6, 0) ∷ (4, 0) ∷ (0, 0) ∷ (2, 1) ∷ (5, 0) ∷ (1, 0) ∷ (3, 0) ∷ (2, 0) ∷ []) ((1, 0) ∷ []), 0)
    ∷ (still ((1, 0) ∷ (0, 0) ∷ []) ((1, 0) ∷ []), 0)
    ∷ (still ((1, 0) ∷ (4, 0) ∷ (0, 0) ∷ []) ((1, 0) ∷ []), 7)
    -- formula tables: every kind, an operand short, two formulas
    ∷ (still ((1, 0) ∷ []) ((7, 0) ∷ (2, 0) ∷ (3, 0) ∷ (0, 0) ∷ (4, 0) ∷ (6, 0) ∷ (8, 0) ∷ (5, 0) ∷ (6, 6) ∷ []), 0)
    ∷ (still [] ((2, 0) ∷ (1, 0) ∷ []), 8)
    ∷ (still [] ((1, 0) ∷ (1, 0) ∷ []), 8)
    -- mu, variable 1; a variable beside its binder; a variable before its binder
    ∷ (still [] ((7, 0) ∷ (6, 1) ∷ []), 9)
    ∷ (still [] ((2, 0) ∷ (8, 0) ∷ (1, 0) ∷ (6, 1) ∷ []), 9)
    ∷ (still [] ((2, 0) ∷ (6, 2) ∷ (8, 0) ∷ (1, 0) ∷ []), 9)
    -- a variable without a binder at node 1, and a kind that there is not at node 5: conditions are looked at over the whole table
    ∷ (still [] ((2, 0) ∷ (6, 0) ∷ (2, 0) ∷ (1, 0) ∷ (8, 0) ∷ (9, 0) ∷ []), 8)
    ∷ (still [] ((2, 0) ∷ (6, 0) ∷ (2, 0) ∷ (1, 0) ∷ (8, 0) ∷ (0, 0) ∷ []), 9)
    ∷ []

pub examples : List Example
unfolding bytes p1 counted damaged formed
examples = (bytes p1, 0) ∷ (counted ++ (damaged ++ formed))

-- what an example is refused with, with all that this computes with
unfoldable pub answer : Example → ℕ
unfolding case_refusal case_conditions first_of layout_conditions model_conditions formula_conditions too_small other_version bad_count bad_offset bad_length bad_model bad_labels
    bad_actions bad_formula bound_ok bad_variable binder_count block_total too_deep u16 header_size label_records label_table transition_table action_table formula_table padded whole_formulas
    exactly span numbers_from every for_some
answer x = case_refusal x.0

-- each example comes out as given
pub come_out : map answer examples ≡ map (λ (x : Example). x.1) examples
unfolding answer examples
come_out = refl

-- The labels below 3 that an action formula accepts: those of `label 0 implies (not label 1 and label 2)`, and of its node 2, the and.
pub accepted : List (List Bool)
unfolding still
accepted =
    let b : List ℕ = still ((6, 0) ∷ (2, 0) ∷ (4, 0) ∷ (3, 0) ∷ (2, 1) ∷ (2, 2) ∷ []) ((1, 0) ∷ []) in
    map (λ j. map (accepts (action_at (alike_labels (header_of b) (label_table b)) (action_table b) j)) (numbers_from 0 3)) (0 ∷ 2 ∷ [])

-- Transitions of which the second and the last are recorded before: a transition with the same ends and another label is another one.
pub recorded : List Transition
unfolding bytes
recorded =
    transition_table (bytes
    (1 ∷ 3 ∷ 5 ∷ 2 ∷ 0 ∷ 0 ∷ 1 ∷ header ∷ (header + 6 * 5) ∷ (header + 6 * 5)
    ∷ 1 ∷ 1 ∷ 2 ∷ 1 ∷ 1 ∷ 2 ∷ 0 ∷ 0 ∷ 1 ∷ 1 ∷ 0 ∷ 2 ∷ 1 ∷ 1 ∷ 2
    ∷ 1 ∷ 0 ∷ []))

pub read :
    (accepted ≡ (false ∷ true ∷ true ∷ []) ∷ (false ∷ false ∷ true ∷ []) ∷ [])
    × (map (copies_before recorded) (numbers_from 0 5) ≡ 0 ∷ 1 ∷ 0 ∷ 0 ∷ 2 ∷ [])
    × (distinct recorded ≡ record { source = 1; label = 1; target = 2 } ∷ record { source = 0; label = 0; target = 1 } ∷ record { source = 1; label = 0; target = 2 } ∷ [])
    × (tallied recorded ≡ record { records = 5; distinct = 3 })
unfolding accepted recorded tallied u16 header_size label_records label_table alike_labels alike transition_table action_table action_at trees accepts distinct keep copies copies_before same_transition numbers_from
read = (refl, refl, refl, refl)

-- the header's size by version, P1's offsets, the limits and the largest case's length as the paper has them
pub limits :
    (map header_size (numbers_from 0 5) ≡ 20 ∷ 20 ∷ 22 ∷ 20 ∷ 20 ∷ [])
    × (header ∷ p1_actions ∷ p1_formula ∷ [] ≡ 20 ∷ 38 ∷ 42 ∷ [])
    × (state_limit ∷ transition_limit ∷ label_limit ∷ name_limit ∷ action_limit ∷ node_limit ∷ block_limit ∷ [] ≡ 256 ∷ 2_048 ∷ 64 ∷ 255 ∷ 128 ∷ 64 ∷ 6 ∷ [])
    × (largest_case ≡ 13_590)
unfolding header_size numbers_from
limits = (refl, refl, refl, refl)
