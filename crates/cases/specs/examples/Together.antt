-- Worked values of version 2: what is refused, and which labels are alike, worked out here by hand.
use Rattle.std.specs.Prelude.{◌≡◌, refl, Bool, List, [], ◌∷◌, ◌++◌, map, ℕ, ◌+◌, ◌*◌, ◌/◌, eqb, length, take}
use Rattle.sets.specs.Lists.{numbers_from, every, for_some, keep}
use Rattle.cases.specs.File.{u16, header_size, header_of, label_records, label_table, name_limit}
use Rattle.cases.specs.Labels.{names_of, occurrences, same_names, alike, alike_labels}
use Rattle.cases.specs.examples.Cases.{bytes, flat, set_all, Example, answer}

-- P1 with label records, number by number: header, two label records, three transitions, an action node, three formula nodes
p1 : List ℕ
p1 =
    2 ∷ 3 ∷ 3 ∷ 2 ∷ 0 ∷ 1 ∷ 3 ∷ 38 ∷ 56 ∷ 60 ∷ 22
    ∷ 7 ∷ 0 ∷ 0 ∷ 0 ∷ 8 ∷ 7 ∷ 0 ∷ 0
    ∷ 0 ∷ 0 ∷ 1 ∷ 0 ∷ 0 ∷ 1 ∷ 1 ∷ 1 ∷ 2
    ∷ 1 ∷ 0
    ∷ 7 ∷ 0 ∷ 4 ∷ 0 ∷ 6 ∷ 0 ∷ []

-- the places of the first number of a label record, of a transition, of the action node
abbrev records : ℕ
records = 11

abbrev transitions : ℕ
transitions = records + 8

abbrev action : ℕ
action = transitions + 9

-- P1 with other numbers at some places
changed : List (ℕ × ℕ) → List ℕ
unfolding bytes p1 set_all
changed cs = bytes (set_all cs p1)

-- a case of one state without transitions, with label records of four numbers each
still : List ℕ → List (ℕ × ℕ) → List (ℕ × ℕ) → List ℕ
unfolding bytes flat
still names actions nodes =
    let at : ℕ = 22 + 2 * length names in
    bytes (2 ∷ 1 ∷ 0 ∷ (length names / 4) ∷ 0 ∷ length actions ∷ length nodes ∷ at ∷ at ∷ (at + 4 * length actions) ∷ 22 ∷ (names ++ (flat actions ++ flat nodes)))

pub refusals : List Example
unfolding bytes p1 changed still flat
refusals =
    (bytes p1, 0)
    -- under 20 bytes; 20 and 21 bytes; the header and no more
    ∷ (take 19 (bytes p1), 1)
    ∷ (take 20 (bytes p1), 1)
    ∷ (take 21 (bytes p1), 1)
    ∷ (take 22 (bytes p1), 5)
    -- another version, with 19 bytes, with 20, and with all
    ∷ (take 19 (changed ((0, 3) ∷ [])), 1)
    ∷ (take 20 (changed ((0, 3) ∷ [])), 2)
    ∷ (changed ((0, 3) ∷ []), 2)
    ∷ (changed ((0, 258) ∷ []), 2)
    -- version 1, whose transitions would stand at 20
    ∷ (changed ((0, 1) ∷ []), 4)
    -- each offset, and the length
    ∷ (changed ((10, 20) ∷ []), 4)
    ∷ (changed ((10, 24) ∷ []), 4)
    ∷ (changed ((7, 22) ∷ []), 4)
    ∷ (changed ((8, 54) ∷ []), 4)
    ∷ (changed ((9, 58) ∷ []), 4)
    ∷ ((bytes p1 ++ (0 ∷ [])), 5)
    ∷ (take 71 (bytes p1), 5)
    -- another number of labels moves the transitions
    ∷ (changed ((3, 1) ∷ []), 4)
    -- the largest name, and one above it, in each place of a record
    ∷ (changed ((records, name_limit) ∷ []), 0)
    ∷ (changed ((records, name_limit + 1) ∷ []), 15)
    ∷ (changed ((records + 5, name_limit) ∷ []), 0)
    ∷ (changed ((records + 5, name_limit + 1) ∷ []), 15)
    ∷ (changed ((records + 5, 65_535) ∷ []), 15)
    ∷ (changed ((records + 6, name_limit) ∷ (records + 7, name_limit) ∷ []), 0)
    ∷ (changed ((records + 6, name_limit + 1) ∷ []), 15)
    ∷ (changed ((records + 6, 9) ∷ (records + 7, name_limit + 1) ∷ []), 15)
    -- a name behind a 0, in each place
    ∷ (changed ((records, 0) ∷ (records + 1, 7) ∷ []), 15)
    ∷ (changed ((records + 2, 7) ∷ []), 15)
    ∷ (changed ((records + 3, 7) ∷ []), 15)
    ∷ (changed ((records + 7, 7) ∷ []), 15)
    ∷ (changed ((records + 4, 0) ∷ []), 15)
    -- the silent step, and copies of a name
    ∷ (changed ((records, 0) ∷ []), 0)
    ∷ (changed ((records + 5, 8) ∷ (records + 6, 8) ∷ []), 0)
    -- 6 comes before 15, 15 before 7
    ∷ (changed ((records + 3, 7) ∷ (transitions, 3) ∷ []), 6)
    ∷ (changed ((records + 3, 7) ∷ (action, 7) ∷ []), 15)
    ∷ (changed ((action, 7) ∷ []), 7)
    -- a label node's label is below l, used or not
    ∷ (still (1 ∷ 0 ∷ 0 ∷ 0 ∷ []) ((2, 0) ∷ []) ((1, 0) ∷ []), 0)
    ∷ (still (1 ∷ 0 ∷ 0 ∷ 0 ∷ []) ((2, 1) ∷ []) ((1, 0) ∷ []), 7)
    ∷ []

-- each comes out as given
pub refused : map answer refusals ≡ map (λ (x : Example). x.1) refusals
unfolding answer refusals
refused = refl

-- Eight labels: focus and blur; blur and focus; focus twice and blur; focus and blur twice; focus; focus twice; two silent steps.
pub together : List ℕ
unfolding still bytes flat
together =
    still (1 ∷ 2 ∷ 0 ∷ 0 ∷ 2 ∷ 1 ∷ 0 ∷ 0 ∷ 1 ∷ 1 ∷ 2 ∷ 0 ∷ 1 ∷ 2 ∷ 2 ∷ 0 ∷ 1 ∷ 0 ∷ 0 ∷ 0 ∷ 1 ∷ 1 ∷ 0 ∷ 0 ∷ 0 ∷ 0 ∷ 0 ∷ 0 ∷ 0 ∷ 0 ∷ 0 ∷ 0 ∷ [])
    [] ((1, 0) ∷ [])

-- the labels below 8 with these numbers
unfoldable pub chosen : List ℕ → List Bool
chosen xs = map (λ j. for_some (eqb j) xs) (numbers_from 0 8)

-- names permuted are alike, copies of a name count, and the silent steps are alike
pub alike_together : map (alike_labels (header_of together) (label_table together)) (numbers_from 0 8)
    ≡ map chosen ((0 ∷ 1 ∷ []) ∷ (0 ∷ 1 ∷ []) ∷ (2 ∷ []) ∷ (3 ∷ []) ∷ (4 ∷ []) ∷ (5 ∷ []) ∷ (6 ∷ 7 ∷ []) ∷ (6 ∷ 7 ∷ []) ∷ [])
unfolding together chosen for_some alike_labels alike same_names occurrences names_of keep u16 header_size label_records label_table numbers_from every
alike_together = refl
