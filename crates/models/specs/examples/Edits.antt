-- Worked values: P1's model opened, edited and refused. The bytes were worked out by hand.
use Rattle.std.specs.Prelude.{◌≡◌, refl, List, [], ◌∷◌, ◌++◌, map, ℕ, take, replicate}
use Rattle.sets.specs.Lists.{numbers_from, every, for_some, keep}
use Rattle.sets.specs.Refusals.{first_of, refused}
use Rattle.cases.specs.declared.Transition.{Transition}
use Rattle.cases.specs.File.{u16, header_size, label_records, transition_table, case_within}
use Rattle.cases.specs.Case.{same_transition, copies, copies_before, distinct}
use Rattle.cases.specs.Conditions.{too_small, other_version, bad_count, bad_offset, bad_length, layout_conditions}
use Rattle.records.specs.Replaced.{table_bytes, with_number, head_for, with_transitions}
use Rattle.records.specs.Places.{place_of, without_at}
use Rattle.models.specs.History.{Add, Drop, Want, held_after}
use Rattle.models.specs.Model.{adding, dropping, add_checks, drop_checks, model_room, opened_model, add_conditions, added_model, drop_conditions, dropped_model}

abbrev t : ℕ → ℕ → ℕ → Transition
t s l e = record { source = s; label = l; target = e }

-- numbers below 256 as 16 bits
pub low : List ℕ → List ℕ
low [] = []
low (x ∷ xs) = x ∷ 0 ∷ low xs

-- P1: header, three records of which two are equal, an action node, three formula nodes
pub p1 : List ℕ
unfolding low
p1 = low (1 ∷ 3 ∷ 3 ∷ 2 ∷ 0 ∷ 1 ∷ 3 ∷ 20 ∷ 38 ∷ 42 ∷ 0 ∷ 0 ∷ 1 ∷ 0 ∷ 0 ∷ 1 ∷ 1 ∷ 1 ∷ 2 ∷ 1 ∷ 0 ∷ 7 ∷ 0 ∷ 4 ∷ 0 ∷ 6 ∷ 0 ∷ [])

-- P1 opened: two records, so the offsets behind them are 6 less
pub opened : List ℕ
unfolding low
opened = low (1 ∷ 3 ∷ 2 ∷ 2 ∷ 0 ∷ 1 ∷ 3 ∷ 20 ∷ 32 ∷ 36 ∷ 0 ∷ 0 ∷ 1 ∷ 1 ∷ 1 ∷ 2 ∷ 1 ∷ 0 ∷ 7 ∷ 0 ∷ 4 ∷ 0 ∷ 6 ∷ 0 ∷ [])

-- It is so whatever bytes the model had; those behind stay.
pub opens : opened_model p1 (replicate 60 7) ≡ opened ++ replicate 12 7
unfolding p1 opened low opened_model with_transitions head_for with_number header_size label_records u16 transition_table distinct copies_before copies same_transition keep numbers_from table_bytes
opens = refl

-- A model needs 54 + 6 × 2,045 bytes.
pub room : model_room p1 ≡ 12_324
unfolding p1 low model_room u16
room = refl

-- (2,1,0) is added behind the last record, and what follows moves; (0,0,1) is held, and nothing changes.
pub adds : added_model (opened ++ replicate 12 7) (t 2 1 0) ∷ added_model (opened ++ replicate 12 7) (t 0 0 1) ∷ []
    ≡ (low (1 ∷ 3 ∷ 3 ∷ 2 ∷ 0 ∷ 1 ∷ 3 ∷ 20 ∷ 38 ∷ 42 ∷ 0 ∷ 0 ∷ 1 ∷ 1 ∷ 1 ∷ 2 ∷ 2 ∷ 1 ∷ 0 ∷ 1 ∷ 0 ∷ 7 ∷ 0 ∷ 4 ∷ 0 ∷ 6 ∷ 0 ∷ []) ++ replicate 6 7)
    ∷ (opened ++ replicate 12 7) ∷ []
unfolding opened low added_model case_within with_transitions head_for with_number header_size label_records u16 transition_table same_transition for_some numbers_from table_bytes
adds = refl

-- (0,0,1) is dropped: the last record takes its place, and what follows moves down. The 6 bytes behind the new end stay as they were.
pub drops : dropped_model opened (t 0 0 1)
    ≡ low (1 ∷ 3 ∷ 1 ∷ 2 ∷ 0 ∷ 1 ∷ 3 ∷ 20 ∷ 26 ∷ 30 ∷ 1 ∷ 1 ∷ 2 ∷ 1 ∷ 0 ∷ 7 ∷ 0 ∷ 4 ∷ 0 ∷ 6 ∷ 0 ∷ []) ++ (0 ∷ 0 ∷ 6 ∷ 0 ∷ 0 ∷ 0 ∷ [])
unfolding opened low dropped_model dropping place_of without_at case_within with_transitions head_for with_number header_size label_records u16 transition_table same_transition numbers_from table_bytes
drops = refl

-- Sets: what is added and dropped, in order.
pub sets : adding (t 0 0 1 ∷ t 1 1 2 ∷ []) (t 1 1 2) ∷ adding (t 0 0 1 ∷ []) (t 0 0 2) ∷ dropping (t 0 0 1 ∷ t 1 1 2 ∷ t 2 0 0 ∷ []) (t 0 0 1) ∷ dropping (t 0 0 1 ∷ t 1 1 2 ∷ []) (t 1 1 2) ∷ dropping (t 0 0 1 ∷ []) (t 0 0 1) ∷ []
    ≡ (t 0 0 1 ∷ t 1 1 2 ∷ []) ∷ (t 0 0 1 ∷ t 0 0 2 ∷ []) ∷ (t 2 0 0 ∷ t 1 1 2 ∷ []) ∷ (t 0 0 1 ∷ []) ∷ [] ∷ []
unfolding adding dropping place_of without_at same_transition for_some
sets = refl

-- Refusals of a set between 3 states with 2 labels: adding one that is new, one that is held, each number out of range, one above 16 bits; dropping one that is held, one that is not, and
-- one out of range that is not held.
pub refusals : map (λ x. first_of (add_checks 3 2 (t 0 0 1 ∷ []) x)) (t 2 1 2 ∷ t 0 0 1 ∷ t 3 0 1 ∷ t 0 2 1 ∷ t 0 0 3 ∷ t 65_536 0 1 ∷ [])
    ++ map (λ x. first_of (drop_checks 3 2 (t 0 0 1 ∷ []) x)) (t 0 0 1 ∷ t 1 0 1 ∷ t 65_536 0 1 ∷ [])
    ≡ 0 ∷ 0 ∷ 6 ∷ 6 ∷ 6 ∷ 6 ∷ 0 ∷ 17 ∷ 6 ∷ []
unfolding add_checks drop_checks first_of same_transition for_some
refusals = refl

-- Where 2,048 are held, a new one is 16, one that is held is not, and one out of range is 6.
pub limits : map (λ x. first_of (add_checks 256 64 (map (λ i. t 0 0 i) (numbers_from 0 2_048)) x)) (t 1 0 0 ∷ t 0 0 255 ∷ t 256 0 0 ∷ []) ≡ 16 ∷ 0 ∷ 6 ∷ []
unfolding add_checks first_of same_transition for_some numbers_from
limits = refl

-- On bytes that are no case: none at all, a header that is cut, another version, and a model without room for one record more.
pub foreign : first_of (add_conditions [] (t 0 0 0)) ∷ first_of (add_conditions (take 19 opened) (t 0 0 0)) ∷ first_of (add_conditions (9 ∷ replicate 30 0) (t 0 0 0)) ∷ first_of (add_conditions (take 47 opened) (t 0 0 0))
    ∷ first_of (add_conditions (opened ++ replicate 5 0) (t 2 1 0)) ∷ first_of (add_conditions (opened ++ replicate 6 0) (t 2 1 0)) ∷ first_of (drop_conditions opened (t 2 1 0)) ∷ first_of (drop_conditions opened (t 0 0 1)) ∷ []
    ≡ 1 ∷ 1 ∷ 2 ∷ 5 ∷ 13 ∷ 0 ∷ 17 ∷ 0 ∷ []
unfolding opened low add_conditions drop_conditions add_checks drop_checks first_of case_within layout_conditions too_small other_version bad_count bad_offset bad_length every for_some header_size label_records u16 transition_table same_transition numbers_from
foreign = refl

-- Version 2: P1 with two label records before its transitions, opened, and with (2,1,0) added.
pub p1_named : List ℕ
unfolding low
p1_named = low (2 ∷ 3 ∷ 3 ∷ 2 ∷ 0 ∷ 1 ∷ 3 ∷ 38 ∷ 56 ∷ 60 ∷ 22 ∷ 7 ∷ 0 ∷ 0 ∷ 0 ∷ 8 ∷ 7 ∷ 0 ∷ 0 ∷ 0 ∷ 0 ∷ 1 ∷ 0 ∷ 0 ∷ 1 ∷ 1 ∷ 1 ∷ 2 ∷ 1 ∷ 0 ∷ 7 ∷ 0 ∷ 4 ∷ 0 ∷ 6 ∷ 0 ∷ [])

pub named : opened_model p1_named [] ∷ added_model (opened_model p1_named (replicate 80 9)) (t 2 1 0) ∷ []
    ≡ low (2 ∷ 3 ∷ 2 ∷ 2 ∷ 0 ∷ 1 ∷ 3 ∷ 38 ∷ 50 ∷ 54 ∷ 22 ∷ 7 ∷ 0 ∷ 0 ∷ 0 ∷ 8 ∷ 7 ∷ 0 ∷ 0 ∷ 0 ∷ 0 ∷ 1 ∷ 1 ∷ 1 ∷ 2 ∷ 1 ∷ 0 ∷ 7 ∷ 0 ∷ 4 ∷ 0 ∷ 6 ∷ 0 ∷ [])
    ∷ (low (2 ∷ 3 ∷ 3 ∷ 2 ∷ 0 ∷ 1 ∷ 3 ∷ 38 ∷ 56 ∷ 60 ∷ 22 ∷ 7 ∷ 0 ∷ 0 ∷ 0 ∷ 8 ∷ 7 ∷ 0 ∷ 0 ∷ 0 ∷ 0 ∷ 1 ∷ 1 ∷ 1 ∷ 2 ∷ 2 ∷ 1 ∷ 0 ∷ 1 ∷ 0 ∷ 7 ∷ 0 ∷ 4 ∷ 0 ∷ 6 ∷ 0 ∷ []) ++ replicate 8 9) ∷ []
unfolding p1_named low opened_model added_model case_within with_transitions head_for with_number header_size label_records u16 transition_table distinct copies_before copies same_transition for_some keep numbers_from table_bytes
named = refl

-- A history: an add, an add of the same, one that is refused, a drop, and a want between them; the set that it says.
pub said : held_after (t 0 0 1 ∷ t 1 1 2 ∷ []) (Add (t 2 1 0) 0 ∷ Add (t 2 1 0) 0 ∷ Add (t 9 1 0) 6 ∷ Want [] 0 (refused 13) (record { records = 3; distinct = 3 }) [] ∷ Drop (t 0 0 1) 0 ∷ Drop (t 0 0 1) 17 ∷ [])
    ≡ t 2 1 0 ∷ t 1 1 2 ∷ []
unfolding held_after adding dropping place_of without_at same_transition for_some
said = refl
