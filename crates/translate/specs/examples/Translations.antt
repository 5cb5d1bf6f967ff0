-- Worked values: the equation files of cases, and the tables that they come from. P1 to P8 are those of the scope.
use Rattle.std.specs.Prelude.{◌≡◌, refl, Bool, true, false, ℕ, zero, suc, ◌+◌, ◌*◌, ◌/◌, ◌%◌, replicate, take, drop, set}
use mathlib.Core.List.{List, [], ◌∷◌, ◌++◌, map, flat_map}
use Rattle.sets.specs.Lists.{numbers_from, every, for_some, keep}
use Rattle.solver.specs.File.{block_limit, blocks_at}
use Rattle.solver.specs.Cells.{operands_of}
use Rattle.sets.specs.Refusals.{first_of}
use Rattle.cases.specs.Action.{accepts}
use Rattle.cases.specs.declared.Header.{Header}
use Rattle.cases.specs.Formula.{nodes}
use Rattle.cases.specs.Prefix.{trees, action_at, formula_at, whole_formulas, exactly, span}
use Rattle.cases.specs.File.{u16, header_size, header_of, label_records, label_table, transition_table, action_table, formula_table}
use Rattle.cases.specs.Labels.{names_of, occurrences, same_names, alike, alike_labels}
use Rattle.cases.specs.Case.{Case, case_of, same_transition, copies, copies_before, distinct}
use Rattle.cases.specs.Conditions.{too_small, other_version, bad_count, bad_offset, bad_length, bad_model, padded, bad_labels, bad_actions, bad_formula, bound_ok, bad_variable, binder_count, block_total, too_deep, layout_conditions, model_conditions, formula_conditions, case_conditions}
use Rattle.translate.specs.Translating.{translate_conditions, translate_refusal}
use Rattle.translate.specs.Whole.{raise, binds_first, whole, binder_nodes, index_in, block_in}
use Rattle.translate.specs.Tables.{Expression, ⋀, Sat⇒, X, nil, cons, each, RHS, E}
use Rattle.translate.specs.Unfolding.{Plain, All, Var, nothing, more, left_out, plain, plains, equations_of}
use Rattle.translate.specs.Cells.{targets, cell_of, cells_from, blocks_from}
use Rattle.translate.specs.Bytes.{system_of, all_operands, block_numbers, cell_numbers, numbers, bytes, file_of}

-- numbers of 16 bits as bytes, low byte first
unfoldable pub halves : List ℕ → List ℕ
halves [] = []
halves (x ∷ xs) = x % 256 ∷ x / 256 % 256 ∷ halves xs

-- a case with the offsets that its counts of transitions, action nodes and formula nodes ask for
unfoldable pub case_file : (n t l initial a f : ℕ) → List ℕ → List ℕ
unfolding halves
case_file n t l initial a f tables = halves (1 ∷ n ∷ t ∷ l ∷ initial ∷ a ∷ f ∷ 20 ∷ (20 + 6 * t) ∷ (20 + 6 * t + 4 * a) ∷ tables)

-- a case of version 1 as one of version 2: label j has the one name j + 1, and the tables stand behind the label records
unfoldable pub labelled : List ℕ → List ℕ
unfolding halves u16 numbers_from flat_map
labelled b =
    let h : Header = header_of b in
    let more : ℕ = 2 + 8 * h.labels in
    halves
    (2 ∷ h.states ∷ h.transitions ∷ h.labels ∷ h.initial ∷ h.actions ∷ h.nodes
    ∷ (h.transitions_at + more) ∷ (h.actions_at + more) ∷ (h.formula_at + more) ∷ 22
    ∷ flat_map (λ j. (j + 1) ∷ 0 ∷ 0 ∷ 0 ∷ []) (numbers_from 0 h.labels)) ++ drop 20 b

-- an equation file with the offsets that its counts of blocks, cells and operands ask for
equation_file : (n d c p initial : ℕ) → List ℕ → List ℕ
unfolding bytes
equation_file n d c p initial tables = bytes (1 ∷ n ∷ d ∷ c ∷ p ∷ initial ∷ blocks_at ∷ (blocks_at + 8 * d) ∷ (blocks_at + 8 * d + 12 * c) ∷ tables)

-- P1, byte by byte: header, three transitions of which the second is a copy, true, mu X box X
unfoldable pub p1 : List ℕ
p1 =
    1 ∷ 0 ∷ 3 ∷ 0 ∷ 3 ∷ 0 ∷ 2 ∷ 0 ∷ 0 ∷ 0 ∷ 1 ∷ 0 ∷ 3 ∷ 0 ∷ 20 ∷ 0 ∷ 38 ∷ 0 ∷ 42 ∷ 0
    ∷ 0 ∷ 0 ∷ 0 ∷ 0 ∷ 1 ∷ 0 ∷ 0 ∷ 0 ∷ 0 ∷ 0 ∷ 1 ∷ 0 ∷ 1 ∷ 0 ∷ 1 ∷ 0 ∷ 2 ∷ 0
    ∷ 1 ∷ 0 ∷ 0 ∷ 0
    ∷ 7 ∷ 0 ∷ 0 ∷ 0 ∷ 4 ∷ 0 ∷ 0 ∷ 0 ∷ 6 ∷ 0 ∷ 0 ∷ 0 ∷ []

-- and its equation file: header with the offsets, one block, three cells for each of three nodes, two operands
unfoldable pub p1_equations : List ℕ
p1_equations =
    1 ∷ 0 ∷ 0 ∷ 0 ∷ 3 ∷ 0 ∷ 0 ∷ 0 ∷ 1 ∷ 0 ∷ 0 ∷ 0 ∷ 9 ∷ 0 ∷ 0 ∷ 0 ∷ 2 ∷ 0 ∷ 0 ∷ 0 ∷ 0 ∷ 0 ∷ 0 ∷ 0
    ∷ 36 ∷ 0 ∷ 0 ∷ 0 ∷ 44 ∷ 0 ∷ 0 ∷ 0 ∷ 152 ∷ 0 ∷ 0 ∷ 0
    ∷ 0 ∷ 0 ∷ 0 ∷ 0 ∷ 3 ∷ 0 ∷ 0 ∷ 0
    ∷ 2 ∷ 0 ∷ 0 ∷ 0 ∷ 0 ∷ 0 ∷ 0 ∷ 0 ∷ 0 ∷ 0 ∷ 0 ∷ 0
    ∷ 2 ∷ 0 ∷ 0 ∷ 0 ∷ 0 ∷ 0 ∷ 0 ∷ 0 ∷ 1 ∷ 0 ∷ 0 ∷ 0
    ∷ 2 ∷ 0 ∷ 0 ∷ 0 ∷ 0 ∷ 0 ∷ 0 ∷ 0 ∷ 2 ∷ 0 ∷ 0 ∷ 0
    ∷ 0 ∷ 0 ∷ 0 ∷ 0 ∷ 0 ∷ 0 ∷ 0 ∷ 0 ∷ 1 ∷ 0 ∷ 0 ∷ 0
    ∷ 0 ∷ 0 ∷ 0 ∷ 0 ∷ 1 ∷ 0 ∷ 0 ∷ 0 ∷ 1 ∷ 0 ∷ 0 ∷ 0
    ∷ 0 ∷ 0 ∷ 0 ∷ 0 ∷ 2 ∷ 0 ∷ 0 ∷ 0 ∷ 0 ∷ 0 ∷ 0 ∷ 0
    ∷ 2 ∷ 0 ∷ 0 ∷ 0 ∷ 0 ∷ 0 ∷ 0 ∷ 0 ∷ 0 ∷ 0 ∷ 0 ∷ 0
    ∷ 2 ∷ 0 ∷ 0 ∷ 0 ∷ 0 ∷ 0 ∷ 0 ∷ 0 ∷ 1 ∷ 0 ∷ 0 ∷ 0
    ∷ 2 ∷ 0 ∷ 0 ∷ 0 ∷ 0 ∷ 0 ∷ 0 ∷ 0 ∷ 2 ∷ 0 ∷ 0 ∷ 0
    ∷ 7 ∷ 0 ∷ 0 ∷ 0 ∷ 8 ∷ 0 ∷ 0 ∷ 0 ∷ []

-- binders X and Y of the kinds x and y (7 mu, 8 nu) over (diamond 0 X or diamond 1 Y), on the labels 0 and 1
unfoldable pub diamonds : ℕ → ℕ → List ℕ
unfolding case_file
diamonds x y = case_file 2 2 2 0 2 7
    (0 ∷ 0 ∷ 1 ∷ 1 ∷ 1 ∷ 0
    ∷ 2 ∷ 0 ∷ 2 ∷ 1
    ∷ x ∷ 0 ∷ y ∷ 0 ∷ 3 ∷ 0 ∷ 5 ∷ 0 ∷ 6 ∷ 0 ∷ 5 ∷ 1 ∷ 6 ∷ 1 ∷ [])

unfoldable pub p2 : List ℕ
unfolding diamonds
p2 = diamonds 8 7

unfoldable pub p3 : List ℕ
unfolding diamonds
p3 = diamonds 7 8

-- The nodes in states 0 and 1, with blocks of the signs a and b. An or has the cells of both diamonds; diamond 0 in state 0 leads to X in state 1,
-- diamond 1 in state 1 to Y in state 0.
diamonds_equations : ℕ → ℕ → List ℕ
unfolding equation_file
diamonds_equations a b = equation_file 2 2 14 6 0
    (a ∷ 2 ∷ b ∷ 4
    ∷ 2 ∷ 0 ∷ 0 ∷ 2 ∷ 0 ∷ 1
    ∷ 2 ∷ 1 ∷ 0 ∷ 2 ∷ 1 ∷ 1
    ∷ 1 ∷ 0 ∷ 2 ∷ 1 ∷ 2 ∷ 2
    ∷ 1 ∷ 4 ∷ 1 ∷ 1 ∷ 5 ∷ 0
    ∷ 2 ∷ 0 ∷ 0 ∷ 2 ∷ 0 ∷ 1
    ∷ 1 ∷ 5 ∷ 0 ∷ 1 ∷ 5 ∷ 1
    ∷ 2 ∷ 1 ∷ 0 ∷ 2 ∷ 1 ∷ 1
    ∷ 6 ∷ 10 ∷ 7 ∷ 11 ∷ 9 ∷ 12 ∷ [])

-- Copies, and equal ends under different labels: nu X diamond true X in two states, where state 0 has the transitions 0 to 1, 1 to 1, 0 to 1 again,
-- 2 to 0 and 1 to 1 again. Three are distinct, two of which end in state 1. So the diamond in state 0, cell 2, has the operands 5, 5 and 4, which are
-- X in the states 1, 1 and 0; in state 1, cell 3, it is an empty or.
unfoldable pub copied : List ℕ
unfolding case_file
copied = case_file 2 5 3 1 1 3
    (0 ∷ 0 ∷ 1 ∷ 0 ∷ 1 ∷ 1 ∷ 0 ∷ 0 ∷ 1 ∷ 0 ∷ 2 ∷ 0 ∷ 0 ∷ 1 ∷ 1
    ∷ 1 ∷ 0
    ∷ 8 ∷ 0 ∷ 5 ∷ 0 ∷ 6 ∷ 0 ∷ [])

copied_equations : List ℕ
unfolding equation_file
copied_equations = equation_file 2 1 6 3 1
    (1 ∷ 2
    ∷ 2 ∷ 0 ∷ 0 ∷ 2 ∷ 0 ∷ 1
    ∷ 1 ∷ 0 ∷ 3 ∷ 1 ∷ 3 ∷ 0
    ∷ 2 ∷ 0 ∷ 0 ∷ 2 ∷ 0 ∷ 1
    ∷ 5 ∷ 5 ∷ 4 ∷ [])

-- A box into the middle of an action formula: of the action nodes or, label 0, not, label 1 it takes node 2, not label 1. Mu X box X in two states;
-- state 0 has the transitions 0 to 1, 1 to 0, 2 to 0, and state 1 has 1 to 0. So the box in state 0 has the operands 5 and 4, and in state 1 none.
unfoldable pub middle : List ℕ
unfolding case_file
middle = case_file 2 4 3 0 4 3
    (0 ∷ 0 ∷ 1 ∷ 0 ∷ 1 ∷ 0 ∷ 0 ∷ 2 ∷ 0 ∷ 1 ∷ 1 ∷ 0
    ∷ 5 ∷ 0 ∷ 2 ∷ 0 ∷ 3 ∷ 0 ∷ 2 ∷ 1
    ∷ 7 ∷ 0 ∷ 4 ∷ 2 ∷ 6 ∷ 0 ∷ [])

middle_equations : List ℕ
unfolding equation_file
middle_equations = equation_file 2 1 6 2 0
    (0 ∷ 2
    ∷ 2 ∷ 0 ∷ 0 ∷ 2 ∷ 0 ∷ 1
    ∷ 0 ∷ 0 ∷ 2 ∷ 0 ∷ 2 ∷ 0
    ∷ 2 ∷ 0 ∷ 0 ∷ 2 ∷ 0 ∷ 1
    ∷ 5 ∷ 4 ∷ [])

-- one state without transitions, the action formula true, and a formula of f nodes
unfoldable pub still : ℕ → List ℕ → List ℕ
unfolding case_file
still f table = case_file 1 0 1 0 1 f (1 ∷ 0 ∷ table)

-- the nodes of k nested nu over true
unfoldable pub nus : ℕ → List ℕ
nus zero = 1 ∷ 0 ∷ []
nus (suc k) = 8 ∷ 0 ∷ nus k

-- P4: true. P5: box true false. P6: diamond true true.
unfoldable pub p4 : List ℕ
unfolding still
p4 = still 1 (1 ∷ 0 ∷ [])

unfoldable pub p5 : List ℕ
unfolding still
p5 = still 2 (4 ∷ 0 ∷ 0 ∷ 0 ∷ [])

unfoldable pub p6 : List ℕ
unfolding still
p6 = still 2 (5 ∷ 0 ∷ 1 ∷ 0 ∷ [])

-- P7: an and of two formulas, each three nested nu over true. P8: six nested nu over true.
unfoldable pub p7 : List ℕ
unfolding still nus
p7 = still 9 (2 ∷ 0 ∷ (nus 3 ++ nus 3))

unfoldable pub p8 : List ℕ
unfolding still nus
p8 = still 7 (nus 6)

-- k nested nu over true
unfoldable pub deep : ℕ → List ℕ
unfolding still nus
deep k = still (k + 1) (nus k)

-- Fifty copies of a loop in one state, so that the tables' offsets do not fit a byte: nu X box true X.
loops : List ℕ
unfolding case_file
loops = case_file 1 50 1 0 1 3 (replicate 150 0 ++ (1 ∷ 0 ∷ 8 ∷ 0 ∷ 4 ∷ 0 ∷ 6 ∷ 0 ∷ []))

-- True in forty states: the nu that is put before it has forty variables, and the operands' offset is 1,004.
forty : List ℕ
unfolding equation_file numbers_from flat_map
forty = equation_file 40 1 80 0 39 (1 ∷ 40 ∷ (flat_map (λ s. 2 ∷ 0 ∷ s ∷ []) (numbers_from 0 40) ++ replicate 120 0))

-- the equations of d nested nu over true
nested : ℕ → List ℕ
unfolding equation_file numbers_from flat_map
nested d = equation_file 1 d (d + 1) 0 0
    (flat_map (λ k. 1 ∷ (k + 1) ∷ []) (numbers_from 0 d) ++ (flat_map (λ k. 2 ∷ k ∷ 0 ∷ []) (numbers_from 0 d) ++ (0 ∷ 0 ∷ 0 ∷ [])))

-- a case and its equation file
abbrev pub Example : Type 0
Example = List ℕ × List ℕ

pub examples : List Example
unfolding p1 p1_equations p2 p3 labelled diamonds_equations copied copied_equations middle middle_equations case_file equation_file still p4 p5 p6 p8 deep loops forty nested
examples =
    (p1, p1_equations)
    ∷ (p2, diamonds_equations 1 0)
    ∷ (labelled p1, p1_equations)
    ∷ (labelled p2, diamonds_equations 1 0)
    ∷ (p3, diamonds_equations 0 1)
    ∷ (copied, copied_equations)
    ∷ (middle, middle_equations)
    -- Roots that are no binder get a nu.
    ∷ (p4, nested 1)
    -- an empty and for the box, and an empty or for false
    ∷ (p5, equation_file 1 1 3 0 0 (1 ∷ 1 ∷ 2 ∷ 0 ∷ 0 ∷ 0 ∷ 0 ∷ 0 ∷ 1 ∷ 0 ∷ 0 ∷ []))
    -- an empty or for the diamond, and an empty and for true
    ∷ (p6, equation_file 1 1 3 0 0 (1 ∷ 1 ∷ 2 ∷ 0 ∷ 0 ∷ 1 ∷ 0 ∷ 0 ∷ 0 ∷ 0 ∷ 0 ∷ []))
    -- Mu X X and nu Y Y: with the nu before them the binders are nodes 0, 2 and 4, and the and is node 1.
    ∷ (
      still 5 (2 ∷ 0 ∷ 7 ∷ 0 ∷ 6 ∷ 1 ∷ 8 ∷ 0 ∷ 6 ∷ 3 ∷ []),
      equation_file 1 3 6 2 0
          (1 ∷ 1 ∷ 0 ∷ 3 ∷ 1 ∷ 5
          ∷ 2 ∷ 0 ∷ 0 ∷ 0 ∷ 0 ∷ 2 ∷ 2 ∷ 1 ∷ 0 ∷ 2 ∷ 1 ∷ 0 ∷ 2 ∷ 2 ∷ 0 ∷ 2 ∷ 2 ∷ 0
          ∷ 2 ∷ 4 ∷ []),
    )
    ∷ (p8, nested 6)
    -- as many blocks as there may be
    ∷ (deep block_limit, nested block_limit)
    -- numbers above 255
    ∷ (loops, equation_file 1 1 3 1 0 (1 ∷ 1 ∷ 2 ∷ 0 ∷ 0 ∷ 0 ∷ 0 ∷ 1 ∷ 2 ∷ 0 ∷ 0 ∷ 2 ∷ []))
    ∷ (case_file 40 0 1 39 0 1 (1 ∷ 0 ∷ []), forty)
    ∷ []

-- the equation file of a case's bytes, with all that this computes with
pub equations : List ℕ → List ℕ
unfolding file_of numbers system_of bytes cell_numbers block_numbers all_operands operands_of cells_from blocks_from cell_of targets
    whole raise binds_first binder_nodes index_in block_in case_of same_transition copies copies_before keep distinct
    u16 header_size label_records label_table alike_labels alike same_names occurrences names_of transition_table action_table formula_table trees action_at formula_at nodes accepts numbers_from every for_some
equations b = file_of (case_of b)

-- each example comes out as given
pub come_out : map (λ (x : Example). equations x.0) examples ≡ map (λ (x : Example). x.1) examples
unfolding equations examples
come_out = refl

-- what the bytes of a case are refused with, where the buffer has so many bytes, with all that this computes with
pub refusals : List ℕ → List ℕ → List ℕ
unfolding equations translate_refusal translate_conditions case_conditions first_of layout_conditions model_conditions formula_conditions too_small other_version bad_count bad_offset bad_length bad_model bad_labels padded bad_actions
    bad_formula bound_ok bad_variable binder_count block_total too_deep whole_formulas exactly span
refusals b rooms = map (translate_refusal b) rooms

-- P1 in buffers that are too short, just long enough, and longer; and P1 cut short, P7, one block too many, and a name above the limit, which no
-- buffer helps
pub rooms : (refusals p1 (0 ∷ 159 ∷ 160 ∷ 200 ∷ []) ≡ 13 ∷ 13 ∷ 0 ∷ 0 ∷ []) × (refusals (take 53 p1) (0 ∷ 200 ∷ []) ≡ 5 ∷ 5 ∷ [])
    × (refusals p7 (0 ∷ 200 ∷ []) ≡ 10 ∷ 10 ∷ []) × (refusals (deep (block_limit + 1)) (0 ∷ 200 ∷ []) ≡ 10 ∷ 10 ∷ [])
    × (refusals (set (labelled p1) 23 1) (0 ∷ 200 ∷ []) ≡ 15 ∷ 15 ∷ [])
unfolding refusals p1 p7 deep labelled
rooms = (refl, refl, refl, refl, refl)

-- An equation written out: sign, block, and the right-hand sides of states 0, 1 and so on, as the table has them and without Sat.
abbrev pub Shown : Type 0
Shown = Bool × ℕ × List Expression × List Plain

-- the tables of a case's bytes
pub written : List ℕ → List Shown
unfolding equations E RHS each plain plains left_out
written b =
    let c : Case = case_of b in
    map (λ e. (e.sign, e.of, map e.side (numbers_from 0 c.states), map (λ s. plain (e.side s)) (numbers_from 0 c.states)))
    (equations_of c)

-- The tables of P1, and of the box into the middle of an action formula, where label 1 is not accepted.
pub tables : map written (p1 ∷ middle ∷ []) ≡
    ((
      false,
      0,
      (⋀ (cons (Sat⇒ true (X 0 1)) nil) ∷ ⋀ (cons (Sat⇒ true (X 0 2)) nil) ∷ ⋀ nil ∷ []),
      (All (more (Var 0 1) nothing) ∷ All (more (Var 0 2) nothing) ∷ All nothing ∷ []),
    ) ∷ [])
    ∷ ((
      false,
      0,
      (⋀ (cons (Sat⇒ true (X 0 1)) (cons (Sat⇒ false (X 0 0)) (cons (Sat⇒ true (X 0 0)) nil))) ∷ ⋀ (cons (Sat⇒ false (X 0 0)) nil) ∷ []),
      (All (more (Var 0 1) (more (Var 0 0) nothing)) ∷ All nothing ∷ []),
    ) ∷ [])
    ∷ []
unfolding written p1 middle
tables = refl
