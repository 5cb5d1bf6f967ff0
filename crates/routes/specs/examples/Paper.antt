-- P1 to P8 of the scope: what both routes answer, with the memory that the program lends, and how many records are copies.
use Rattle.std.specs.Prelude.{◌≡◌, refl, List, [], ◌∷◌, map, ℕ}
use Rattle.sets.specs.Lists.{numbers_from, every, for_some, keep}
use Rattle.sets.specs.States.{size, update}
use Rattle.sets.specs.computed.Iteration.{repeated, same}
use Rattle.solver.specs.Cells.{value, operands_of}
use Rattle.solver.specs.computed.Solved.{evaluate, work_out, solved, run}
use Rattle.solver.specs.File.{u32, blocks, operands, entries, cells, entry_cell}
use Rattle.sets.specs.Refusals.{Outcome, refused, first_of, outcome_by}
use Rattle.solver.specs.Outcome.{solve_too_short}
use Rattle.cases.specs.Action.{accepts}
use Rattle.cases.specs.Formula.{nodes}
use Rattle.cases.specs.Prefix.{trees, action_at, formula_at, whole_formulas, exactly, span}
use Rattle.cases.specs.File.{u16, header_size, label_records, label_table, transition_table, action_table, formula_table}
use Rattle.cases.specs.Labels.{names_of, occurrences, same_names, alike, alike_labels}
use Rattle.cases.specs.Case.{case_of, same_transition, copies, copies_before, distinct}
use Rattle.cases.specs.Conditions.{too_small, other_version, bad_count, bad_offset, bad_length, bad_model, padded, bad_labels, bad_actions, bad_formula, bound_ok, bad_variable, binder_count, block_total, too_deep, layout_conditions, model_conditions, formula_conditions, case_conditions, case_refusal}
use Rattle.cases.specs.Tally.{tallied, tally_of}
use Rattle.cases.specs.declared.Tally.{Tally}
use Rattle.cases.specs.computed.Reached.{reachable}
use Rattle.translate.specs.Whole.{raise, binds_first, whole, binder_nodes, index_in, block_in}
use Rattle.translate.specs.Cells.{targets, cell_of, cells_from, blocks_from}
use Rattle.translate.specs.Bytes.{system_of, all_operands, block_numbers, cell_numbers, numbers, bytes, file_of}
use Rattle.translate.specs.Translating.{file}
use Rattle.translate.specs.examples.Translations.{halves, case_file, still, p1, p1_equations, p2, p3, p4, p5, p6, p7, p8}
use Rattle.routes.specs.computed.Worked.{worked}
use Rattle.routes.specs.Route.{Route, direct, equation, run_of, too_short as route_too_short, exceeds as route_exceeds, run_conditions, route_conditions, route_outcome, outcome_of, program_limit, program_memory}

-- a case, a limit, what the equation route and direct answer, and the tally of both
abbrev pub Example : Type 0
Example = List ℕ × ℕ × Outcome × Outcome × Tally

-- a report of verdict, count and rounds
unfoldable pub reported : ℕ → ℕ → ℕ → Outcome
reported v c r = record { refusal = 0; verdict = v; count = c; rounds = r }

-- so many records, and so many of them distinct
unfoldable pub tally : ℕ → ℕ → Tally
tally r d = record { records = r; distinct = d }

unfoldable pub paper : List Example
unfolding p1 p2 p3 p4 p5 p6 p7 p8 still case_file halves reported tally
paper =
    (p1, program_limit, reported 1 3 4, reported 1 3 4, tally 3 2)
    ∷ (p1, 3, refused 14, refused 14, tally 3 2)
    ∷ (p2, program_limit, reported 1 2 4, reported 1 2 4, tally 2 2)
    ∷ (p3, program_limit, reported 0 0 4, reported 0 0 4, tally 2 2)
    -- Without a binder direct takes no round.
    ∷ (p4, program_limit, reported 1 1 1, reported 1 1 0, tally 0 0)
    ∷ (p5, program_limit, reported 1 1 1, reported 1 1 0, tally 0 0)
    ∷ (p6, program_limit, reported 0 0 2, reported 0 0 0, tally 0 0)
    ∷ (p7, program_limit, refused 10, refused 10, tally 0 0)
    ∷ (p8, program_limit, reported 1 1 6, reported 1 1 6, tally 0 0)
    ∷ []

-- what a route answers on a case at a limit, with all that this computes with
unfoldable pub outcome_at : Route → List ℕ → ℕ → Outcome
unfolding route_outcome reachable outcome_by route_conditions run_conditions route_too_short route_exceeds run_of worked repeated update
    same size numbers_from every for_some accepts nodes u16 header_size label_records label_table alike_labels alike same_names occurrences names_of transition_table action_table formula_table trees action_at formula_at case_of
    same_transition copies copies_before keep distinct case_conditions first_of layout_conditions model_conditions formula_conditions
    too_small other_version bad_count bad_offset bad_length bad_model bad_labels padded bad_actions bad_formula bound_ok bad_variable binder_count block_total
    too_deep whole_formulas exactly span file_of numbers system_of bytes cell_numbers block_numbers all_operands operands_of cells_from
    blocks_from cell_of targets whole raise binds_first binder_nodes index_in block_in solve_too_short run solved evaluate work_out value u32
    blocks operands entries entry_cell cells
outcome_at R b limit = outcome_of R b program_memory limit

-- on an example
unfoldable pub answer : Route → Example → Outcome
unfolding outcome_at
answer R x = outcome_at R x.0 x.1

-- the tally of an example, with all that this computes with
unfoldable pub tally_in : Example → Tally
unfolding tally_of tallied case_refusal numbers_from every for_some u16 header_size label_records label_table transition_table action_table formula_table case_of same_transition copies copies_before keep
    distinct case_conditions first_of layout_conditions model_conditions formula_conditions too_small other_version bad_count bad_offset bad_length bad_model
    bad_labels padded bad_actions bad_formula bound_ok bad_variable binder_count block_total too_deep whole_formulas exactly span
tally_in x = tally_of x.0

-- P1 to P8 come out as given, by both routes; P1 has its equation file, and P7 has d 7
pub runs : (map (answer equation) paper ≡ map (λ (x : Example). x.2) paper)
    × (map (answer direct) paper ≡ map (λ (x : Example). x.3) paper)
    × (map tally_in paper ≡ map (λ (x : Example). x.4) paper)
    × (file p1 ≡ p1_equations)
    × (block_total (formula_table p7) ≡ 7)
unfolding answer tally_in paper p1_equations
runs = (refl, refl, refl, refl, refl)
