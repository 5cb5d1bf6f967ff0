-- A case's equation file has a block for each binder of the formula.
use mathlib.Core.List.{List}
use Prim.Native.Nat.{ℕ, ◌≤◌}
use native.Mathlib.Omega.{arith}
use Rattle.solver.specs.File.{sizes_of}
use Rattle.cases.specs.Action.{Action}
use Rattle.cases.specs.internal.Scope.{binders}
use Rattle.cases.specs.declared.Node.{Node}
use Rattle.cases.specs.File.{formula_table}
use Rattle.cases.specs.Case.{case_action, case_of}
use Rattle.cases.specs.Conditions as conditions
use Rattle.cases.specs.Conditions.{Accepted}
use Rattle.cases.specs.internal.Tables.{FormulaTable}
use Rattle.cases.proofs.TableTrees.{formula_table_lem}
use Rattle.cases.proofs.Counting.{binders_all}
use Rattle.cases.proofs.Accepting.{passed}
use Rattle.translate.specs.Translating.{file}
use Rattle.translate.proofs.CaseFile.{length_blocks, block_count_back}
use Rattle.translate.proofs.AcceptedCases.{fit, blocks_all}

-- The formula has no more binders than the file has blocks.
pub blocks_formula : (b : List ℕ) → Accepted b → binders (case_of b).formula ≤ (sizes_of (file b)).blocks
unfolding case_of conditions.block_total
blocks_formula b ok =
    let t : List Node = formula_table b in
    let action : ℕ → Action = case_action b in
    let table : FormulaTable t = formula_table_lem _ t (passed b ok).formula in
    omega (arith, block_count_back (case_of b) (fit b ok), length_blocks (case_of b) (fit b ok), blocks_all action t table, binders_all action t table)
