-- The first block's set of the standard solution of a case's equation file is the meaning of the case's formula.
use mathlib.Core.Path.{◌≡◌, sym, ap, ◌∙◌}
use mathlib.Core.Bool.{false}
use mathlib.Core.List.{List, [], ◌++◌, append-nil}
use Prim.Native.Nat.{ℕ, ◌<◌}
use native.Mathlib.Nat.{zero-add}
use native.Mathlib.Omega.{arith}
use lib.Dec.{T, ltb}
use lib.ListN.{length-replicate}
use Rattle.sets.specs.Lists.{every}
use Rattle.sets.specs.States.{Valuation, all_empty, Sized}
use Rattle.solver.specs.internal.Forms.{Inside}
use Rattle.solver.specs.computed.Solved.{Reached, solved, run}
use Rattle.cases.specs.Formula.{Formula, nodes}
use Rattle.cases.specs.internal.Scope.{free}
use Rattle.cases.specs.declared.Transition.{Transition}
use Rattle.cases.specs.Case.{Case, case_of, distinct}
use Rattle.cases.specs.Conditions.{Accepted}
use Rattle.cases.specs.computed.Meanings.{meaning}
use Rattle.cases.proofs.TableTrees.{formula_table_lem}
use Rattle.cases.proofs.Accepting.{passed}
use Rattle.cases.proofs.ClosedMeaning.{none_free}
use Rattle.cases.proofs.MeaningLaws.{means_members}
use Rattle.cases.proofs.Distinct.{within_distinct, distinct_within}
use Rattle.translate.specs.Whole.{whole, binder_nodes, block_in}
use Rattle.translate.specs.Cells.{cells_from, blocks_from}
use Rattle.translate.specs.Bytes.{system_of}
use Rattle.translate.specs.Translating.{file}
use Rattle.translate.proofs.Rules.{blocks_roomy}
use Rattle.translate.proofs.Unfold.{first, length_cells}
use Rattle.translate.proofs.Equations.{increasing, increasing_whole, place_at}
use Rattle.translate.proofs.BinderNodes.{increasing_binders}
use Rattle.translate.proofs.CaseFile.{Fit, ends, states_back, blocks_back, cells_back}
use Rattle.translate.proofs.AcceptedCases.{fit}
use Rattle.routes.proofs.Bridge.{Placed, bridge}
use Rattle.routes.proofs.WholeMeaning.{none_free_whole, root_set, whole_meaning}

-- A formula without free variables, whose binders' numbers increase, is placed in itself.
module _ (n : ℕ) (states : 0 < n) (ts : List Transition) (low : T (every (λ t. ltb t.target n) ts)) (a : Formula) where
  whole_placed : T (increasing (binder_nodes a)) → ((i : ℕ) → T (free i a) → ⊥) → Placed n states ts low (block_in a) a a 0 0 []
  unfolding block_in Inside
  whole_placed up closed = record {
    stands = first a;
    numbered = λ m h. place_at (binder_nodes a) up m h ∙ sym (zero-add m);
    bound = λ j t. absurd (closed j t);
    inside = rw (append-nil, length_cells n ts (block_in a) a) (blocks_roomy n (nodes a) a 0 (omega arith));
  }

-- Of an accepted case:
module _ (b : List ℕ) (accepted : Accepted b) where
  abbrev c : Case
  c = case_of b

  abbrev n : ℕ
  n = c.states

  -- the formula that is translated, and the distinct transitions
  abbrev a : Formula
  a = whole c.formula

  abbrev ts : List Transition
  ts = distinct c.transitions

  fits : Fit c
  fits = fit b accepted

  -- no variable is free, and the binders' numbers increase
  closed : (i : ℕ) → T (free i c.formula) → ⊥
  unfolding case_of
  closed = none_free _ _ (formula_table_lem _ _ (passed b accepted).formula) (passed b accepted).variables

  up : T (increasing (binder_nodes a))
  unfolding case_of
  up = increasing_whole c.formula (increasing_binders _ _ (formula_table_lem _ _ (passed b accepted).formula))

  -- the file's blocks are solved as those of the formula
  run_blocks : run (file b) ≡ solved n (cells_from n ts (block_in a) a 0) (blocks_from n a 0 ++ []) 0 (all_empty n)
  unfolding run system_of
  run_blocks = rw (states_back c fits, cells_back c fits, blocks_back c fits, append-nil)

  -- with the sets that this ends with, the formula that is translated has its meaning
  run_meaning : (run (file b)).0 0 ≡ meaning n ts a (λ j. all_empty n (block_in a j))
  run_meaning =
      ap (λ (x : Reached). x.0 0) run_blocks
      ∙ sym (root_set n ts c.formula _)
      ∙ bridge n fits.states_low ts (ends c fits) (block_in a) a a 0 0 []
      (whole_placed n fits.states_low ts (ends c fits) a up (none_free_whole c.formula closed)) (all_empty n) (λ k. length-replicate n false)

-- The first block's set is the formula's meaning, whatever sets are given to variables, of which none is free.
pub equations_mean : (b : List ℕ) → Accepted b → (ρ : Valuation) → Sized (case_of b).states ρ
    → (run (file b)).0 0 ≡ meaning (case_of b).states (case_of b).transitions (case_of b).formula ρ
equations_mean b ok ρ r =
    let c : Case = case_of b in
    let n : ℕ = c.states in
    let ts : List Transition = c.transitions in
    run_meaning b ok
    ∙ whole_meaning n (distinct ts) c.formula (closed b ok) _ ρ (λ j. length-replicate n false) r
    ∙ means_members n (distinct ts) ts (distinct_within ts) (within_distinct ts) c.formula ρ r
