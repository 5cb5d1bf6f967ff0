-- Conditions 8 to 10: what the tests of the code come to.
use mathlib.Core.Path.{◌≡◌, refl, ap, ◌∙◌}
use mathlib.Core.Bool.{Bool, true, false, cond, not}
use mathlib.Core.List.{List, [], ◌∷◌, map}
use Rattle.std.specs.List.{count_by, filter, range_with_len}
use Rattle.std.proofs.lemmas.List.Sums.{sum_by-cons, length-filter}
use Prim.Native.Nat.{ℕ, ◌+◌, ◌≤◌, ◌<◌}
use native.Mathlib.Omega.{arith}
use borrow.Author.Tests.{le-ltb, lt-ltb}
use lib.Dec.{ltb, eqb}
use lib.ListN.{length}
use Rattle.sets.specs.Lists.{numbers_from, every}
use Rattle.sets.proofs.Lists.{length_map_range}
use Rattle.solver.specs.File.{block_limit}
use Rattle.cases.specs.Prefix.{Node, arity_in, formula_arities, exactly, end_of}
use Rattle.cases.specs.File.{node_in}
use Rattle.cases.specs.Conditions.{node_ok, bad_formula, is_binder, node_at, bound_ok, bad_variable, binder_count, block_total, too_deep}
use Rattle.cases.specs.internal.Checks.{nodes_in, binds}
use Rattle.sets.proofs.Ranges.{range_is}
use Rattle.cases.proofs.Checking.{and_fails}

-- ---- 8

module _ (a : ℕ) (table : List Node) where
  -- a node's kind or argument is wrong
  pub formula_fails : every (node_ok a) table ≡ false → true ≡ bad_formula a table
  unfolding bad_formula
  formula_fails e = simp e

  -- none is: whether there is one formula decides
  pub one_decides : every (node_ok a) table ≡ true → (r : Bool) → r ≡ exactly 1 (map (arity_in formula_arities) table) → not r ≡ bad_formula a table
  unfolding bad_formula
  one_decides e r w = simp (e, w)

-- ---- 9

module _ (table : List Node) (j i : ℕ) where
  -- j is no node before i
  pub binds_late : i ≤ j → false ≡ binds table j i
  binds_late h = simp (le-ltb j i h, and_fails)

  -- it is no binder
  pub binds_none : is_binder (node_at table j) ≡ false → false ≡ binds table j i
  binds_none f = simp f

  -- it is a binder before i: the end of its subtree decides
  pub end_decides :
      is_binder (node_at table j) ≡ true → j < i → (end : ℕ) → end ≡ end_of (map (arity_in formula_arities) table) j
      → ltb i end ≡ binds table j i
  end_decides t h end e = simp (t, lt-ltb j i h, e)

module _ (table : List Node) (i : ℕ) (x : Node) (is : node_at table i ≡ x) where
  -- another node than a variable
  pub no_variable : eqb x.kind 6 ≡ false → true ≡ bound_ok table i
  unfolding bound_ok
  no_variable d = rw is (simp d)

  -- a variable
  pub variable_decides : eqb x.kind 6 ≡ true → binds table x.arg i ≡ bound_ok table i
  unfolding bound_ok
  variable_decides d = rw is (simp d)

-- how many nodes there are
pub length_nodes : (part : List ℕ) (f : ℕ) → length (nodes_in part f) ≡ f
unfolding nodes_in
length_nodes part f = length_map_range (node_in part) 0 f

-- whether every variable is bound
pub bound_decides : (part : List ℕ) (f : ℕ) (r : Bool) → r ≡ every (bound_ok (nodes_in part f)) (numbers_from 0 f) → not r ≡ bad_variable (nodes_in part f)
unfolding bad_variable
bound_decides part f r e = rw (length_nodes part f, e) refl

-- ---- 10

-- counted node by node
counted : (part : List ℕ) (is : List ℕ) → count_by (λ i. is_binder (node_in part i)) is ≡ binder_count (map (node_in part) is)
unfolding binder_count
counted part [] = refl
counted part (i ∷ is) = sum_by-cons (λ j. cond (is_binder (node_in part j)) 1 0) i is ∙ ap (λ (n : ℕ). cond (is_binder (node_in part i)) 1 0 + n) (counted part is)

pub binders_counted : (part : List ℕ) (k : ℕ) → length (filter (λ i. is_binder (node_in part i)) (range_with_len 0 k)) ≡ binder_count (map (node_in part) (numbers_from 0 k))
binders_counted part k = length-filter _ (range_with_len 0 k) ∙ rw (range_is 0 k) (counted part (numbers_from 0 k))

module _ (table : List Node) (count : ℕ) (is : count ≡ binder_count table) where
  -- the root is a binder
  pub root_binder : is_binder (node_at table 0) ≡ true → ltb block_limit count ≡ too_deep table
  unfolding too_deep block_total
  root_binder t = let e : 0 + binder_count table ≡ count = omega arith in rw (t, e) refl

  -- it is none
  pub root_other : is_binder (node_at table 0) ≡ false → ltb block_limit (count + 1) ≡ too_deep table
  unfolding too_deep block_total
  root_other f = let e : 1 + binder_count table ≡ count + 1 = omega arith in rw (f, e) refl
