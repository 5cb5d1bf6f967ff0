-- The formula of a table whose variables are bound has one meaning, whatever sets its variables are given.
use mathlib.Core.Path.{◌≡◌, sym, ◌∙◌, subst}
use mathlib.Core.Bool.{Bool, true, false, not, ◌||◌}
use mathlib.Core.List.{List, [], ◌∷◌}
use Prim.Native.Nat.{ℕ}
use lib.Dec.{T, eqb, eqb→eq}
use Rattle.sets.specs.Lists.{for_some}
use Rattle.sets.specs.States.{States, Valuation, Sized}
use Rattle.sets.proofs.Lists.{or_either, and_left, and_right}
use Rattle.cases.specs.Action.{Action}
use Rattle.cases.specs.Formula.{Formula, False, True, And, Or, Box, Diamond, Variable, Fix}
use Rattle.cases.specs.internal.Scope.{free}
use Rattle.cases.specs.declared.Transition.{Transition}
use Rattle.cases.specs.Prefix.{Node, formula_at}
use Rattle.cases.specs.Conditions.{bad_variable}
use Rattle.cases.specs.Meaning.{Means}
use Rattle.cases.specs.internal.Tables.{FormulaTable}
use Rattle.cases.proofs.TableTrees.{held}
use Rattle.cases.proofs.Scopes.{scoped, formula_scoped}
use Rattle.cases.proofs.MeaningLaws.{means_unique, means_scope}

-- a free variable is one of those that are bound around
free_around : (around : List ℕ) (a : Formula) → T (scoped around a) → (i : ℕ) → T (free i a) → T (for_some (eqb i) around)
unfolding scoped free for_some
free_around around False h i t = absurd t
free_around around True h i t = absurd t
free_around around (And a b) h i t =
    or_either (free i a) (free i b) (free_around around a (and_left (scoped around a) _ h) i) (free_around around b (and_right (scoped around a) _ h) i) t
free_around around (Or a b) h i t =
    or_either (free i a) (free i b) (free_around around a (and_left (scoped around a) _ h) i) (free_around around b (and_right (scoped around a) _ h) i) t
free_around around (Box α a) h i t = free_around around a h i t
free_around around (Diamond α a) h i t = free_around around a h i t
free_around around (Variable j) h i t = subst (λ (k : ℕ). T (for_some (eqb k) around)) (sym (eqb→eq i j t)) h
free_around around (Fix sign j a) h i t =
    outside (eqb i j) (and_left (not (eqb i j)) (free i a) t) (free_around (j ∷ around) a h i (and_right (not (eqb i j)) (free i a) t))
  where
    outside : (x : Bool) → T (not x) → T (x || for_some (eqb i) around) → T (for_some (eqb i) around)
    outside true n o = elim n [ ]
    outside false n o = o

-- ---- the meaning of a table's formula
module _ (action : ℕ → Action) (t : List Node) (table : FormulaTable t) (bound : bad_variable t ≡ false) where
  -- no variable is free
  pub none_free : (i : ℕ) → T (free i (formula_at action t 0)) → ⊥
  unfolding for_some
  none_free i h = free_around [] (formula_at action t 0) (held _ (formula_scoped action t table bound)) i h

  -- So it has one meaning.
  pub one_meaning : (n : ℕ) (ts : List Transition) (ρ σ : Valuation) → Sized n ρ → Sized n σ → (v w : States)
      → Means n ts (formula_at action t 0) ρ v → Means n ts (formula_at action t 0) σ w → v ≡ w
  one_meaning n ts ρ σ r q v w x y =
      means_unique n ts (formula_at action t 0) ρ r v x
      ∙ means_scope n ts (formula_at action t 0) ρ σ r q (λ i h. absurd (none_free i h))
      ∙ sym (means_unique n ts (formula_at action t 0) σ q w y)
