-- The formula that is translated, with a nu before a root that is no binder, has no free variable and the same meaning.
use mathlib.Core.Path.{◌≡◌, refl, sym, ap, ap₂, subst, ◌∙◌}
use mathlib.Core.Bool.{Bool, true, false, cond, not, ◌&&◌, ◌||◌}
use mathlib.Core.List.{List}
use Prim.Native.Nat.{ℕ, zero, suc, ◌+◌}
use native.Mathlib.Numerals.{add-one}
use borrow.Author.Tests.{eq-eqb}
use lib.Dec.{T, eqb, eqb-suc-suc}
use Rattle.sets.specs.States.{States, has, start, Extremal, Valuation, update, Sized}
use Rattle.sets.specs.computed.Iteration.{Worked, repeated}
use Rattle.sets.proofs.Lists.{and_right}
use Rattle.sets.proofs.Valuation.{update_sized}
use Rattle.cases.specs.Formula.{Formula, False, True, And, Or, Box, Diamond, Variable, Fix}
use Rattle.cases.specs.internal.Scope.{free}
use Rattle.cases.specs.declared.Transition.{Transition}
use Rattle.cases.specs.Meaning.{set_of, box_in, diamond_in, Means}
use Rattle.cases.specs.computed.Meanings.{meaning}
use Rattle.cases.proofs.MeaningLaws.{means_scope, means_exists, means_unique}
use Rattle.translate.specs.Whole.{raise, binds_first, whole, binder_nodes, index_in, block_in}
use Rattle.routes.proofs.Shallow.{shallow}

-- numbers that are raised are equal if they were
same_raised : (i j : ℕ) → eqb (i + 1) (j + 1) ≡ eqb i j
same_raised i j = rw (add-one i, add-one j) (eqb-suc-suc i j)

-- a raised variable is free if it was
free_raise : (a : Formula) (i : ℕ) → free (i + 1) (raise a) ≡ free i a
unfolding free raise
free_raise False i = refl
free_raise True i = refl
free_raise (And a b) i = ap₂ ◌||◌ (free_raise a i) (free_raise b i)
free_raise (Or a b) i = ap₂ ◌||◌ (free_raise a i) (free_raise b i)
free_raise (Box α a) i = free_raise a i
free_raise (Diamond α a) i = free_raise a i
free_raise (Variable j) i = same_raised i j
free_raise (Fix sign j a) i = ap₂ (λ x y. not x && y) (same_raised i j) (free_raise a i)

-- Where no variable is free, none is free in the formula that is translated.
pub none_free_whole : (a : Formula) → ((i : ℕ) → T (free i a) → ⊥) → (i : ℕ) → T (free i (whole a)) → ⊥
unfolding whole free
none_free_whole a none = go (binds_first a)
  where
    go : (b : Bool) (i : ℕ) → T (free i (cond b a (Fix true 0 (raise a)))) → ⊥
    go true i t = none i t
    go false zero t = t
    go false (suc i) t = none i (subst T (free_raise a i) (subst (λ (x : ℕ). T (free x (raise a))) (sym (add-one i)) (and_right (not (eqb (suc i) 0)) _ t)))

-- The root of the formula that is translated has block 0.
pub root_set : (n : ℕ) (ts : List Transition) (a : Formula) (σ : Valuation) → shallow n ts (block_in (whole a)) (whole a) σ ≡ σ 0
unfolding shallow whole binds_first block_in binder_nodes index_in
root_set n ts False σ = refl
root_set n ts True σ = refl
root_set n ts (And a b) σ = refl
root_set n ts (Or a b) σ = refl
root_set n ts (Box α a) σ = refl
root_set n ts (Diamond α a) σ = refl
root_set n ts (Variable i) σ = refl
root_set n ts (Fix sign i a) σ = rw (eq-eqb i i refl)

module _ (n : ℕ) (ts : List Transition) where
  -- a raised formula means what it did, where the sets are raised too
  meaning_raise : (a : Formula) (ρ : Valuation) → meaning n ts (raise a) ρ ≡ meaning n ts a (λ j. ρ (j + 1))
  unfolding meaning raise update
  meaning_raise False ρ = refl
  meaning_raise True ρ = refl
  meaning_raise (And a b) ρ = ap₂ (λ (x y : States). set_of n (λ s. has x s && has y s)) (meaning_raise a ρ) (meaning_raise b ρ)
  meaning_raise (Or a b) ρ = ap₂ (λ (x y : States). set_of n (λ s. has x s || has y s)) (meaning_raise a ρ) (meaning_raise b ρ)
  meaning_raise (Box α a) ρ = ap (λ (x : States). set_of n (box_in n ts α x)) (meaning_raise a ρ)
  meaning_raise (Diamond α a) ρ = ap (λ (x : States). set_of n (diamond_in n ts α x)) (meaning_raise a ρ)
  meaning_raise (Variable i) ρ = refl
  meaning_raise (Fix sign i a) ρ =
      ap (λ (f : States → Worked). (repeated (suc n) f (start n sign)).0) (λ t v. (body v (meaning_raise a (update ρ (i + 1) v)) t, 0))
    where
      body : (v : States) → meaning n ts (raise a) (update ρ (i + 1) v) ≡ meaning n ts a (λ j. update ρ (i + 1) v (j + 1))
          → meaning n ts (raise a) (update ρ (i + 1) v) ≡ meaning n ts a (update (λ j. ρ (j + 1)) i v)
      body v e = e ∙ ap (meaning n ts a) (λ t j. cond (same_raised j i t) v (ρ (j + 1)))

  -- Where no variable is free, the formula that is translated means what the formula does, whatever sets are given.
  pub whole_meaning : (a : Formula) → ((i : ℕ) → T (free i a) → ⊥) → (ρ σ : Valuation) → Sized n ρ → Sized n σ
      → meaning n ts (whole a) ρ ≡ meaning n ts a σ
  unfolding whole Means
  whole_meaning a none ρ σ r q = go (binds_first a)
    where
      -- the nu that is put before it is equal to its body, with any set for its variable
      w : States
      w = meaning n ts (Fix true 0 (raise a)) ρ

      fixed : Extremal n true (λ u. Means n ts (raise a) (update ρ 0 u) u) w
      fixed = means_exists n ts (Fix true 0 (raise a)) ρ r

      sized : Sized n (update ρ 0 w)
      sized = update_sized ρ 0 w r fixed.sized

      go : (b : Bool) → meaning n ts (cond b a (Fix true 0 (raise a))) ρ ≡ meaning n ts a σ
      go true = means_scope n ts a ρ σ r q (λ i t. absurd (none i t))
      go false =
          means_unique n ts (raise a) (update ρ 0 w) sized w fixed.holds
          ∙ meaning_raise a (update ρ 0 w)
          ∙ means_scope n ts a (λ j. update ρ 0 w (j + 1)) σ (λ j. sized (j + 1)) q (λ i t. absurd (none i t))
