-- What direct works out depends on the transitions only through which there are, in the set and in the rounds.
use mathlib.Core.Path.{◌≡◌, refl, sym, ap, fun_ext, ◌∙◌}
use mathlib.Core.Bool.{Bool}
use mathlib.Core.List.{List}
use Prim.Native.Nat.{ℕ, suc}
use Rattle.sets.specs.States.{States, Subset, start, Valuation, update, all_empty}
use Rattle.sets.specs.Refusals.{Outcome}
use Rattle.sets.specs.computed.Iteration.{Worked, repeated}
use Rattle.sets.proofs.Lists.{length_map_range}
use Rattle.sets.proofs.Order.{subset_antisym}
use Rattle.cases.specs.Action.{Action}
use Rattle.cases.specs.Formula.{Formula, False, True, And, Or, Box, Diamond, Variable, Fix}
use Rattle.cases.specs.declared.Transition.{Transition}
use Rattle.cases.specs.Case.{Case, SameTransitionSet}
use Rattle.cases.specs.internal.Scope.{Within}
use Rattle.cases.specs.Meaning.{set_of, box_in, diamond_in, MeansIn}
use Rattle.cases.proofs.MeaningLaws.{box_mono, diamond_mono, means_members, means_exists, means_unique}
use Rattle.cases.proofs.Distinct.{mem_within}
use Rattle.cases.specs.computed.Reached.{reachable}
use Rattle.cases.proofs.Reaching.{reachable_alike}
use Rattle.routes.specs.Route.{direct, Lent, run_of, too_short, exceeds, run_conditions, run_report, route_outcome, marks_after, RanBy}
use Rattle.routes.specs.computed.Worked.{worked}

-- ---- lists with the same members

-- sets of the states with a property that include each other are equal
both_ways : (n : ℕ) (f g : ℕ → Bool) → Subset (set_of n f) (set_of n g) → Subset (set_of n g) (set_of n f) → set_of n f ≡ set_of n g
both_ways n f g = subset_antisym (set_of n f) (set_of n g) (length_map_range f 0 n ∙ sym (length_map_range g 0 n))

module _ (n : ℕ) (ts us : List Transition) (there : Within ts us) (back : Within us ts) where
  -- Box and diamond give the same set,
  box_members : (α : Action) (x : States) → set_of n (box_in n ts α x) ≡ set_of n (box_in n us α x)
  box_members α x = both_ways n _ _ (box_mono n ts us there back α x x (λ s t. t)) (box_mono n us ts back there α x x (λ s t. t))

  diamond_members : (α : Action) (x : States) → set_of n (diamond_in n ts α x) ≡ set_of n (diamond_in n us α x)
  diamond_members α x = both_ways n _ _ (diamond_mono n ts us there back α x x (λ s t. t)) (diamond_mono n us ts back there α x x (λ s t. t))

  -- so every formula has the same set, in the same rounds.
  pub worked_members : (a : Formula) (ρ : Valuation) → worked n ts a ρ ≡ worked n us a ρ
  unfolding worked
  worked_members False ρ = refl
  worked_members True ρ = refl
  worked_members (And a b) ρ = rw (worked_members a ρ, worked_members b ρ)
  worked_members (Or a b) ρ = rw (worked_members a ρ, worked_members b ρ)
  worked_members (Box α a) ρ = rw (worked_members a ρ, box_members α (worked n us a ρ).0)
  worked_members (Diamond α a) ρ = rw (worked_members a ρ, diamond_members α (worked n us a ρ).0)
  worked_members (Variable i) ρ = refl
  worked_members (Fix sign i a) ρ = ap (λ (f : States → Worked). repeated (suc n) f (start n sign)) (fun_ext (λ v. worked_members a (update ρ i v)))

-- ---- cases with the same set of transitions

module _ {c c' : Case} (same : SameTransitionSet c c') where
  there : Within c.transitions c'.transitions
  there = mem_within c.transitions c'.transitions (λ t. (same.transitions t).0)

  back : Within c'.transitions c.transitions
  back = mem_within c'.transitions c.transitions (λ t. (same.transitions t).1)

  -- The formula means the same,
  pub means_same : (ρ : Valuation) (v : States) → MeansIn c ρ v → MeansIn c' ρ v
  means_same ρ v (sized, m) =
      let is = means_unique c.states c.transitions c.formula ρ sized v m
      ∙ means_members c.states c.transitions c'.transitions there back c.formula ρ sized in
      rw (← same.states, ← same.formula, is) (sized, means_exists c.states c'.transitions c.formula ρ sized)

  -- direct works out the same set in the same rounds,
  pub run_same : run_of direct c ≡ run_of direct c'
  unfolding run_of
  run_same = worked_members c.states c.transitions c'.transitions there back c.formula (all_empty c.states) ∙ rw (same.states, same.formula)

  -- and reports the same,
  report_same : run_report c (run_of direct c).0 (reachable c) (run_of direct c).1 ≡ run_report c' (run_of direct c').0 (reachable c') (run_of direct c').1
  report_same = rw (run_same, reachable_alike same, same.states, same.initial)

  -- so it answers and leaves the same.
  pub ran_same : (l : Lent) (limit : ℕ) {o : Outcome} {after : List ℕ}
      → RanBy (run_conditions direct c l limit) direct c l.marks o after → RanBy (run_conditions direct c' l limit) direct c' l.marks o after
  unfolding run_conditions too_short exceeds route_outcome marks_after
  ran_same l limit r = record { answers = rw (report_same, run_same) at r.answers; marks_are = rw run_same at r.marks_are }
