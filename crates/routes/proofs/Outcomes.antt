-- What the routes work out for an accepted case: one set, the formula's meaning, and a number of rounds within a bound.
use mathlib.Core.Path.{◌≡◌, sym, ap, subst, ◌∙◌}
use mathlib.Core.Bool.{false}
use mathlib.Core.List.{List}
use Prim.Native.Nat.{ℕ, suc, ◌≤◌, ◌<◌}
use native.Mathlib.Omega.{arith}
use native.Mathlib.Nat.{le_trans}
use lib.ListN.{length, length-replicate}
use Rattle.sets.specs.States.{States, Valuation, all_empty, Sized}
use Rattle.sets.specs.Words.{state_limit}
use Rattle.solver.specs.File.{sizes_of}
use Rattle.solver.specs.Solution.{powers}
use Rattle.solver.specs.computed.Solved.{run}
use Rattle.solver.specs.Outcome.{FileRounds}
use Rattle.solver.proofs.Starts.{own_solves, own_rounds, own_bound}
use Rattle.cases.specs.declared.Header.{Header}
use Rattle.cases.specs.File.{header_of}
use Rattle.cases.specs.Case.{Case, case_of}
use Rattle.cases.proofs.Reaching.{accepted_bounded}
use Rattle.cases.specs.Conditions.{Accepted}
use Rattle.cases.specs.Meaning.{Means, MeansIn}
use Rattle.cases.specs.computed.Meanings.{meaning}
use Rattle.cases.proofs.TableTrees.{formula_table_lem}
use Rattle.cases.proofs.Accepting.{passed}
use Rattle.cases.proofs.ClosedMeaning as closed
use Rattle.cases.proofs.MeaningLaws.{means_exists, means_unique, meaning_sized}
use Rattle.translate.specs.Translating.{file}
use Rattle.translate.proofs.Promises.{well_formed, read_back}
use Rattle.routes.specs.Route.{Route, direct, equation, OwnRounds, run_of}
use Rattle.routes.proofs.DirectLaws.{direct_exists, direct_one, worked_meaning, worked_bound, powers_mono}
use Rattle.routes.proofs.EquationMeaning.{equations_mean}
use Rattle.routes.proofs.BlockCounts.{blocks_formula}

-- sets of n states that are all empty
pub none_sized : (n : ℕ) → Sized n (all_empty n)
none_sized n k = length-replicate n false

module _ (b : List ℕ) where
  abbrev c : Case
  c = case_of b

  -- the formula has a meaning
  pub meaning_of : (ρ : Valuation) → Sized c.states ρ
      → Means c.states c.transitions c.formula ρ (meaning c.states c.transitions c.formula ρ)
  meaning_of ρ s = means_exists c.states c.transitions c.formula ρ s

  module _ (accepted : Accepted b) where
    -- of an accepted case it is one
    pub one_meaning : (ρ σ : Valuation) → Sized c.states ρ → Sized c.states σ → (v w : States)
        → Means c.states c.transitions c.formula ρ v → Means c.states c.transitions c.formula σ w → v ≡ w
    unfolding case_of
    one_meaning =
        closed.one_meaning _ _ (formula_table_lem _ _ (passed b accepted).formula) (passed b accepted).variables c.states c.transitions

    -- The words of a set have room for its states,
    pub few_states : c.states ≤ state_limit
    unfolding case_of
    few_states = (passed b accepted).lies.counts.few_states

    -- and for the initial one, which its header tells.
    pub initial_is : {h : Header} → h ≡ header_of b → c.initial ≡ h.initial
    unfolding case_of
    initial_is read = ap (λ (x : Header). x.initial) (sym read)

    pub initial_below : {h : Header} → h ≡ header_of b → h.initial < state_limit
    initial_below read = omega (arith, few_states, (accepted_bounded b accepted).initial, initial_is read)

    -- a route has the rounds that its function works out, and no others
    pub own_exists : (R : Route) → OwnRounds R c (run_of R c).1
    unfolding OwnRounds run_of FileRounds
    own_exists direct = (_, direct_exists c.states c.transitions c.formula (all_empty c.states) (none_sized c.states))
    own_exists equation = ((run (file b)).0, own_solves (well_formed b accepted))

    pub own_one : (R : Route) (r : ℕ) → OwnRounds R c r → r ≡ (run_of R c).1
    unfolding OwnRounds run_of
    own_one direct r o =
        (direct_one c.states c.transitions c.formula (all_empty c.states) o.0 _ r _ o.1 (own_exists direct).1).1
    own_one equation r o = own_rounds (well_formed b accepted) r o

    -- Its set is the formula's meaning.
    run_meaning : (R : Route) (ρ : Valuation) → Sized c.states ρ → (run_of R c).0 ≡ meaning c.states c.transitions c.formula ρ
    unfolding run_of
    run_meaning direct ρ s =
        worked_meaning c.states c.transitions c.formula (all_empty c.states)
        ∙ one_meaning (all_empty c.states) ρ (none_sized c.states) s _ _ (meaning_of (all_empty c.states) (none_sized c.states)) (meaning_of ρ s)
    run_meaning equation ρ s = equations_mean b accepted ρ s

    -- so both routes have the same set
    pub runs_alike : (R R' : Route) → (run_of R c).0 ≡ (run_of R' c).0
    runs_alike R R' = run_meaning R (all_empty c.states) (none_sized c.states) ∙ sym (run_meaning R' (all_empty c.states) (none_sized c.states))

    pub run_means : (R : Route) (ρ : Valuation) → Sized c.states ρ → (v : States) → Means c.states c.transitions c.formula ρ v → v ≡ (run_of R c).0
    run_means R ρ s v m = means_unique c.states c.transitions c.formula ρ s v m ∙ sym (run_meaning R ρ s)

    pub run_in : (R : Route) (ρ : Valuation) → Sized c.states ρ → MeansIn c ρ (run_of R c).0
    run_in R ρ s = (s, subst (Means c.states c.transitions c.formula ρ) (sym (run_meaning R ρ s)) (meaning_of ρ s))

    -- A route's set has as many states as the case.
    pub run_sized : (R : Route) → length (run_of R c).0 ≡ c.states
    run_sized R = ap length (run_meaning R (all_empty c.states) (none_sized c.states)) ∙ meaning_sized c.states c.transitions c.formula (all_empty c.states) (none_sized c.states)

    -- A route's rounds are at most m + m ^ 2 + .. + m ^ d, for m = n + 1 and the d blocks of the file.
    pub run_bound : (R : Route) → (run_of R c).1 ≤ powers (suc c.states) (sizes_of (file b)).blocks
    unfolding run_of
    run_bound direct = le_trans (worked_bound c.states c.transitions c.formula (all_empty c.states)) (powers_mono _ _ _ (blocks_formula b accepted))
    run_bound equation = rw (read_back b accepted).0 at (own_bound (file b))
