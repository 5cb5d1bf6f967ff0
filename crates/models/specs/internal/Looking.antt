-- What adding and dropping find before they differ: whether a transition is held, in a case whose layout is right and which it fits.
use Rattle.std.specs.Prelude.{◌≡◌, true, false, List, [], ◌∷◌, ◌++◌, ℕ, ◌<◌, ◌≤◌, length, Option, MatchOption}
use Rattle.sets.specs.Refusals.{Conditions, first_of}
use Rattle.cases.specs.declared.Transition.{Transition}
use Rattle.cases.specs.File.{header_of, transition_table, case_within}
use Rattle.cases.specs.Conditions.{transition_ok, layout_conditions}
use Rattle.cases.specs.internal.Checks.{Laid}
use Rattle.records.specs.Places.{place_of}
use Rattle.models.specs.declared.Found.{Found}
use Rattle.models.specs.Model.{holds, out_of_range}

-- k is the number of the first of these conditions that holds
pub record RefusedBy (cs : Conditions) (k : ℕ) : Type 0 where
  pub number : k ≡ first_of cs
  pub some : ¬ (k ≡ 0)

module _ (model : List ℕ) (t : Transition) where
  -- the case that is found in the model, and its transition table
  abbrev found_case : List ℕ
  found_case = case_within model

  abbrev found_table : List Transition
  found_table = transition_table found_case

  -- the conditions that come first: of the case's layout, then of the transition
  unfoldable pub look_conditions : Conditions
  look_conditions = layout_conditions found_case ++ ((6, out_of_range (header_of found_case).states (header_of found_case).labels t) ∷ [])

  -- the place of the transition, where it is held
  abbrev pub Placed : Option ℕ → Type 0
  Placed place = MatchOption place (holds found_table t ≡ false) (λ i. (holds found_table t ≡ true) × (i ≡ place_of t found_table) × (i < length found_table))

  -- None of them holds: the layout and the transition are right. The header is that of the case, the end is the case's, and the place is found.
  pub record FoundIn (found : Found) : Type 0 where
    pub layout : first_of (layout_conditions found_case) ≡ 0
    pub right : transition_ok (header_of found_case).states (header_of found_case).labels t ≡ true
    pub laid : Laid found_case found.header
    pub ends : found.end ≡ length found_case
    pub inside : found.end ≤ length model
    pub count : length found_table ≡ found.header.transitions
    pub place : Placed found.place
