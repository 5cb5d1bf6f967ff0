-- The transition table of an accepted case: its records, their sources, and its tally.
use mathlib.Core.Path.{◌≡◌, ap, ◌∙◌}
use mathlib.Core.Bool.{Bool, true, false, ◌&&◌}
use mathlib.Core.List.{List, Perm}
use Prim.Native.Nat.{ℕ, ◌-◌, ◌<◌}
use native.Mathlib.Omega.{arith}
use borrow.Author.Tests.{not-false}
use lib.Dec.{T, ltb, ltb→lt}
use lib.ListN.{length, take, drop}
use Rattle.sets.specs.Lists.{every}
use Rattle.sets.specs.Words.{state_limit}
use Rattle.sets.proofs.Refusals.{refusing}
use Rattle.sets.proofs.Lists.{and_left, and_right, all_at, length_table, table_at}
use Rattle.cases.specs.File.{Header, Transition, header_of, transition_table, transition_in}
use Rattle.cases.specs.Case.{case_of, distinct}
use Rattle.cases.specs.Conditions.{transition_ok, bad_model, case_refusal, Accepted}
use Rattle.cases.specs.Tally.{tallied, no_tally, tally_of}
use Rattle.cases.specs.internal.Checks.{transition_part, transitions_in}
use Rattle.cases.specs.internal.Links.{source_in, Sourced}
use Rattle.cases.proofs.TableTrees.{holds, held}
use Rattle.cases.proofs.ModelRules.{transitions_inside}
use Rattle.cases.proofs.Distinct.{perm_length, perm_distinct}
use Rattle.cases.proofs.Accepting.{Passed, passed}

-- the initial state is a state, and the transitions have states and labels
pub model_holds : (b : List ℕ) → bad_model b ≡ false
    → ((header_of b).initial < (header_of b).states) × (every (transition_ok (header_of b).states (header_of b).labels) (transition_table b) ≡ true)
unfolding bad_model
model_holds b e =
    let low : Bool = ltb (header_of b).initial (header_of b).states in
    let oks : Bool = every (transition_ok (header_of b).states (header_of b).labels) (transition_table b) in
    let good : T (low && oks) = held (low && oks) (not-false (low && oks) e) in
    (ltb→lt (header_of b).initial (header_of b).states (and_left low oks good), holds oks (and_right low oks good))

-- how long the table is
pub length_transitions : (b : List ℕ) → length (transition_table b) ≡ (header_of b).transitions
unfolding transition_table
length_transitions b = length_table (transition_in (transition_part b)) (header_of b).transitions

-- the part of a file that starts at an offset, as a slice has it
abbrev pub part_at : List ℕ → ℕ → List ℕ
part_at b at = take (length b - at) (drop at b)

module _ (b : List ℕ) (accepted : Accepted b) where
  abbrev m : ℕ
  m = (header_of b).transitions

  -- each source is a state
  sources : (j : ℕ) → j < m → source_in (transition_part b) j < state_limit
  unfolding transition_table
  sources j h =
      let n : ℕ = (header_of b).states in
      let l : ℕ = (header_of b).labels in
      let good : Passed b = passed b accepted in
      let all : T (every (transition_ok n l) (transition_table b)) = held (every (transition_ok n l) (transition_table b)) (model_holds b good.model).1 in
      let t = transition_in (transition_part b) j in
      let one : T (transition_ok n l t) = rw (table_at (transition_in (transition_part b)) m j t h) at (all_at (transition_ok n l) (transition_table b) j t (rw (length_transitions b) h) all) in
      let low : t.source < n = ltb→lt t.source n (and_left (ltb t.source n) _ (and_left (ltb t.source n && ltb t.label l) _ one)) in
      omega (arith, good.lies.counts.few_states)

  sourced : Sourced (transition_part b) m
  sourced =
      let l = (passed b accepted).lies in
      record { few = l.counts.few_transitions; inside = transitions_inside l; source = sources }

  -- Its table: what is found of it is found of the case.
  module _ {h : Header} (read : h ≡ header_of b) {part : List ℕ} {count : ℕ} (is : part ≡ transition_part b) (many : count ≡ h.transitions) where
    all : count ≡ m
    all = many ∙ ap (λ (h : Header). h.transitions) read

    pub sourced_table : Sourced part count
    sourced_table = rw (is, all) sourced

    pub table_case : (case_of b).transitions ≡ transitions_in part count
    unfolding case_of transition_table transitions_in
    table_case = rw (is, all)

    pub tally_case : {k : ℕ} → k ≡ length (distinct (transitions_in part count)) → record { records = count; distinct = k } ≡ tally_of b
    unfolding tally_of tallied case_of transition_table transitions_in
    tally_case e = rw (accepted, all, rw (is, all) at e, length_table (transition_in (transition_part b)) m)

-- the tally of an accepted case, and of any other
pub tally_accepted : (b : List ℕ) → Accepted b → tally_of b ≡ tallied (case_of b).transitions
unfolding tally_of
tally_accepted b ok = rw ok

pub tally_refused : (b : List ℕ) → ¬ Accepted b → tally_of b ≡ no_tally
unfolding tally_of
tally_refused b d = refusing (case_refusal b) _ no_tally d

-- The two numbers of a table do not depend on the order of its records.
pub tallied_order : (ts us : List Transition) → Perm ts us → tallied ts ≡ tallied us
unfolding tallied
tallied_order ts us p = rw (perm_length ts us p, perm_distinct ts us p)
