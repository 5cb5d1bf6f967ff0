-- The promises of the editor's calls, of whatever keeps their contracts. A model is a list of bytes of any length and content.
use mathlib.Core.Path.{◌≡◌, refl, sym, subst, ◌∙◌}
use mathlib.Core.Logic.{◌↔◌, ◌⊎◌}
use mathlib.Core.List.{List, [], ◌∷◌, ◌++◌, Mem, Memᴰ, Nodup}
use Prim.Native.Nat.{ℕ, ◌≤◌, ◌<◌}
use lib.Dec.{T}
use lib.ListN.{length}
use Rattle.sets.specs.Lists.{every}
use Rattle.sets.specs.States.{States, Valuation}
use Rattle.sets.specs.Words.{Marks}
use Rattle.sets.specs.Refusals.{Conditions, numbers_of, first_of, NoneHolds, FirstHolds, Outcome, GivesMarks, Spent}
use Rattle.sets.proofs.Refusals.{refusing, answered_member, answered_first, answered_none}
use Rattle.cases.specs.declared.Tally.{Tally}
use Rattle.cases.specs.declared.Transition.{Transition}
use Rattle.cases.specs.File.{transition_table, case_within, transition_limit}
use Rattle.cases.specs.Case.{case_of, SameTransitionSet}
use Rattle.cases.specs.Conditions.{layout_conditions, model_conditions, formula_conditions, case_conditions, Accepted}
use Rattle.cases.specs.Meaning.{MeansIn}
use Rattle.cases.specs.Reach.{ReachableStates}
use Rattle.cases.specs.Tally.{tallied}
use Rattle.cases.proofs.Distinct.{few_nodup, distinct_mem, distinct_all}
use Rattle.routes.specs.Route.{direct, marks_only, OwnRounds, Enough, Ran, run_report}
use Rattle.routes.proofs.Promises.{spent_iff, gives_iff, reports, marks_mean, marks_kept, tally_table, same_answers}
use Rattle.records.specs.Replaced.{with_transitions}
use Rattle.records.proofs.ReadBack.{accepted_with, case_with_lem}
use Rattle.models.specs.Model.{holds, adding, dropping, add_checks, drop_checks, Edited, open_conditions, opened_model, add_conditions, added_model, drop_conditions, dropped_model}
use Rattle.models.specs.History.{Event, Add, Drop, Want, Happened, nothing, added, dropped, wanted, Answers, opened_set, held_by, edited_case}
use Rattle.models.proofs.Sets as sets
use Rattle.models.proofs.Histories.{Holding, within, open_accepted, open_holding, told, told_at}

-- ---- One call, on bytes of any length and content

module _ {cs : Conditions} {made before : List ℕ} {k : ℕ} {after : List ℕ} (e : Edited cs made before k after) where
  -- A refusal has the number of one of the call's conditions, the first that holds,
  pub one_number : ¬ (k ≡ 0) → Memᴰ k (numbers_of cs)
  one_number = answered_member cs e.number

  pub first_condition : (j : ℕ) → ¬ (j ≡ 0) → k ≡ j ↔ FirstHolds cs j
  first_condition = answered_first cs e.number

  -- and changes no byte. Otherwise the bytes are those that the call makes.
  pub refused_unchanged : ¬ (k ≡ 0) → after ≡ before
  refused_unchanged d = e.bytes ∙ refusing (first_of cs) made before (λ z. d (e.number ∙ z))

  pub made_bytes : k ≡ 0 → after ≡ made
  made_bytes z = e.bytes ∙ rw (sym e.number ∙ z)

-- Where a call is not refused none of its conditions holds.
pub open_none : (b model : List ℕ) {after : List ℕ} {k : ℕ} → Edited (open_conditions b model) (opened_model b model) model k after → k ≡ 0 ↔ NoneHolds (open_conditions b model)
unfolding open_conditions case_conditions layout_conditions model_conditions formula_conditions every
open_none b model e = answered_none (open_conditions b model) e.number tt

pub add_none : (model : List ℕ) (t : Transition) {after : List ℕ} {k : ℕ} → Edited (add_conditions model t) (added_model model t) model k after → k ≡ 0 ↔ NoneHolds (add_conditions model t)
unfolding add_conditions add_checks layout_conditions every
add_none model t e = answered_none (add_conditions model t) e.number tt

pub drop_none : (model : List ℕ) (t : Transition) {after : List ℕ} {k : ℕ} → Edited (drop_conditions model t) (dropped_model model t) model k after → k ≡ 0 ↔ NoneHolds (drop_conditions model t)
unfolding drop_conditions drop_checks layout_conditions every
drop_none model t e = answered_none (drop_conditions model t) e.number tt

-- ---- Sets: members by the library's List.Mem

-- Held is being a member. Opening a case holds each transition of its table. With a transition the members are it and those that were held. What dropping leaves is
-- said of the sets of a history, in which each transition stands once (`history_dropped`).
pub set_held : (ts : List Transition) (t : Transition) → T (holds ts t) ↔ Mem t ts
set_held = sets.held_member

pub set_opened : (b : List ℕ) (x : Transition) → Mem x (opened_set b) ↔ Mem x (transition_table b)
set_opened b x = distinct_mem x (transition_table b)

pub set_added : (ts : List Transition) (t x : Transition) → Mem x (adding ts t) ↔ ((x ≡ t) ⊎ Mem x ts)
set_added = sets.adding_member

-- ---- A history: a case was opened, and then calls were made, with nothing else writing the model

module _ (b model : List ℕ) {m m' : List ℕ} {es : List Event} (opened : Edited (open_conditions b model) (opened_model b model) model 0 m) (happened : Happened m es m') where
  none : first_of (open_conditions b model) ≡ 0
  none = sym opened.number

  start : Holding b (opened_set b) m
  start = subst (Holding b (opened_set b)) (sym (made_bytes opened refl)) (open_holding b model none)

  -- EVERY call of the history, at any place in it, answers as the set says that the calls before it leave: an add or a drop its number; and where marks are
  -- wanted, what is answered and left is direct's for the opened case with its transition table replaced by the set then held.
  pub history : (before : List Event) (e : Event) (after : List Event) → es ≡ before ++ (e ∷ after) → Answers b (held_by b before) e
  history before e after is = told_at b (opened_set b) before e after (rw is at (told start happened).0)

  finish : Holding b (held_by b es) m'
  finish = (told start happened).1

  -- The opened case was accepted. The model then starts with that case with the set that the history says in place of its table,
  pub opened_accepted : Accepted b
  opened_accepted = (open_accepted b model none).0

  pub history_model : case_within m' ≡ with_transitions b (held_by b es)
  history_model = within finish

  -- which is accepted, with the opened case's states, labels, initial state and formula,
  pub history_accepted : Accepted (with_transitions b (held_by b es))
  history_accepted = accepted_with b opened_accepted _ finish.few finish.right

  pub history_case : case_of (with_transitions b (held_by b es)) ≡ edited_case b es
  history_case = case_with_lem b opened_accepted _ finish.few finish.right

  -- and each transition stands in it once.
  pub history_once : Nodup (held_by b es)
  history_once = few_nodup _ finish.once

  pub history_few : length (held_by b es) ≤ transition_limit
  history_few = finish.few

  -- Dropping a transition that is held leaves those but it.
  pub history_dropped : (t : Transition) → T (holds (held_by b es) t) → (x : Transition)
      → Mem x (dropping (held_by b es) t) ↔ (¬ (x ≡ t) × Mem x (held_by b es))
  history_dropped t e x = sets.dropping_member _ t (sets.held_true _ t e) finish.once x

-- ---- Marks that are wanted after a history

-- The calls so far are es, and then marks are wanted.
module _ (b model : List ℕ) {m m' : List ℕ} {es : List Event} (opened : Edited (open_conditions b model) (opened_model b model) model 0 m) (happened : Happened m es m')
    {marks marks' : List ℕ} {limit : ℕ} {o : Outcome} {y : Tally} (ran : Ran direct (case_within m') (marks_only marks) limit o y marks') where
  pub wanted_direct : Ran direct (with_transitions b (held_by b es)) (marks_only marks) limit o y marks'
  wanted_direct = rw (history_model b model opened happened) at ran

  same : case_of (with_transitions b (held_by b es)) ≡ edited_case b es
  same = history_case b model opened happened

  -- A state is marked exactly if it lies in the formula's meaning for the set.
  pub wanted_means : GivesMarks o → (ρ : Valuation) (v : States) → MeansIn (edited_case b es) ρ v → Marks (case_of b).states v marks marks'
  wanted_means g ρ v means = rw same at (marks_mean wanted_direct g ρ v (rw same means))

  -- A refused want leaves the marks as they were.
  pub wanted_kept : ¬ GivesMarks o → marks' ≡ marks
  wanted_kept = marks_kept wanted_direct

  -- With enough mark words it is spent exactly if direct's own rounds exceed the limit; otherwise they are reported, with the verdict of the meaning and the
  -- count of those of its states that can be reached by the set's transitions.
  module _ (enough : Enough direct (edited_case b es) (marks_only marks)) (r : ℕ) (own : OwnRounds direct (edited_case b es) r) where
    pub wanted_spent : Spent o ↔ limit < r
    wanted_spent = spent_iff _ (history_accepted b model opened happened) wanted_direct (rw same enough) r (rw same own)

    pub wanted_gives : GivesMarks o ↔ r ≤ limit
    wanted_gives = gives_iff _ (history_accepted b model opened happened) wanted_direct (rw same enough) r (rw same own)

    pub wanted_reports : r ≤ limit → (ρ : Valuation) (v w : States) → MeansIn (edited_case b es) ρ v → ReachableStates (edited_case b es) w
        → o ≡ run_report (edited_case b es) v w r
    wanted_reports h ρ v w means reached =
        rw same at (reports _ (history_accepted b model opened happened) wanted_direct (rw same enough) r (rw same own) h ρ v w (rw same means) (rw same reached))

  -- Both numbers of the tally are the size of the set.
  pub wanted_tally : y ≡ record { records = length (held_by b es); distinct = length (held_by b es) }
  unfolding tallied
  wanted_tally =
      let all : length (held_by b es) ≡ _ = (distinct_all (held_by b es)).1 (history_once b model opened happened) in
      tally_table wanted_direct (history_accepted b model opened happened) ∙ rw (same, sym all)

  -- The order in which transitions were added does not matter, nor does which history led to the set: another history of the same opened case whose set has the same members
  -- gives the same answer and the same marks, whatever is lent and whatever the limit.
  pub any_history : (model₁ : List ℕ) {m₁ m₁' marks'' : List ℕ} {fs : List Event} {o' : Outcome} {y' : Tally}
      → Edited (open_conditions b model₁) (opened_model b model₁) model₁ 0 m₁ → Happened m₁ fs m₁' → Ran direct (case_within m₁') (marks_only marks) limit o' y' marks''
      → ((t : Transition) → Mem t (held_by b es) ↔ Mem t (held_by b fs)) → (o ≡ o') × (marks' ≡ marks'')
  any_history model₁ {fs = fs} opened₁ happened₁ ran₁ members =
      let same₁ = history_case b model₁ opened₁ happened₁ in
      let set_same : SameTransitionSet (case_of (with_transitions b (held_by b es))) (case_of (with_transitions b (held_by b fs))) =
      rw (same, same₁) (record { states = refl; initial = refl; formula = refl; transitions = members }) in
      same_answers _ _ set_same (history_accepted b model opened happened) (history_accepted b model₁ opened₁ happened₁) wanted_direct (rw (history_model b model₁ opened₁ happened₁) at ran₁)

-- ---- The same at any place of a history

-- A history is its first calls, and then the others.
pub history_split : (before : List Event) {after : List Event} {m m' : List ℕ} → Happened m (before ++ after) m' → (m₁ : List ℕ) × (Happened m before m₁ × Happened m₁ after m')
history_split [] h = (_, (nothing, h))
history_split (Add t k ∷ es) (added e rest) = let s = history_split es rest in (s.0, (added e s.1.0, s.1.1))
history_split (Drop t k ∷ es) (dropped e rest) = let s = history_split es rest in (s.0, (dropped e s.1.0, s.1.1))
history_split (Want marks limit o y marks' ∷ es) (wanted e rest) = let s = history_split es rest in (s.0, (wanted e s.1.0, s.1.1))

first_wanted : {m m' marks marks' : List ℕ} {limit : ℕ} {o : Outcome} {y : Tally} {es : List Event} → Happened m (Want marks limit o y marks' ∷ es) m' → Ran direct (case_within m) (marks_only marks) limit o y marks'
first_wanted (wanted e rest) = e

-- Wherever marks are wanted in a history: where they are given, a state is marked exactly if it lies in the formula's meaning for the set that the calls before it leave; and both numbers of
-- the tally are the size of that set.
pub history_means : (b model : List ℕ) {m m' : List ℕ} (before after : List Event) (marks : List ℕ) (limit : ℕ) (o : Outcome) (y : Tally) (marks' : List ℕ)
    → Edited (open_conditions b model) (opened_model b model) model 0 m → Happened m (before ++ (Want marks limit o y marks' ∷ after)) m'
    → (GivesMarks o → (ρ : Valuation) (v : States) → MeansIn (edited_case b before) ρ v → Marks (case_of b).states v marks marks')
    × (y ≡ record { records = length (held_by b before); distinct = length (held_by b before) })
history_means b model before after marks limit o y marks' opened happened =
    let s = history_split before happened in
    let ran = first_wanted s.1.1 in
    (wanted_means b model opened s.1.0 ran, wanted_tally b model opened s.1.0 ran)
