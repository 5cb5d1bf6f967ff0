-- What an edit answers and leaves, condition by condition.
use mathlib.Core.Path.{◌≡◌, refl, sym, ap, ◌∙◌}
use mathlib.Core.Bool.{Bool, true, false, not, ◌&&◌}
use mathlib.Core.List.{List, [], ◌∷◌, ◌++◌}
use Prim.Native.Nat.{ℕ, ◌+◌, ◌-◌, ◌*◌, ◌≤◌, ◌<◌}
use native.Mathlib.Omega.{arith}
use borrow.Author.Tests.{le-ltb, lt-ltb, le-leb, lt-leb}
use lib.Dec.{ltb}
use lib.ListN.{length, take}
use Rattle.std.proofs.Common.{append_assoc}
use Rattle.std.proofs.lemmas.Bool.{false≢true}
use Rattle.sets.specs.Lists.{every}
use Rattle.sets.specs.Refusals.{Conditions, first_of}
use Rattle.sets.proofs.Refusals.{refusing, none_of_first, one_of_first, holds_here, holds_later, none_holds}
use Rattle.cases.specs.declared.Header.{Header}
use Rattle.cases.specs.declared.Transition.{Transition}
use Rattle.cases.specs.declared.Cause.{Cause}
use Rattle.models.specs.declared.Cause.{Cause as ModelCause}
use Rattle.std.proofs.lemmas.Result.{err_from_is_err_and}
use Rattle.std.specs.Prelude.{IsErrAnd, Result, Ok, Err, Option, Some, None, MatchOption}
use Rattle.std.specs.Option.{is_some}
use Rattle.cases.specs.File.{header_of, transition_table, case_within, transition_limit}
use Rattle.cases.specs.Conditions.{transition_ok, layout_conditions, model_conditions, formula_conditions, case_conditions, case_refusal, Accepted}
use Rattle.cases.specs.Opening.{case_number, Opens}
use Rattle.cases.specs.internal.Checks.{transition_part, transitions_in}
use Rattle.cases.proofs.Openings.{accepted, refused}
use Rattle.cases.proofs.Tallies.{length_transitions}
use Rattle.records.specs.Places.{place_of}
use Rattle.records.proofs.Places.{stands, stands_not}
use Rattle.records.specs.Replaced.{with_transitions, written_to}
use Rattle.models.specs.Model.{cause_number, change_number, holds, out_of_range, add_checks, drop_checks, Edited, model_room, open_conditions, add_conditions, added_model, drop_conditions}
use Rattle.models.specs.internal.Looking.{look_conditions, Placed, RefusedBy}

-- ---- any edit

module _ {cs : Conditions} {made before : List ℕ} where
  -- It is refused and leaves the model unchanged,
  pub refuses : {k : ℕ} → k ≡ first_of cs → ¬ (k ≡ 0) → Edited cs made before k before
  refuses e d = record { number = e; bytes = sym (refusing (first_of cs) made before (λ z. d (e ∙ z))) }

  -- by a refusal that was handed on too,
  pub hands_on : (cause : ModelCause) (r : Result (Unit {0}) ModelCause) → IsErrAnd r (λ y. y ≡ cause) → RefusedBy cs (cause_number cause) → Edited cs made before (change_number r) before
  hands_on cause r e w = let p = err_from_is_err_and r e in rw (p.1, p.2) (refuses w.number w.some)

  -- or it is made.
  pub makes : {after : List ℕ} → 0 ≡ first_of cs → after ≡ made → Edited cs made before 0 after
  makes e p = record { number = e; bytes = p ∙ rw (sym e) }

-- ---- opening

module _ (b model : List ℕ) where
  -- the case's own number
  pub case_refuses : {k : ℕ} → (k ≡ case_refusal b) × ¬ (case_refusal b ≡ 0) → RefusedBy (open_conditions b model) k
  unfolding case_refusal open_conditions
  case_refuses r = record { number = r.0 ∙ sym (one_of_first (case_conditions b) _ r.1); some = λ z. r.1 (sym r.0 ∙ z) }

  module _ (ok : Accepted b) where
    own : first_of (open_conditions b model) ≡ first_of ((13, ltb (length model) (model_room b)) ∷ [])
    unfolding case_refusal open_conditions case_conditions layout_conditions model_conditions formula_conditions every
    own = none_of_first (case_conditions b) _ tt ok

    -- 13
    pub open_refuses : length model < model_room b → 13 ≡ first_of (open_conditions b model)
    open_refuses h = holds_here _ _ _ (lt-ltb _ _ h) ∙ sym own

    pub open_makes : model_room b ≤ length model → 0 ≡ first_of (open_conditions b model)
    open_makes h = holds_later _ _ _ (le-ltb _ _ h) none_holds ∙ sym own

-- ---- adding and dropping

module _ (model : List ℕ) (t : Transition) where
  abbrev b : List ℕ
  b = case_within model

  abbrev held : List Transition
  held = transition_table b

  abbrev right : Bool
  right = transition_ok (header_of b).states (header_of b).labels t

  abbrev range : Conditions
  range = (6, out_of_range (header_of b).states (header_of b).labels t) ∷ []

  -- a number of the layout, and 6
  pub look_layout : {k : ℕ} → (k ≡ first_of (layout_conditions b)) × ¬ (first_of (layout_conditions b) ≡ 0) → RefusedBy (look_conditions model t) k
  unfolding look_conditions
  look_layout r = record { number = r.0 ∙ sym (one_of_first (layout_conditions b) _ r.1); some = λ z. r.1 (sym r.0 ∙ z) }

  module _ (none : first_of (layout_conditions b) ≡ 0) where
    -- what is first behind the layout, if the layout is right
    laid_first : (rest : Conditions) → first_of (layout_conditions b ++ rest) ≡ first_of rest
    unfolding layout_conditions every
    laid_first rest = none_of_first (layout_conditions b) rest tt none

    pub look_range : right ≡ false → 6 ≡ first_of (look_conditions model t)
    unfolding look_conditions
    look_range e = holds_here _ _ _ (ap not e) ∙ sym (laid_first range)

  -- One of them holds: then any edit that has them first is refused.
  pub look_refuses : (rest : Conditions) {k : ℕ} → RefusedBy (look_conditions model t) k → RefusedBy (layout_conditions b ++ (range ++ rest)) k
  unfolding look_conditions
  look_refuses rest r = record {
    number = r.number ∙ sym (one_of_first (look_conditions model t) rest (λ z. r.some (r.number ∙ z))) ∙ ap first_of (append_assoc (layout_conditions b) range rest);
    some = r.some;
  }

  module _ (none : first_of (layout_conditions b) ≡ 0) where
    add_own : first_of (add_conditions model t)
        ≡ first_of (add_checks (header_of b).states (header_of b).labels held t ++ ((13, not (holds held t) && ltb (length model) (length b + 6)) ∷ []))
    unfolding add_conditions
    add_own = laid_first none _

    drop_own : first_of (drop_conditions model t) ≡ first_of (drop_checks (header_of b).states (header_of b).labels held t)
    unfolding drop_conditions
    drop_own = laid_first none _

    module _ (ok : right ≡ true) where
      -- a transition that is held
      pub add_held : holds held t ≡ true → 0 ≡ first_of (add_conditions model t)
      unfolding add_checks
      add_held e = holds_later _ _ _ (ap not ok) (holds_later _ _ _ (rw e) (holds_later _ _ _ (rw e) none_holds)) ∙ sym add_own

      pub drop_held : holds held t ≡ true → 0 ≡ first_of (drop_conditions model t)
      unfolding drop_checks
      drop_held e = holds_later _ _ _ (ap not ok) (holds_later _ _ _ (ap not e) none_holds) ∙ sym drop_own

      module _ (new : holds held t ≡ false) where
        -- 17, 16 and 13
        pub drop_absent : 17 ≡ first_of (drop_conditions model t)
        unfolding drop_checks
        drop_absent = holds_later _ _ _ (ap not ok) (holds_here _ _ _ (ap not new)) ∙ sym drop_own

        pub add_full : transition_limit ≤ length held → 16 ≡ first_of (add_conditions model t)
        unfolding add_checks
        add_full h = holds_later _ _ _ (ap not ok) (holds_here _ _ _ (rw (new, le-leb transition_limit (length held) h))) ∙ sym add_own

        pub add_memory : length held < transition_limit → length model < length b + 6 → 13 ≡ first_of (add_conditions model t)
        unfolding add_checks
        add_memory h g =
            holds_later _ _ _ (ap not ok) (holds_later _ _ _ (rw (new, lt-leb transition_limit (length held) h)) (holds_here _ _ _ (rw (new, lt-ltb (length model) (length b + 6) g)))) ∙ sym add_own

        pub add_new : length held < transition_limit → length b + 6 ≤ length model → 0 ≡ first_of (add_conditions model t)
        unfolding add_checks
        add_new h g =
            holds_later _ _ _ (ap not ok) (holds_later _ _ _ (rw (new, lt-leb transition_limit (length held) h)) (holds_later _ _ _ (rw (new, le-ltb (length model) (length b + 6) g)) none_holds)) ∙ sym add_own

  -- what is left
  pub held_left : holds held t ≡ true → model ≡ added_model model t
  unfolding added_model
  held_left e = rw e

  pub new_left : holds held t ≡ false → written_to model (with_transitions b (held ++ (t ∷ []))) ≡ added_model model t
  unfolding added_model
  new_left e = rw e

-- ---- what the code finds

-- a test that was made with the header
pub right_is : (model : List ℕ) (t : Transition) {h : Header} {r v : Bool} → h ≡ header_of (case_within model) → r ≡ transition_ok h.states h.labels t → r ≡ v → right model t ≡ v
right_is model t is made e = ap (λ (x : Header). transition_ok x.states x.labels t) (sym is) ∙ sym made ∙ e

-- how many are held
pub count_is : (model : List ℕ) {h : Header} → h ≡ header_of (case_within model) → length (transition_table (case_within model)) ≡ h.transitions
count_is model is = length_transitions (case_within model) ∙ ap (λ (x : Header). x.transitions) (sym is)

-- the place that is found in a table of them
module _ (model : List ℕ) (t : Transition) {part : List ℕ} {count : ℕ} (there : part ≡ transition_part (case_within model)) (many : count ≡ (header_of (case_within model)).transitions) where
  table_is : transitions_in part count ≡ transition_table (case_within model)
  unfolding transitions_in transition_table
  table_is = rw (there, many) refl

  pub placed : (place : Option ℕ) → MatchOption place (place_of t (transitions_in part count) ≡ count) (λ i. (place_of t (transitions_in part count) ≡ i) × (i < count)) → Placed model t place
  placed None e = let same = ap (place_of t) table_is in stands_not t (transition_table (case_within model)) (omega (arith, same, e, many, length_transitions (case_within model)))
  placed (Some i) e =
      let same = ap (place_of t) table_is in
      let long = length_transitions (case_within model) in
      (stands t (transition_table (case_within model)) (omega (arith, same, e.0, e.1, many, long)), sym e.0 ∙ same, omega (arith, e.1, many, long))

-- what a place says
module _ (model : List ℕ) (t : Transition) where
  pub is_held : (place : Option ℕ) → Placed model t place → is_some place ≡ true → holds (transition_table (case_within model)) t ≡ true
  is_held (Some i) p e = p.0
  is_held None p e = absurd (false≢true e)

  pub is_new : (place : Option ℕ) → Placed model t place → is_some place ≡ false → holds (transition_table (case_within model)) t ≡ false
  is_new None p e = p
  is_new (Some i) p e = absurd (false≢true (sym e))

-- what was found of the bytes up to the end of the case was found of the case
module _ (model : List ℕ) (e : ℕ) (cut : take e model ≡ case_within model) {answer : Result Header Cause}
    (o : Opens (first_of (layout_conditions (take e model))) (λ h. h ≡ header_of (take e model)) answer) where
  same : first_of (layout_conditions (take e model)) ≡ first_of (layout_conditions (case_within model))
  same = ap (λ (b : List ℕ). first_of (layout_conditions b)) cut

  pub laid_out : {h : Header} → answer ≡ Ok h → (first_of (layout_conditions (case_within model)) ≡ 0) × (h ≡ header_of (case_within model))
  laid_out is = let a = accepted o is in (sym same ∙ a.0, a.1 ∙ ap header_of cut)

  pub not_laid_out : {cause : Cause} → answer ≡ Err cause → (case_number cause ≡ first_of (layout_conditions (case_within model))) × ¬ (first_of (layout_conditions (case_within model)) ≡ 0)
  not_laid_out is = let r = refused o is in (r.0 ∙ same, λ z. r.1 (same ∙ z))

-- ---- an accepted case and its header

pub room_is : (b : List ℕ) {h : Header} → h ≡ header_of b → length b + 6 * (transition_limit - h.transitions) ≡ model_room b
unfolding model_room
room_is b is = ap (λ (x : Header). length b + 6 * (transition_limit - x.transitions)) is
