-- A model holds a set of transitions of the opened case: opening one, adding, dropping and wanting keep it so, and answer by the set.
use mathlib.Core.Path.{◌≡◌, refl, sym, ap, subst, ◌∙◌}
use mathlib.Core.Logic.{by_cases}
use mathlib.Core.Bool.{Bool, true, false, cond, not, ◌&&◌}
use mathlib.Core.List.{List, [], ◌∷◌, ◌++◌}
use Prim.Native.Nat.{ℕ, ◌+◌, ◌-◌, ◌*◌, ◌≤◌, ◌<◌}
use native.Mathlib.Decide.{ℕ_discrete}
use native.Mathlib.Omega.{arith}
use borrow.Author.Tests.{le-ltb, leb-false, ltb-false, not-false}
use lib.Dec.{T, ltb, leb}
use lib.ListN.{length, drop, length-append, length-drop}
use lib.Seq.{drop-append_seam}
use Rattle.sets.specs.Lists.{every}
use Rattle.sets.specs.Refusals.{Conditions, first_of, by_refusal}
use Rattle.sets.proofs.Refusals.{none_of_first, one_of_first, none_reached, none_here, refusing}
use Rattle.cases.specs.declared.Header.{Header}
use Rattle.cases.specs.declared.Transition.{Transition}
use Rattle.cases.specs.File.{header_of, transition_table, case_within, transition_limit}
use Rattle.cases.specs.Case.{distinct}
use Rattle.cases.specs.Conditions.{transition_ok, layout_conditions, model_conditions, formula_conditions, case_conditions, case_refusal, Accepted}
use Rattle.cases.proofs.Accepting.{passed}
use Rattle.cases.proofs.TableTrees.{held as is_so}
use Rattle.cases.proofs.Tallies.{model_holds, length_transitions}
use Rattle.cases.proofs.Distinct.{length_distinct}
use Rattle.records.specs.Replaced.{with_transitions, written_to}
use Rattle.records.proofs.Files.{with_long}
use Rattle.records.proofs.ReadBack.{header_with, transitions_with, accepted_with, within_with, with_with}
use Rattle.models.specs.Model.{holds, adding, dropping, full, add_checks, drop_checks, Edited, model_room, open_conditions, opened_model, add_conditions, added_model, drop_conditions, dropped_model}
use Rattle.models.specs.History.{Event, Add, Drop, Want, Happened, nothing, added, dropped, wanted, held_after, Answers, opened_set}
use Rattle.models.proofs.Sets.{Once, adding_held, adding_new, adding_once, adding_all, dropping_once, dropping_long, dropping_all, distinct_few_copies, distinct_every}

-- the header's states and labels, by which a transition is right
abbrev pub right_in : List ℕ → Transition → Bool
right_in b = transition_ok (header_of b).states (header_of b).labels

-- The model m holds the set ts of transitions of the case b.
pub record Holding (b : List ℕ) (ts : List Transition) (m : List ℕ) : Type 0 where
  pub accepted : Accepted b
  pub right : T (every (right_in b) ts)
  pub few : length ts ≤ transition_limit
  pub once : Once ts
  pub room : model_room b ≤ length m
  pub starts : m ≡ written_to m (with_transitions b ts)

-- ---- writing a file to a buffer

written_long : (s file : List ℕ) → length file ≤ length s → length (written_to s file) ≡ length s
written_long s file h = length-append file (drop (length file) s) ∙ omega (arith, length-drop (length file) s)

written_starts : (s file : List ℕ) → written_to s file ≡ written_to (written_to s file) file
written_starts s file = ap (λ (z : List ℕ). file ++ z) (sym (drop-append_seam file (drop (length file) s)))

-- ---- the case with a set has room

-- there is room for each set that a case may have
fits : (b : List ℕ) → Accepted b → (ts : List Transition) → length ts ≤ transition_limit → length (with_transitions b ts) + 6 * (transition_limit - length ts) ≡ model_room b
unfolding model_room
fits b ok ts few = let l = (passed b ok).lies in omega (arith, with_long l ts, l.ends, l.transitions, l.counts.few_transitions)

-- A file with a set is written to a model that has room.
holding : (b : List ℕ) → Accepted b → (ts : List Transition) → T (every (right_in b) ts) → length ts ≤ transition_limit → Once ts
    → (m : List ℕ) → model_room b ≤ length m → Holding b ts (written_to m (with_transitions b ts))
holding b ok ts right few once m room = record {
  accepted = ok;
  right = right;
  few = few;
  once = once;
  room = rw (written_long m (with_transitions b ts) (omega (arith, fits b ok ts few))) room;
  starts = written_starts m (with_transitions b ts);
}

-- ---- opening

module _ (b model : List ℕ) (none : first_of (open_conditions b model) ≡ 0) where
  -- the case is accepted, and there is room
  pub open_accepted : Accepted b × (model_room b ≤ length model)
  unfolding case_refusal open_conditions case_conditions layout_conditions model_conditions formula_conditions every
  open_accepted = let r = (none_reached (case_conditions b) 13 (ltb (length model) (model_room b)) (λ e. omega arith) tt).0 none in (r.0, ltb-false _ _ r.1)

  pub open_holding : Holding b (opened_set b) (opened_model b model)
  unfolding opened_model
  open_holding =
      let ok = open_accepted.0 in
      let table : List Transition = transition_table b in
      let good = passed b ok in
      holding b ok (distinct table) (distinct_every table (right_in b) (is_so (every (right_in b) table) (model_holds b good.model).1))
      (omega (arith, length_distinct table, length_transitions b, good.lies.counts.few_transitions)) (distinct_few_copies table) model open_accepted.1

-- ---- an edit of a model that holds a set

-- 13 does not hold where none before it does, for there is room
room_last : (n l : ℕ) (ts : List Transition) (t : Transition) (c : Bool) → (length ts < transition_limit → c ≡ false)
    → first_of (add_checks n l ts t ++ ((13, not (holds ts t) && c) ∷ [])) ≡ first_of (add_checks n l ts t)
unfolding add_checks first_of
room_last n l ts t c room = go (transition_ok n l t) (holds ts t) (leb transition_limit (length ts)) refl
  where
    go : (a h f : Bool) → leb transition_limit (length ts) ≡ f → first_of ((6, not a) ∷ (16, not h && f) ∷ (13, not h && c) ∷ []) ≡ first_of ((6, not a) ∷ (16, not h && f) ∷ [])
    go false h f e = refl
    go true true f e = refl
    go true false true e = refl
    go true false false e = rw (room (leb-false transition_limit (length ts) e))

module _ {b : List ℕ} {ts : List Transition} {m : List ℕ} (h : Holding b ts m) where
  abbrev w : List ℕ
  w = with_transitions b ts

  -- the case that the model starts with
  pub within : case_within m ≡ w
  within = ap case_within h.starts ∙ within_with b h.accepted ts h.few h.right (drop (length w) m)

  layout_none : first_of (layout_conditions w) ≡ 0
  unfolding case_refusal case_conditions
  layout_none = by_cases (ℕ_discrete (first_of (layout_conditions w)) 0) (λ z. z)
      (λ d. absurd (d (sym (one_of_first (layout_conditions w) _ d) ∙ accepted_with b h.accepted ts h.few h.right)))

  module _ (t : Transition) where
    -- the conditions of an edit are those of the set
    add_number : first_of (add_conditions m t) ≡ first_of (add_checks (header_of b).states (header_of b).labels ts t)
    unfolding add_conditions layout_conditions every
    add_number =
        ap (λ (x : List ℕ). first_of (layout_conditions x ++ (add_checks (header_of x).states (header_of x).labels (transition_table x) t ++ ((13, not (holds (transition_table x) t) && ltb (length m) (length x + 6)) ∷ [])))) within
        ∙ none_of_first (layout_conditions w) _ tt layout_none
        ∙ ap (λ (x : Header). first_of (add_checks x.states x.labels (transition_table w) t ++ ((13, not (holds (transition_table w) t) && ltb (length m) (length w + 6)) ∷ []))) (header_with b h.accepted ts h.few h.right)
        ∙ ap (λ (us : List Transition). first_of (add_checks (header_of b).states (header_of b).labels us t ++ ((13, not (holds us t) && ltb (length m) (length w + 6)) ∷ []))) (transitions_with b h.accepted ts h.few h.right)
        ∙ room_last (header_of b).states (header_of b).labels ts t (ltb (length m) (length w + 6)) (λ g. le-ltb (length m) (length w + 6) (omega (arith, fits b h.accepted ts h.few, h.room)))

    drop_number : first_of (drop_conditions m t) ≡ first_of (drop_checks (header_of b).states (header_of b).labels ts t)
    unfolding drop_conditions layout_conditions every
    drop_number =
        ap (λ (x : List ℕ). first_of (layout_conditions x ++ drop_checks (header_of x).states (header_of x).labels (transition_table x) t)) within
        ∙ none_of_first (layout_conditions w) _ tt layout_none
        ∙ ap (λ (x : Header). first_of (drop_checks x.states x.labels (transition_table w) t)) (header_with b h.accepted ts h.few h.right)
        ∙ ap (λ (us : List Transition). first_of (drop_checks (header_of b).states (header_of b).labels us t)) (transitions_with b h.accepted ts h.few h.right)

    -- and so is what is left
    added_is : added_model m t ≡ cond (holds ts t) m (written_to m (with_transitions b (ts ++ (t ∷ []))))
    unfolding added_model
    added_is =
        ap (λ (x : List ℕ). cond (holds (transition_table x) t) m (written_to m (with_transitions x (transition_table x ++ (t ∷ []))))) within
        ∙ ap (λ (us : List Transition). cond (holds us t) m (written_to m (with_transitions w (us ++ (t ∷ []))))) (transitions_with b h.accepted ts h.few h.right)
        ∙ ap (λ (file : List ℕ). cond (holds ts t) m (written_to m file)) (with_with b h.accepted ts h.few h.right (ts ++ (t ∷ [])))

    dropped_is : dropped_model m t ≡ written_to m (with_transitions b (dropping ts t))
    unfolding dropped_model
    dropped_is =
        ap (λ (x : List ℕ). written_to m (with_transitions x (dropping (transition_table x) t))) within
        ∙ ap (λ (us : List Transition). written_to m (with_transitions w (dropping us t))) (transitions_with b h.accepted ts h.few h.right)
        ∙ ap (written_to m) (with_with b h.accepted ts h.few h.right (dropping ts t))

    -- An add that is not refused leaves a model that holds the set with the transition,
    add_made : first_of (add_checks (header_of b).states (header_of b).labels ts t) ≡ 0 → Holding b (adding ts t) (added_model m t)
    unfolding add_checks
    add_made none =
        let range = none_here 6 _ _ (λ e. omega arith) none in
        let room = (none_here 16 _ _ (λ e. omega arith) range.1).0 in
        go (holds ts t) refl (is_so (right_in b t) (not-false _ range.0)) room
      where
        go : (v : Bool) → holds ts t ≡ v → T (right_in b t) → full ts t ≡ false → Holding b (adding ts t) (added_model m t)
        go true e right room = rw (adding_held ts t e, added_is, e) h
        go false e right room =
            let free : length ts < transition_limit = leb-false transition_limit (length ts) (rw e at room) in
            rw (added_is, e) (subst (λ (us : List Transition). Holding b us (written_to m (with_transitions b (ts ++ (t ∷ []))))) (sym (adding_new ts t e))
            (holding b h.accepted (ts ++ (t ∷ [])) (adding_all ts t (right_in b) h.right right) (omega (arith, length-append ts (t ∷ [])))
            (rw (adding_new ts t e) at (adding_once ts t h.once)) m h.room))

    -- and a drop the set without it.
    drop_made : first_of (drop_checks (header_of b).states (header_of b).labels ts t) ≡ 0 → Holding b (dropping ts t) (dropped_model m t)
    unfolding drop_checks
    drop_made none =
        let range = none_here 6 _ _ (λ e. omega arith) none in
        let there = not-false _ (none_here 17 _ _ (λ e. omega arith) range.1).0 in
        rw dropped_is (holding b h.accepted (dropping ts t) (dropping_all ts t there (right_in b) h.right) (omega (arith, dropping_long ts t there, h.few)) (dropping_once ts t there h.once) m h.room)

-- any edit: what it leaves, by its number
edit_holding : {b : List ℕ} {ts us : List Transition} {m m₁ made : List ℕ} {cs : Conditions} {k : ℕ} → Holding b ts m → (first_of cs ≡ 0 → Holding b us made)
    → Edited cs made m k m₁ → Holding b (by_refusal k us ts) m₁
edit_holding {b} {ts} {us} {m} {m₁} {made} {cs} {k} h success e = by_cases (ℕ_discrete k 0)
    (λ z. let none : first_of cs ≡ 0 = sym e.number ∙ z in rw (z, e.bytes, none) (success none))
    (λ d. let some : ¬ (first_of cs ≡ 0) = λ z. d (e.number ∙ z) in rw (refusing k us ts d, e.bytes, refusing (first_of cs) made m some) h)

-- ---- a history

-- each call answers by the set that the calls before it leave
abbrev pub Told : List ℕ → List Transition → List Event → Type 0
Told b ts [] = Unit
Told b ts (e ∷ es) = Answers b ts e × Told b (held_after ts (e ∷ [])) es

pub told : {b : List ℕ} {ts : List Transition} {m m' : List ℕ} {es : List Event} → Holding b ts m → Happened m es m' → Told b ts es × Holding b (held_after ts es) m'
unfolding held_after Answers
told h nothing = (tt, h)
told {ts = ts} h (added {t = t} {k = k} e rest) =
    let more = told {ts = by_refusal k (adding ts t) ts} (edit_holding h (λ z. add_made h t (sym (add_number h t) ∙ z)) e) rest in
    ((e.number ∙ add_number h t, more.0), more.1)
told {ts = ts} h (dropped {t = t} {k = k} e rest) =
    let more = told {ts = by_refusal k (dropping ts t) ts} (edit_holding h (λ z. drop_made h t (sym (drop_number h t) ∙ z)) e) rest in
    ((e.number ∙ drop_number h t, more.0), more.1)
told h (wanted e rest) = let more = told h rest in ((rw (within h) at e, more.0), more.1)

-- so does the one behind any of them
after_one : (ts : List Transition) (e : Event) (es : List Event) → held_after ts (e ∷ es) ≡ held_after (held_after ts (e ∷ [])) es
unfolding held_after
after_one ts (Add t k) es = refl
after_one ts (Drop t k) es = refl
after_one ts (Want marks limit o y marks') es = refl

pub told_at : (b : List ℕ) (ts : List Transition) (before : List Event) (e : Event) (after : List Event) → Told b ts (before ++ (e ∷ after)) → Answers b (held_after ts before) e
unfolding held_after
told_at b ts [] e after h = h.0
told_at b ts (x ∷ before) e after h = rw (after_one ts x before) (told_at b (held_after ts (x ∷ [])) before e after h.1)
