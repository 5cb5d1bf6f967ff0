-- What `write_case` holds at each step: the parts of an accepted case as the header's numbers give them.
use mathlib.Core.Path.{◌≡◌, refl, ap, ◌∙◌}
use mathlib.Core.Bool.{Bool, true, false, cond}
use mathlib.Core.List.{List, ◌++◌}
use Prim.Native.Nat.{ℕ, ◌+◌, ◌≤◌, ◌<◌}
use lib.Dec.{ltb}
use lib.ListN.{length, take, drop}
use borrow.Author.Tests.{ltb-true, ltb-false}
use lib.Seq.{get_or-take, length-take-le}
use Rattle.cases.specs.declared.Header.{Header}
use Rattle.cases.specs.File.{header_of, node_in, action_limit, node_limit}
use Rattle.cases.specs.Action.{Action}
use Rattle.cases.specs.Case.{case_action, case_of}
use Rattle.cases.specs.Conditions.{node_at, is_binder, Accepted}
use Rattle.cases.specs.internal.Checks.{nodes_in, transition_part, formula_part}
use Rattle.cases.specs.internal.Masks.{ActionMasks}
use Rattle.translate.specs.declared.Shape.{Shape}
use Rattle.translate.specs.declared.Cause.{Cause}
use Rattle.translate.specs.declared.Cause.TheVariants.{Memory}
use Rattle.std.specs.Prelude.{Result, Ok, Err}
use Rattle.translate.specs.Bytes.{system_of, file_of}
use Rattle.translate.specs.internal.Parts.{distinct_in}
use Rattle.cases.specs.internal.Links.{FirstFlags}
use Rattle.cases.proofs.Accepting.{passed}
use Rattle.translate.specs.internal.Readable.{Readable}
use Rattle.translate.specs.internal.Tabled.{HoldsShapes}
use Rattle.translate.specs.internal.Sources.{Sources, shape_system, Emitted}
use Rattle.translate.specs.Translating.{file, translate_number, written_number, written_length, Translated}
use Rattle.translate.proofs.CaseSources as of_case
use Rattle.translate.proofs.Translations.{too_short_lem, file_written}

-- the equations of an accepted case, written or not
module _ (b before : List ℕ) (accepted : Accepted b) {w : Result ℕ Cause} {after : List ℕ} (emitted : Emitted (system_of (case_of b)) before w after) where
  ends_by : (r : Bool) → ltb (length before) (length (file b)) ≡ r → Translated b before (written_number w) (written_length w) after
  unfolding file_of written_number written_length translate_number
  ends_by true e =
      let is : w ≡ Err Memory = emitted.answer ∙ ap (λ (x : Bool). cond x (Err Memory) (Ok (length (file b)))) e in
      let same : after ≡ before = emitted.written ∙ ap (λ (x : Bool). cond x before (file b ++ drop (length (file b)) before)) e in
      rw (is, same) (too_short_lem b before accepted (length (file b)) refl (ltb-true (length before) (length (file b)) e))
  ends_by false e =
      let is : w ≡ Ok (length (file b)) = emitted.answer ∙ ap (λ (x : Bool). cond x (Err Memory) (Ok (length (file b)))) e in
      rw is
      (file_written b before accepted (length (file b)) refl (ltb-false (length before) (length (file b)) e)
      (emitted.written ∙ ap (λ (x : Bool). cond x before (file b ++ drop (length (file b)) before)) e))

  pub ends_translated : Translated b before (written_number w) (written_length w) after
  ends_translated = ends_by (ltb (length before) (length (file b))) refl

-- masks of the first a action formulas are those of a formulas
pub masks_first : (action : ℕ → Action) (a : ℕ) (masks : List ℕ) → a ≤ length masks → ActionMasks action a masks → ActionMasks action (length (take a masks)) (take a masks)
masks_first action a masks h m =
    let l : length (take a masks) ≡ a = length-take-le a masks h in
    rw l (record { mask = λ j i. get_or-take a masks j 0 i ∙ m.mask j i })

-- Of an accepted case, by its header and its parts:
module _ (b : List ℕ) (accepted : Accepted b) {h : Header} (e : h ≡ header_of b) where
  -- its formula table can be read
  pub table_some : 1 ≤ h.nodes
  table_some = rw e (passed b accepted).lies.counts.some_node

  pub table_few : h.nodes ≤ node_limit
  table_few = rw e (passed b accepted).lies.counts.few_nodes

  pub actions_few : h.actions ≤ action_limit
  actions_few = rw e (passed b accepted).lies.counts.few_actions

  pub table_readable : {formula : List ℕ} {m f : ℕ} → formula ≡ formula_part b → f ≡ h.nodes → h.actions ≡ m → (i : ℕ) → i < f → Readable m f (node_in formula i)
  table_readable p f a = rw (p, f, ← a, e) (of_case.readable b accepted)

  -- and once flags and shapes are worked out
  module _ {formula transitions : List ℕ} {first : List Bool} {shapes : List Shape} {added f m : ℕ} (p : formula ≡ formula_part b) (k : f ≡ h.nodes)
      (t : transitions ≡ transition_part b) (l : m ≡ h.transitions)
      (flags : FirstFlags (transition_part b) h.transitions first) (nodes : HoldsShapes (case_action b) formula f shapes)
      (before : added ≡ cond (is_binder (node_at (nodes_in formula f) 0)) 0 1) where
    -- what the writers are handed
    pub handed : Sources transitions first m (take (added + f) shapes) h.states
    handed =
        rw (t, l, k, e)
        (of_case.sources b accepted first shapes (added + (header_of b).nodes) (rw e at flags) (rw (p, k, e) at nodes) (ap (λ (x : ℕ). x + (header_of b).nodes) (rw (p, k, e) at before)))

    -- what follows from what they leave
    pub left_as : {out : List ℕ} {w : Result ℕ Cause} {after : List ℕ}
        → Emitted (shape_system h.states h.initial (distinct_in transitions first m) (take (added + f) shapes)) out w after
        → Translated b out (written_number w) (written_length w) after
    left_as emitted =
        let is =
        of_case.system_of_lem b accepted first shapes (added + (header_of b).nodes) (rw e at flags) (rw (p, k, e) at nodes) (ap (λ (x : ℕ). x + (header_of b).nodes) (rw (p, k, e) at before)) in
        ends_translated b _ accepted (rw is at (rw (t, l, k, e) at emitted))
