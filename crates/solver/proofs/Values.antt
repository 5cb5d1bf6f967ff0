-- The values of cells: they exist, they are one, and they grow with the valuation.
use mathlib.Core.Path.{◌≡◌, refl, sym, ap, ◌∙◌}
use mathlib.Core.Bool.{Bool, true, false}
use mathlib.Core.List.{List, [], ◌∷◌}
use Prim.Native.Nat.{ℕ, zero, suc, ◌+◌, ◌≤◌, ◌<◌}
use native.Mathlib.Omega.{arith}
use borrow.Author.Tests.{eqb-true, eqb-false, ltb-true, ltb-false}
use lib.Dec.{T, eqb, ltb, ltb→lt}
use lib.ListN.{length, get_or, take, drop, set, replicate, length-set, length-replicate, length-drop, get_or-eq_default}
use lib.Seq.{take-nil, length-take-le, get_or-drop, get_or-set_same, get_or-set_other, ext_get_or}
use Rattle.sets.specs.Lists.{every}
use Rattle.sets.specs.States.{States, has, Subset, Valuation}
use Rattle.sets.proofs.Lists.{Kept, kept_equal, kept_implies, all_kept, any_kept}
use Rattle.solver.specs.Cells.{Cell, And, Or, Variable, operands_of, value, Values, part}
use Rattle.solver.specs.computed.Solved.{work_out, evaluate}
use Rattle.solver.specs.internal.Forms.{Ordered}
use Rattle.solver.specs.Solution.{RightSides}

-- A relation that and and or keep goes from the sets and the values above cell i to the value of cell i.
module _ {R : Bool → Bool → Type 0} (kept : Kept R) (ρ σ : Valuation) (sets : (k s : ℕ) → R (has (ρ k) s) (has (σ k) s)) where
  pub value_kept : (i : ℕ) (vs ws : List Bool) → ((o : ℕ) → i < o → R (get_or vs o false) (get_or ws o false))
      → (c : Cell) → T (every (ltb i) (operands_of c)) → R (value ρ vs c) (value σ ws c)
  unfolding operands_of value
  value_kept i vs ws above (And os) t =
      all_kept kept (ltb i) (λ o. get_or vs o false) (λ o. get_or ws o false) (λ o h. above o (ltb→lt i o h)) os t
  value_kept i vs ws above (Or os) t =
      any_kept kept (ltb i) (λ o. get_or vs o false) (λ o. get_or ws o false) (λ o h. above o (ltb→lt i o h)) os t
  value_kept i vs ws above (Variable k s) t = sets k s

  -- So it holds of all values, from the last cell down.
  module _ (cs : List Cell) (ordered : Ordered cs) (vs ws : List Bool) (v : Values cs ρ vs) (w : Values cs σ ws) where
    -- above the last cell both values are false
    out : (i : ℕ) → length cs ≤ i → R (get_or vs i false) (get_or ws i false)
    out i h = rw (get_or-eq_default vs false {n = i} (omega (arith, v.sized)), get_or-eq_default ws false {n = i} (omega (arith, w.sized))) kept.no

    -- at cell i, where at most m cells are left
    values_from : (m i : ℕ) → length cs ≤ i + m → R (get_or vs i false) (get_or ws i false)
    unfolding Ordered
    values_from zero i h = out i (omega arith)
    values_from (suc m) i h = go (ltb i (length cs)) refl (λ o g. values_from m o (omega arith))
      where
        go : (b : Bool) → ltb i (length cs) ≡ b → ((o : ℕ) → i < o → R (get_or vs o false) (get_or ws o false)) → R (get_or vs i false) (get_or ws i false)
        go true e above =
            let g : i < length cs = ltb-true i (length cs) e in
            rw (v.rule i g, w.rule i g) (value_kept i vs ws above (get_or cs i (And [])) (ordered i g))
        go false e above = out i (ltb-false i (length cs) e)

    pub values_kept : (i : ℕ) → R (get_or vs i false) (get_or ws i false)
    values_kept i = values_from (length cs) i (omega arith)

module _ (cs : List Cell) (ordered : Ordered cs) (ρ : Valuation) where
  -- Where the cells from i on have the values of their rules, working out the rest gives values.
  pub work_out_values : (i : ℕ) (vs : List Bool) → i ≤ length cs → length vs ≡ length cs
      → ((j : ℕ) → i ≤ j → j < length cs → get_or vs j false ≡ value ρ vs (get_or cs j (And []))) → Values cs ρ (work_out cs ρ i vs)
  unfolding work_out Ordered
  work_out_values zero vs h l known = record { sized = l; rule = λ j g. known j (omega arith) g }
  work_out_values (suc i) vs h l known = work_out_values i ws (omega arith) (length-set vs i x ∙ l) (λ j a g. at j a g (eqb j i) refl)
    where
      x : Bool
      x = value ρ vs (get_or cs i (And []))

      ws : List Bool
      ws = set vs i x

      -- the store at i changes no rule from i on
      kept : (j : ℕ) → i ≤ j → j < length cs → value ρ vs (get_or cs j (And [])) ≡ value ρ ws (get_or cs j (And []))
      kept j a g = value_kept kept_equal ρ ρ (λ k s. refl) j vs ws (λ o b. sym (get_or-set_other vs i o x false (λ e. omega arith))) (get_or cs j (And [])) (ordered j g)

      -- cell i has its value now, and the cells above keep theirs
      at : (j : ℕ) → i ≤ j → j < length cs → (b : Bool) → eqb j i ≡ b → get_or ws j false ≡ value ρ ws (get_or cs j (And []))
      at j a g true e =
          let q : j ≡ i = eqb-true j i e in
          rw q (get_or-set_same vs i x false (omega arith) ∙ kept i (omega arith) (omega arith))
      at j a g false e =
          let d = eqb-false j i e in
          get_or-set_other vs i j x false d ∙ known j (omega (arith, d)) g ∙ kept j a g

  -- What is worked out are values.
  pub evaluate_values : Values cs ρ (evaluate cs ρ)
  unfolding evaluate
  evaluate_values = work_out_values (length cs) (replicate (length cs) false) (omega arith) (length-replicate (length cs) false) (λ j a g. absurd (omega arith))

  -- There are no others.
  pub values_one : (vs ws : List Bool) → Values cs ρ vs → Values cs ρ ws → vs ≡ ws
  values_one vs ws v w = ext_get_or false vs ws (v.sized ∙ sym w.sized) (λ i h. values_kept kept_equal ρ ρ (λ k s. refl) cs ordered vs ws v w i)

  -- The right-hand sides of a block are a part of what is worked out.
  pub sides_part : {n b : ℕ} {v : States} → RightSides n cs b ρ v → v ≡ part n b (evaluate cs ρ)
  sides_part {n} {b} s = s.are ∙ ap (λ (vs : List Bool). part n b vs) (values_one s.values (evaluate cs ρ) s.each evaluate_values)

  -- and the other way
  pub part_sides : {n b : ℕ} {v : States} → v ≡ part n b (evaluate cs ρ) → RightSides n cs b ρ v
  part_sides e = record { values = evaluate cs ρ; each = evaluate_values; are = e }

-- One valuation gives one set of right-hand sides.
pub sides_one : (cs : List Cell) → Ordered cs → {n b : ℕ} {σ τ : Valuation} {v w : States} → RightSides n cs b σ v → RightSides n cs b τ w → σ ≡ τ → v ≡ w
sides_one cs ordered {n} {b} {σ} {τ} s t e =
    sides_part cs ordered σ s ∙ ap (λ (ρ : Valuation). part n b (evaluate cs ρ)) e ∙ sym (sides_part cs ordered τ t)

-- Values grow with the valuation.
pub evaluate_mono : (cs : List Cell) → Ordered cs → (ρ σ : Valuation) → ((k : ℕ) → Subset (ρ k) (σ k)) → Subset (evaluate cs ρ) (evaluate cs σ)
evaluate_mono cs ordered ρ σ h =
    values_kept kept_implies ρ σ h cs ordered (evaluate cs ρ) (evaluate cs σ) (evaluate_values cs ordered ρ) (evaluate_values cs ordered σ)

-- A part of n values has n values.
pub length_part : (n b : ℕ) (vs : List Bool) → b + n ≤ length vs → length (part n b vs) ≡ n
length_part n b vs h = length-take-le n (drop b vs) (simp length-drop (omega arith))

-- A part grows with the whole.
take_mono : (n : ℕ) (vs ws : List Bool) → Subset vs ws → Subset (take n vs) (take n ws)
take_mono zero vs ws h s t = absurd t
take_mono (suc n) [] ws h s t = absurd t
take_mono (suc n) (v ∷ vs) [] h zero t = h 0 t
take_mono (suc n) (v ∷ vs) [] h (suc s) t = rw (take-nil n) at (take_mono n vs [] (λ r. h (suc r)) s t)
take_mono (suc n) (v ∷ vs) (w ∷ ws) h zero t = h 0 t
take_mono (suc n) (v ∷ vs) (w ∷ ws) h (suc s) t = take_mono n vs ws (λ r. h (suc r)) s t

pub part_mono : (n b : ℕ) (vs ws : List Bool) → Subset vs ws → Subset (part n b vs) (part n b ws)
part_mono n b vs ws h = take_mono n (drop b vs) (drop b ws) (λ s. rw (get_or-drop b vs s false, get_or-drop b ws s false) (h (b + s)))
