-- A search through a list of operands, one by one.
use mathlib.Core.Path.{◌≡◌, refl, sym, ◌∙◌}
use mathlib.Core.Bool.{Bool, true, false}
use mathlib.Core.List.{List, ◌∷◌}
use Prim.Native.Nat.{ℕ, ◌+◌, ◌<◌, ◌≤◌}
use native.Mathlib.Omega.{arith}
use borrow.Author.Tests.{eq-eqb, ne_eqb}
use lib.Dec.{eqb}
use lib.ListN.{length, get_or, drop}
use Rattle.sets.specs.Lists.{for_some}
use Rattle.sets.proofs.Lists.{loop_ends, loop_next}
use Rattle.solver.specs.File.{operands, list_of}
use Rattle.solver.specs.internal.Working.{Ready, ListAt}
use Rattle.solver.proofs.Tables.{operand_at, operand_at_lem, length_list, list_at}

-- whether one of the operands from operand j on has the value wanted
abbrev pub found : List ℕ → ℕ → ℕ → List ℕ → ℕ → ℕ → Bool
found e from count work wanted j = for_some (λ o. eqb (get_or work o 0) wanted) (drop j (list_of (operands e) from count))

module _ {e work : List ℕ} (r : Ready e work) {from count : ℕ} (l : ListAt e from count) {j : ℕ} where
  -- operand j is a cell
  pub operand_low : {o : ℕ} → j < count → o ≡ operand_at e (from + j) → o < length work
  operand_low h is = omega (arith, l.below j h, operand_at_lem e (from + j) (omega (arith, l.fits)), r.room)

  module _ (wanted : ℕ) (left : found e from count work wanted 0 ≡ found e from count work wanted j) where
    -- none is left
    pub search_ends : count ≤ j → false ≡ found e from count work wanted 0
    unfolding for_some
    search_ends h = sym (loop_ends (for_some (λ o. eqb (get_or work o 0) wanted)) _ j left (omega (arith, length_list e from count l.fits)))

    -- o is operand j
    module _ {o : ℕ} (h : j < count) (is : o ≡ operand_at e (from + j)) where
      next : found e from count work wanted 0 ≡ for_some (λ o. eqb (get_or work o 0) wanted) (o ∷ drop (j + 1) (list_of (operands e) from count))
      next = loop_next (for_some (λ o. eqb (get_or work o 0) wanted)) _ j left 0 o (omega (arith, length_list e from count l.fits)) (list_at e from count l.fits j h ∙ sym is)

      pub hit : get_or work o 0 ≡ wanted → true ≡ found e from count work wanted 0
      unfolding for_some
      hit v = sym (next ∙ rw (eq-eqb _ _ v) refl)

      pub miss : ¬ (get_or work o 0 ≡ wanted) → found e from count work wanted 0 ≡ found e from count work wanted (j + 1)
      unfolding for_some
      miss v = next ∙ rw (ne_eqb _ _ v) refl
