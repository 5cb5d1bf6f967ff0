-- Operands due, node by node: loops over the nodes of a part.
use mathlib.Core.Path.{◌≡◌, refl, sym, ap, ◌∙◌}
use mathlib.Core.Bool.{Bool, true, false}
use Rattle.std.specs.Prelude.{max, Option, Some, None, unwrap_or}
use Rattle.std.specs.Option.{option_eq}
use Rattle.std.specs.Bool.{then_some}
use borrow.Author.Tests.{eq-eqb, eqb-true}
use mathlib.Core.List.{List, [], ◌∷◌, map}
use Prim.Native.Nat.{ℕ, zero, suc, ◌+◌, ◌-◌, ◌≤◌, ◌<◌}
use native.Mathlib.Nat.{zero-add}
use native.Mathlib.Omega.{arith}
use lib.Dec.{eqb}
use lib.ListN.{length, get_or, drop, length-map}
use Rattle.sets.specs.Lists.{numbers_from}
use Rattle.sets.proofs.Lists.{get_or_map_range, drop_map, length_map_range}
use Rattle.cases.specs.Prefix.{Node, arity_in, whole_formulas, exactly, span, end_of}
use Rattle.cases.specs.File.{node_in}
use Rattle.cases.specs.internal.Checks.{nodes_in, WholeSubtree}
use Rattle.cases.proofs.Checking.{range_done, range_next}

-- ---- one node

-- the node that is due stands for one, and its operands become due
whole_step : (due k : ℕ) (ks : List ℕ) → whole_formulas due (k ∷ ks) ≡ whole_formulas (due - 1 + k) ks
unfolding whole_formulas
whole_step zero k ks = let e : k ≡ 0 - 1 + k = omega arith in ap (λ (n : ℕ). whole_formulas n ks) e
whole_step (suc due) k ks = let e : due + k ≡ suc due - 1 + k = omega arith in ap (λ (n : ℕ). whole_formulas n ks) e

due_step :
    (due k : ℕ) (ks : List ℕ) → ¬ (due ≡ 0)
    → (span due (k ∷ ks) ≡ suc (span (due - 1 + k) ks)) × (exactly due (k ∷ ks) ≡ exactly (due - 1 + k) ks)
unfolding span exactly
due_step zero k ks d = absurd (d refl)
due_step (suc due) k ks d = let e : due + k ≡ suc due - 1 + k = omega arith in (ap (λ (n : ℕ). suc (span n ks)) e, ap (λ (n : ℕ). exactly n ks) e)

-- ---- the loops

-- a node of a part, as an element of its table
pub node_in_lem : (part : List ℕ) (k i : ℕ) (d : Node) → i < k → get_or (nodes_in part k) i d ≡ node_in part i
unfolding nodes_in
node_in_lem part k i d h = get_or_map_range (node_in part) 0 k i d h ∙ ap (node_in part) (zero-add i)

-- the nodes of a part from node i on, and their arities
abbrev pub nodes_from : List ℕ → ℕ → ℕ → List Node
nodes_from part k i = map (node_in part) (drop i (numbers_from 0 k))

abbrev pub arities_from : List ℕ → List ℕ → ℕ → ℕ → List ℕ
arities_from kinds part k i = map (arity_in kinds) (nodes_from part k i)

-- those from a node on
pub from_node : (kinds part : List ℕ) (k i : ℕ) → drop i (map (arity_in kinds) (nodes_in part k)) ≡ arities_from kinds part k i
unfolding nodes_in
from_node kinds part k i = drop_map (arity_in kinds) (map (node_in part) (numbers_from 0 k)) i ∙ ap (map (arity_in kinds)) (drop_map (node_in part) (numbers_from 0 k) i)

-- how many there are
pub arities_length : (kinds part : List ℕ) (k : ℕ) → length (map (arity_in kinds) (nodes_in part k)) ≡ k
unfolding nodes_in
arities_length kinds part k = length-map (map (node_in part) (numbers_from 0 k)) (arity_in kinds) ∙ length_map_range (node_in part) 0 k

module _ (kinds part : List ℕ) (k i : ℕ) where
  -- no node is left
  none_left : k ≤ i → arities_from kinds part k i ≡ []
  none_left h = ap (λ (is : List ℕ). map (arity_in kinds) (map (node_in part) is)) (range_done k i h)

  -- the next node has a operands
  one_left : (x : Node) (a : ℕ) → i < k → x ≡ node_in part i → a ≡ arity_in kinds x → arities_from kinds part k i ≡ a ∷ arities_from kinds part k (i + 1)
  one_left x a h is n =
      ap (λ (is : List ℕ). map (arity_in kinds) (map (node_in part) is)) (range_next k i h)
      ∙ ap (λ (o : ℕ). o ∷ arities_from kinds part k (i + 1)) (sym (n ∙ ap (arity_in kinds) is))

  -- whole formulas
  pub whole_done : (due : ℕ) → k ≤ i → whole_formulas due (arities_from kinds part k i) ≡ eqb due 0
  unfolding whole_formulas
  whole_done due h = ap (whole_formulas due) (none_left h)

  pub whole_next :
      (due : ℕ) (x : Node) (a : ℕ) → i < k → x ≡ node_in part i → a ≡ arity_in kinds x
      → whole_formulas due (arities_from kinds part k i) ≡ whole_formulas (due - 1 + a) (arities_from kinds part k (i + 1))
  whole_next due x a h is n = ap (whole_formulas due) (one_left x a h is n) ∙ whole_step due a _

  -- so many formulas: how far they go, and whether no node is after them
  pub due_done : (due : ℕ) → k ≤ i → (span due (arities_from kinds part k i) ≡ 0) × (exactly due (arities_from kinds part k i) ≡ eqb due 0)
  unfolding span exactly
  due_done due h = rw (none_left h) (refl, refl)

  pub due_none : (due : ℕ) → due ≡ 0 → i < k → (span due (arities_from kinds part k i) ≡ 0) × (exactly due (arities_from kinds part k i) ≡ false)
  unfolding span exactly
  due_none due z h = rw (z, one_left (node_in part i) _ h refl refl) (refl, refl)

  pub due_next :
      (due : ℕ) (x : Node) (a : ℕ) → ¬ (due ≡ 0) → i < k → x ≡ node_in part i → a ≡ arity_in kinds x
      → (span due (arities_from kinds part k i) ≡ suc (span (due - 1 + a) (arities_from kinds part k (i + 1))))
      × (exactly due (arities_from kinds part k i) ≡ exactly (due - 1 + a) (arities_from kinds part k (i + 1)))
  due_next due x a d h is n = rw (one_left x a h is n) (due_step due a _ d)

-- an answer by whether none is due
pub ended : (ks : List ℕ) (i due end : ℕ) → exactly 1 (drop i ks) ≡ eqb due 0 → (due ≡ 0 → (end ≡ length ks) × (end_of ks i ≡ end)) → end_of ks i ≡ max i (length ks)
    → WholeSubtree ks i (then_some (eqb due 0) end)
ended ks i due end w z m = go (eqb due 0) refl
  where
    go : (t : Bool) → eqb due 0 ≡ t → WholeSubtree ks i (then_some (eqb due 0) end)
    go true e = let f = z (eqb-true due 0 e) in rw e (w ∙ e ∙ sym (eq-eqb _ _ f.0), f.1)
    go false e = rw e (w ∙ e, m)

-- the end that an answer gives, or m where it gives none
pub end_known : (ks : List ℕ) (i m : ℕ) (o : Option ℕ) → WholeSubtree ks i o → m ≡ max i (length ks) → unwrap_or o m ≡ end_of ks i
end_known ks i m None h e = e ∙ sym h.1
end_known ks i m (Some x) h e = sym h.1

-- whether the end that an answer gives is the table's
pub whole_is : (ks : List ℕ) (n : ℕ) (o : Option ℕ) → WholeSubtree ks 0 o → length ks ≡ n → option_eq eqb o (Some n) ≡ exactly 1 ks
whole_is ks n None h e = sym h.0
whole_is ks n (Some x) h e = ap (eqb x) (sym e) ∙ sym h.0
