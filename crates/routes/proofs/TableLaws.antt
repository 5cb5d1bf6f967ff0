-- What is worked out once for each node: numbers stored one after the other, and the blocks of the binders.
use mathlib.Core.Path.{◌≡◌, refl, ◌∙◌}
use mathlib.Core.Logic.{◌⊎◌, inl, inr}
use mathlib.Core.Bool.{Bool, true, false, cond}
use mathlib.Core.List.{List, [], ◌∷◌}
use Prim.Native.Nat.{ℕ, zero, suc, ◌+◌, ◌<◌, ◌≤◌}
use native.Mathlib.Nat.{eq-or-lt_of_le}
use native.Mathlib.Numerals.{add-one}
use native.Mathlib.Omega.{arith}
use lib.Dec.{T, ltb→lt}
use mir.Val.{bool_byte}
use lib.ListN.{length, get_or, set, take, length-set}
use lib.Seq.{get_or-set_same, get_or-set_other, take-length}
use Rattle.cases.specs.declared.Node.{Node}
use Rattle.cases.specs.File.{node_in, node_limit}
use Rattle.cases.specs.Conditions.{node_at, node_ok, is_binder, binder_count}
use Rattle.cases.specs.internal.Checks.{nodes_in}
use Rattle.cases.proofs.FormulaRules.{length_nodes}
use Rattle.translate.proofs.ShapeFields.{node_read}
use Rattle.translate.proofs.CaseSources.{nodes_pass}
use Rattle.routes.specs.internal.Parts.{FormulaPart, BinderBlocks}

-- ---- a number for each node

-- The first i numbers are as P says: a loop's invariant.
pub record SetBefore (P : ℕ → ℕ → Type 0) (xs : List ℕ) (i : ℕ) : Type 0 where
  pub long : length xs ≡ node_limit
  pub so_far : (j : ℕ) → j < i → P j (get_or xs j 0)

module _ {P : ℕ → ℕ → Type 0} {xs : List ℕ} where
  -- before the first turn
  pub set_none : length xs ≡ node_limit → SetBefore P xs 0
  set_none l = record { long = l; so_far = λ j h. absurd (omega arith) }

  -- one turn, which stores number i
  pub set_next : {i : ℕ} (x : ℕ) → SetBefore P xs i → i < node_limit → P i x → SetBefore P (set xs i x) (i + 1)
  set_next {i} x s h p = record {
    long = length-set xs i x ∙ s.long;
    so_far = λ j l. go j (eq-or-lt_of_le {n = j} {m = i} (omega arith));
  }
    where
      go : (j : ℕ) → (j ≡ i) ⊎ (j < i) → P j (get_or (set xs i x) j 0)
      go j (inl e) = rw (e, get_or-set_same xs i x 0 (omega (arith, s.long))) p
      go j (inr l) = rw (get_or-set_other xs i j x 0 (λ z. omega arith)) (s.so_far j l)

-- ---- nodes

-- node i of a formula part, as it is read
module _ (part : List ℕ) {f i : ℕ} (h : i < f) {x : Node} (e : x ≡ node_in part i) where
  -- the argument of a box or diamond is an action node
  pub modal_arg : (a : ℕ) → FormulaPart part f a → 4 ≤ x.kind → x.kind ≤ 5 → x.arg < a
  modal_arg a p l m = go (eq-or-lt_of_le {n = 4} {m = x.kind} l)
    where
      ok : T (node_ok a x)
      ok = rw (node_read part f i h x e) at (nodes_pass a (nodes_in part f) p.formed i (rw (length_nodes part f) h))

      go : (4 ≡ x.kind) ⊎ (4 < x.kind) → x.arg < a
      go (inl k) = ltb→lt x.arg a (rw (← k) at ok)
      go (inr k) = let five : 5 ≡ x.kind = omega arith in ltb→lt x.arg a (rw (← five) at ok)

  -- whether it is a binder, as a number
  pub binder_read : (b : Bool) → b ≡ is_binder x → (bool_byte b ≡ cond (is_binder (node_at (nodes_in part f) i)) 1 0) × (bool_byte b ≤ 1)
  binder_read b is = rw (node_read part f i h x e, ← is) (by b)
    where
      by : (b : Bool) → (bool_byte b ≡ cond b 1 0) × (bool_byte b ≤ 1)
      by true = (refl, omega arith)
      by false = (refl, omega arith)

-- ---- blocks

-- the binders before the next node
binders_next : (t : List Node) (i : ℕ) → i < length t → binder_count (take (suc i) t) ≡ binder_count (take i t) + cond (is_binder (node_at t i)) 1 0
unfolding binder_count
binders_next [] i h = absurd (omega arith)
binders_next (x ∷ t) zero h = omega arith
binders_next (x ∷ t) (suc i) h = omega (arith, binders_next t i (omega arith))

-- Before a later node there are more binders than before a binder,
pub more_binders : (t : List Node) (i j : ℕ) → i < j → j ≤ length t → is_binder (node_at t i) ≡ true
    → binder_count (take i t) < binder_count (take j t)
unfolding binder_count
more_binders [] i j l h e = absurd (omega arith)
more_binders (x ∷ t) i zero l h e = absurd (omega arith)
more_binders (x ∷ t) zero (suc j) l h e = rw e (omega arith)
more_binders (x ∷ t) (suc i) (suc j) l h e = omega (arith, more_binders t i j (omega arith) (omega arith) e)

-- so a binder's block is below the number of all binders.
pub binders_before : (t : List Node) (i : ℕ) → i < length t → is_binder (node_at t i) ≡ true → binder_count (take i t) < binder_count t
binders_before t i h e = rw (take-length t) at (more_binders t i (length t) h (omega arith) e)

-- What the loop keeps: the binders before i are counted, and those before each earlier node are stored.
pub record Counted (t : List Node) (xs : List ℕ) (count i : ℕ) : Type 0 where
  pub stored : SetBefore (λ j x. x ≡ binder_count (take j t)) xs i
  pub counts : count ≡ binder_count (take i t)
  pub small : count ≤ i

module _ {t : List Node} {xs : List ℕ} where
  pub counted_none : length xs ≡ node_limit → Counted t xs 0 0
  unfolding binder_count
  counted_none l = record { stored = set_none l; counts = refl; small = omega arith }

  pub counted_next : {count i one : ℕ} → Counted t xs count i → i < length t → i < node_limit → one ≡ cond (is_binder (node_at t i)) 1 0 → one ≤ 1
      → Counted t (set xs i count) (count + one) (i + 1)
  counted_next {count} {i} c h l e low = record {
    stored = set_next count c.stored l c.counts;
    counts = rw (add-one i) (omega (arith, c.counts, binders_next t i h));
    small = omega (arith, c.small);
  }

-- blocks of all nodes
pub blocks_done : (part : List ℕ) (f i : ℕ) {xs : List ℕ} {count : ℕ} → Counted (nodes_in part f) xs count i → f ≤ i → BinderBlocks (nodes_in part f) xs
blocks_done part f i c h = record { block = λ j l _. c.stored.so_far j (omega (arith, length_nodes part f)) }
