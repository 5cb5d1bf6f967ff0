-- A formula's set where each binder and variable has the set of its block; the cells of a formula have it for values.
use mathlib.Core.Path.{◌≡◌, refl, sym, ap, ap₂, ◌∙◌}
use mathlib.Core.Bool.{Bool, true, false, cond, not, ◌&&◌, ◌||◌, and-true, or-false}
use mathlib.Core.List.{List, [], ◌∷◌, map}
use Prim.Native.Nat.{ℕ, ◌+◌, ◌*◌, ◌≤◌, ◌<◌}
use native.Mathlib.Nat.{add-mul, one-mul, mul-le-mul_right}
use native.Mathlib.Omega.{arith}
use lib.Arith.{digits_lt}
use lib.Dec.{T, ltb, ltb→lt}
use lib.ListN.{length, get_or, drop, replicate, get_or-replicate}
use lib.Seq.{get_or-take, get_or-drop, ext_get_or}
use Rattle.sets.specs.Lists.{every, for_some, keep}
use Rattle.sets.specs.States.{States, has, Valuation}
use Rattle.sets.proofs.Lists.{table_at, all_of_kept, kept_equal, all_kept, any_kept}
use Rattle.solver.specs.Cells.{Cell, value, Values, part}
use Rattle.solver.specs.computed.Solved.{evaluate}
use Rattle.solver.proofs.Values.{evaluate_values, length_part}
use Rattle.cases.specs.Formula.{Formula, False, True, And, Or, Box, Diamond, Variable, Fix, nodes, Stands}
use Rattle.cases.specs.declared.Transition.{Transition}
use Rattle.cases.specs.Meaning.{set_of, from, box_in, diamond_in}
use Rattle.cases.proofs.Checking.{all_map}
use Rattle.translate.specs.Cells.{targets, cell_of, cells_from}
use Rattle.translate.proofs.Unfold.{and_operands, or_operands, box_operand, diamond_operand, length_cells, cell_at_lem, cells_ordered}

-- n states, the transitions, and the block of each binder
module _ (n : ℕ) (ts : List Transition) (block : ℕ → ℕ) where
  -- the set of a formula down to its binders and variables, which have the sets of their blocks
  unfoldable pub shallow : Formula → Valuation → States
  shallow False σ = replicate n false
  shallow True σ = replicate n true
  shallow (And a b) σ = set_of n (λ s. has (shallow a σ) s && has (shallow b σ) s)
  shallow (Or a b) σ = set_of n (λ s. has (shallow a σ) s || has (shallow b σ) s)
  shallow (Box α a) σ = set_of n (box_in n ts α (shallow a σ))
  shallow (Diamond α a) σ = set_of n (diamond_in n ts α (shallow a σ))
  shallow (Variable i) σ = σ (block i)
  shallow (Fix sign i a) σ = σ (block i)

-- all and any of what is made of the elements that are kept
all_picked : {A : Type 0} (q : A → Bool) (f : A → ℕ) (u : ℕ → Bool) (xs : List A) → every u (map f (keep q xs)) ≡ every (λ x. not (q x) || u (f x)) xs
all_picked q f u xs = all_map u f (keep q xs) ∙ all_of_kept (λ x. u (f x)) q xs

any_picked : {A : Type 0} (q : A → Bool) (f : A → ℕ) (u : ℕ → Bool) (xs : List A) → for_some u (map f (keep q xs)) ≡ for_some (λ x. q x && u (f x)) xs
unfolding for_some keep
any_picked q f u [] = refl
any_picked q f u (x ∷ xs) = go (q x) (any_picked q f u xs)
  where
    go : (b : Bool) → for_some u (map f (keep q xs)) ≡ for_some (λ y. q y && u (f y)) xs
        → for_some u (map f (cond b (x ∷ keep q xs) (keep q xs))) ≡ ((b && u (f x)) || for_some (λ y. q y && u (f y)) xs)
    go true e = ap (λ b. u (f x) || b) e
    go false e = e

-- The formula a stands at node 0, and cs are its cells.
module _ (n : ℕ) (states : 0 < n) (ts : List Transition) (low : T (every (λ t. ltb t.target n) ts)) (block : ℕ → ℕ) (a : Formula)
    (σ : Valuation) where
  abbrev cs : List Cell
  cs = cells_from n ts block a 0

  abbrev set : Formula → States
  set x = shallow n ts block x σ

  module _ (vs : List Bool) (values : Values cs σ vs) where
    -- the cell of a node has the value of its rule
    own : {i : ℕ} {x : Formula} → Stands a i x → (s : ℕ) → s < n → get_or vs (i * n + s) false ≡ value σ vs (cell_of n ts block x i s)
    own {i} (h, e) s g =
        values.rule (i * n + s) (rw (length_cells n ts block a) (digits_lt h g))
        ∙ ap (value σ vs) (cell_at_lem n ts block a i s h g ∙ ap (λ (x : Formula). cell_of n ts block x i s) e)

    -- Cell i * n + s says whether state s is in the set of the formula at node i.
    node_value : (x : Formula) {i : ℕ} → Stands a i x → (s : ℕ) → s < n → get_or vs (i * n + s) false ≡ has (set x) s
    unfolding shallow cell_of targets value every for_some
    node_value False h s g = own h s g ∙ sym (get_or-replicate n s false false g)
    node_value True h s g = own h s g ∙ sym (get_or-replicate n s true false g)
    node_value (And x y) h s g =
        let (p, q) = and_operands a h in
        own h s g
        ∙ ap₂ ◌&&◌ (node_value x p s g) (and-true _ ∙ node_value y q s g)
        ∙ sym (table_at (λ r. has (set x) r && has (set y) r) n s false g)
    node_value (Or x y) h s g =
        let (p, q) = or_operands a h in
        own h s g
        ∙ ap₂ ◌||◌ (node_value x p s g) (or-false _ ∙ node_value y q s g)
        ∙ sym (table_at (λ r. has (set x) r || has (set y) r) n s false g)
    node_value (Box α x) {i} h s g =
        own h s g
        ∙ all_picked (from s α) (λ t. (i + 1) * n + t.target) (λ o. get_or vs o false) ts
        ∙ all_kept kept_equal (λ t. ltb t.target n) _ _
        (λ t l. ap (λ b. not (from s α t) || b) (node_value x (box_operand a h) t.target (ltb→lt _ _ l))) ts low
        ∙ sym (table_at (box_in n ts α (set x)) n s false g)
    node_value (Diamond α x) {i} h s g =
        own h s g
        ∙ any_picked (from s α) (λ t. (i + 1) * n + t.target) (λ o. get_or vs o false) ts
        ∙ any_kept kept_equal (λ t. ltb t.target n) _ _
        (λ t l. ap (λ b. from s α t && b) (node_value x (diamond_operand a h) t.target (ltb→lt _ _ l))) ts low
        ∙ sym (table_at (diamond_in n ts α (set x)) n s false g)
    node_value (Variable j) h s g = own h s g
    node_value (Fix sign j x) h s g = own h s g

  -- The values of the n cells of node i are the set of the formula there.
  pub node_set : (x : Formula) {i : ℕ} → Stands a i x → length (set x) ≡ n → part n (i * n) (evaluate cs σ) ≡ set x
  node_set x {i} h o = ext_get_or false (part n (i * n) vs) (set x) (long ∙ sym o) (λ s g. at s (rw long at g))
    where
      vs : List Bool
      vs = evaluate cs σ

      values : Values cs σ vs
      values = evaluate_values cs (cells_ordered n states ts low block a) σ

      long : length (part n (i * n) vs) ≡ n
      long =
          let rows : i * n + n ≤ nodes a * n =
          rw (add-mul i 1 n, one-mul n) at (mul-le-mul_right {m = i + 1} {n = nodes a} n (omega (arith, h.0))) in
          length_part n (i * n) vs (omega (arith, values.sized, length_cells n ts block a))

      at : (s : ℕ) → s < n → get_or (part n (i * n) vs) s false ≡ has (set x) s
      at s g = get_or-take n (drop (i * n) vs) s false g ∙ get_or-drop (i * n) vs s false ∙ node_value vs values x h s g
