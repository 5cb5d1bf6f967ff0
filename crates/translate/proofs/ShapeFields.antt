-- The fields of a shape as they are read from the tables, and the shapes of all nodes one after another.
use mathlib.Core.Path.{◌≡◌, refl, sym, ap, subst, ◌∙◌}
use mathlib.Core.Bool.{Bool, true, false, cond, not}
use mathlib.Core.List.{List, [], ◌∷◌, ◌++◌, map, append_assoc}
use Prim.Native.Nat.{ℕ, zero, suc, ◌+◌, ◌<◌, ◌≤◌}
use native.Mathlib.Omega.{arith}
use lib.ListN.{length, take, drop, set, replicate, length-append, length-replicate, length-set, length-map, length-drop}
use lib.Seq.{take-suc-set}
use mir.Val.{bool_byte}
use Rattle.sets.specs.Lists.{numbers_from}
use Rattle.sets.proofs.Lists.{length_table}
use Rattle.cases.specs.Action.{Action}
use Rattle.cases.specs.declared.Node.{Node}
use Rattle.cases.specs.declared.FormulaKind.{FormulaKind}
use Rattle.cases.specs.internal.Kinds.{formula_number}
use Rattle.cases.specs.Prefix.{arity_in, formula_arities, end_of}
use Rattle.cases.specs.File.{node_in, node_limit}
use Rattle.cases.specs.internal.Masks.{mask_of}
use Rattle.cases.specs.Conditions.{node_at, is_binder, binder_count}
use Rattle.cases.specs.internal.Checks.{nodes_in}
use Rattle.cases.proofs.FormulaRules.{length_nodes}
use Rattle.cases.proofs.Copies.{take_map_range}
use Rattle.cases.proofs.Spans.{span_length}
use Rattle.cases.proofs.PrefixRules.{node_in_lem}
use Rattle.translate.specs.declared.Shape.{Shape}
use Rattle.translate.specs.internal.Readable.{Readable}
use Rattle.translate.specs.internal.Shapes.{shape_by, shape_in, table_shapes}
use Rattle.translate.proofs.ShapeLaws.{map_range_more}

-- the first j nodes of a part's f nodes
pub take_nodes : (part : List ℕ) (j f : ℕ) → j ≤ f → take j (nodes_in part f) ≡ nodes_in part j
unfolding nodes_in
take_nodes part j f h = take_map_range (node_in part) 0 j f h

-- a subtree that starts within the table ends within it
pub end_small : (part : List ℕ) (f i : ℕ) → i ≤ f → end_of (map (arity_in formula_arities) (nodes_in part f)) i ≤ f
end_small part f i h =
    let ks : List ℕ = map (arity_in formula_arities) (nodes_in part f) in
    omega (arith, span_length 1 (drop i ks), length-drop i ks, length-map (nodes_in part f) (arity_in formula_arities), length_nodes part f)

-- a node that is read can be read into a shape
pub readable_here : {m f : ℕ} {x y : Node} → x ≡ y → Readable m f y → Readable m f x
readable_here {m} {f} e r = subst (Readable m f) (sym e) r

-- node i of a part, as it is read
module _ (part : List ℕ) (f i : ℕ) (h : i < f) (x : Node) (e : x ≡ node_in part i) where
  pub node_read : node_at (nodes_in part f) i ≡ x
  node_read = node_in_lem part f i (record { kind = 0; arg = 0 }) h ∙ sym e

  -- the shape of node i by its kind
  pub shape_read : (action : ℕ → Action) (added : ℕ) {kind k : FormulaKind} → formula_number kind ≡ x.kind → kind ≡ k
      → shape_by (end_of (map (arity_in formula_arities) (nodes_in part f)) (i + 1) + added) (mask_of (action x.arg))
      (binder_count (take x.arg (nodes_in part f)) + added) (binder_count (take i (nodes_in part f)) + added) (formula_number k)
      ≡ shape_in action (nodes_in part f) added i
  unfolding shape_in
  shape_read action added n is = rw (node_read, ← n, is)

-- ---- the shapes of all nodes

-- a nu is put before a root that is no binder
pub root_added : (part : List ℕ) (f : ℕ) → 0 < f → (x : Node) → x ≡ node_in part 0 → (b : Bool) → b ≡ is_binder x
    → ◌≡◌ {A = ℕ} (bool_byte (not b)) (cond (is_binder (node_at (nodes_in part f) 0)) 0 1)
root_added part f h x e b p = rw (node_read part f 0 h x e) (go b p)
  where
    go : (b : Bool) → b ≡ is_binder x → ◌≡◌ {A = ℕ} (bool_byte (not b)) (cond (is_binder x) 0 1)
    go true p = rw (sym p)
    go false p = rw (sym p)

-- which is one node at most
pub added_small : (b : Bool) {added : ℕ} → added ≡ cond b 0 1 → added ≤ 1
added_small true e = omega (arith, e)
added_small false e = omega (arith, e)

-- the nu that is put before a root
abbrev pub nu : Shape
nu = Shape.Nu 0

module _ (action : ℕ → Action) (table : List Node) (added : ℕ) where
  -- the nodes that are put before the root, and the first i nodes
  unfoldable pub shapes_to : ℕ → List Shape
  shapes_to i = replicate added nu ++ map (shape_in action table added) (numbers_from 0 i)

  -- all of them
  pub all_shapes : added ≡ cond (is_binder (node_at table 0)) 0 1 → shapes_to (length table) ≡ table_shapes action table
  unfolding shapes_to table_shapes
  all_shapes = go (is_binder (node_at table 0))
    where
      go : (b : Bool) → added ≡ cond b 0 1
          → replicate added nu ++ map (shape_in action table added) (numbers_from 0 (length table))
          ≡ cond b (map (shape_in action table 0) (numbers_from 0 (length table))) (nu ∷ map (shape_in action table 1) (numbers_from 0 (length table)))
      go true e = rw e
      go false e = rw e

  length_shapes : (i : ℕ) → length (shapes_to i) ≡ added + i
  unfolding shapes_to
  length_shapes i = rw (length-append, length-replicate, length_table (shape_in action table added) i)

  -- What the loop keeps: the array starts with the shapes of the first i nodes.
  pub record ShapesBefore (i : ℕ) (shapes : List Shape) : Type 0 where
    pub within : i ≤ length table
    pub long : length shapes ≡ node_limit + 1
    pub starts : take (added + i) shapes ≡ shapes_to i

  pub shapes_none : added ≤ 1 → ShapesBefore 0 (replicate (node_limit + 1) nu)
  unfolding shapes_to numbers_from
  shapes_none h = record { within = omega arith; long = refl; starts = go added h }
    where
      go : (k : ℕ) → k ≤ 1 → take (k + 0) (replicate (node_limit + 1) nu) ≡ replicate k nu ++ []
      go zero l = refl
      go (suc zero) l = refl
      go (suc (suc k)) l = absurd (omega arith)

  pub shapes_next : (i : ℕ) (shapes : List Shape) (x : Shape) → ShapesBefore i shapes → i < length table → added + length table ≤ node_limit + 1
      → x ≡ shape_in action table added i → ShapesBefore (i + 1) (set shapes (added + i) x)
  unfolding shapes_to
  shapes_next i shapes x s h l e =
      let inside : added + i < length shapes = omega (arith, s.long) in
      let next : added + (i + 1) ≡ suc (added + i) = omega arith in
      record {
        within = omega arith;
        long = length-set shapes (added + i) x ∙ s.long;
        starts =
            ap (λ (k : ℕ). take k (set shapes (added + i) x)) next
            ∙ take-suc-set shapes (added + i) x inside
            ∙ ap (λ (l : List Shape). l ++ (x ∷ [])) s.starts
            ∙ append_assoc (replicate added nu) (map (shape_in action table added) (numbers_from 0 i)) (x ∷ [])
            ∙ ap (λ (y : Shape). replicate added nu ++ (map (shape_in action table added) (numbers_from 0 i) ++ (y ∷ []))) e
            ∙ ap (λ (l : List Shape). replicate added nu ++ l) (sym (map_range_more (shape_in action table added) i));
      }

  pub shapes_done : (shapes : List Shape) (i : ℕ) → i ≡ length table → added ≡ cond (is_binder (node_at table 0)) 0 1 → ShapesBefore i shapes
      → take (length (table_shapes action table)) shapes ≡ table_shapes action table
  shapes_done shapes i e a s =
      let made : shapes_to i ≡ table_shapes action table = rw e (all_shapes a) in
      rw (← made, length_shapes i) s.starts
