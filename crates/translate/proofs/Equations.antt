-- The blocks of a formula are the equations of the table, and recorded copies of a transition are one transition.
use mathlib.Core.Path.{◌≡◌, refl, ap, ◌∙◌}
use mathlib.Core.Bool.{Bool, true, false, cond, ◌&&◌}
use mathlib.Core.List.{List, [], ◌∷◌, ◌++◌, map, map-append}
use Prim.Native.Nat.{ℕ, zero, suc, ◌+◌, ◌*◌, ◌≤◌, ◌<◌}
use native.Mathlib.Nat.{zero-add, add-zero, add-mul, one-mul, mul-le-mul_right}
use native.Mathlib.Omega.{arith}
use borrow.Author.Tests.{eq-eqb, ne_eqb}
use lib.Dec.{T, eqb, ltb, ltb→lt, lt→ltb}
use lib.ListN.{length, get_or, length-append, get_or-append}
use lib.Seq.{get_or-append-add}
use Rattle.sets.specs.Lists.{every}
use Rattle.sets.proofs.Lists.{and_left, and_right, and_both, all_at}
use Rattle.solver.specs.File.{Block}
use Rattle.cases.specs.Formula.{Formula, False, True, And, Or, Box, Diamond, Variable, Fix, nodes, subformulas, Stands}
use Rattle.cases.specs.declared.Transition.{Transition}
use Rattle.cases.specs.Case.{copies, distinct}
use Rattle.cases.proofs.Distinct.{copy_none}
use Rattle.translate.specs.Whole.{raise, binds_first, whole, binder_nodes, index_in, block_in}
use Rattle.translate.specs.Tables.{Constant, RHS, Equation, E}
use Rattle.translate.specs.Unfolding.{Plain, Unfolding, Agree}
use Rattle.translate.specs.Cells.{cells_from, blocks_from}
use Rattle.translate.proofs.Unfold.{length_subformulas, by_parts, fix_operand, length_cells, unfolded_RHS}

-- n states, the distinct transitions, the block of each binder, and what stands for an element past the end of a list
module _ (n : ℕ) (ts : List Transition) (block : ℕ → ℕ) (b₀ : Block) (e₀ : Equation ts block) where
  -- b and e are block and equation of a binder among the formulas fs, which stand from node k on; the binder's number is `name`
  record Binder (k : ℕ) (fs : List Formula) (b : Block) (e : Equation ts block) (name : ℕ) : Type 0 where
    node : ℕ
    below : node < length fs
    body : Formula
    stands : get_or fs node False ≡ Fix e.sign name body
    sign : b.sign ≡ e.sign
    first : b.first ≡ (k + node + 1) * n
    of : e.of ≡ block name
    side : e.side ≡ RHS ts block body

  binder_left : {k : ℕ} {fs : List Formula} (gs : List Formula) {b : Block} {e : Equation ts block} {name : ℕ}
      → Binder k fs b e name → Binder k (fs ++ gs) b e name
  binder_left {k} {fs} gs x = record {
    node = x.node;
    below = simp length-append (omega (arith, x.below));
    body = x.body;
    stands = get_or-append fs gs False x.node x.below ∙ x.stands;
    sign = x.sign;
    first = x.first;
    of = x.of;
    side = x.side;
  }

  binder_right : {k m : ℕ} (fs : List Formula) {gs : List Formula} {b : Block} {e : Equation ts block} {name : ℕ}
      → k + length fs ≡ m → Binder m gs b e name → Binder k (fs ++ gs) b e name
  binder_right {k} {m} fs {gs} next x =
      let q : m + x.node + 1 ≡ k + (length fs + x.node) + 1 = omega arith in
      record {
        node = length fs + x.node;
        below = simp length-append (omega (arith, x.below));
        body = x.body;
        stands = get_or-append-add fs gs x.node False ∙ x.stands;
        sign = x.sign;
        first = x.first ∙ ap (λ (i : ℕ). i * n) q;
        of = x.of;
        side = x.side;
      }

  -- blocks, equations and numbers of the binders among fs, in order
  record Listed (k : ℕ) (fs : List Formula) (bs : List Block) (es : List (Equation ts block)) (names : List ℕ) : Type 0 where
    blocks_long : length bs ≡ length es
    names_long : length names ≡ length es
    each : (m : ℕ) → m < length es → Binder k fs (get_or bs m b₀) (get_or es m e₀) (get_or names m 0)

  listed_none : {k : ℕ} {fs : List Formula} → Listed k fs [] [] []
  listed_none = record { blocks_long = refl; names_long = refl; each = λ m h. absurd (omega arith) }

  listed_one : (k : ℕ) (sign : Bool) (i : ℕ) (a : Formula)
      → Listed k (Fix sign i a ∷ []) (record { sign = sign; first = (k + 1) * n } ∷ [])
      (record { sign = sign; of = block i; side = RHS ts block a } ∷ []) (i ∷ [])
  listed_one k sign i a = record { blocks_long = refl; names_long = refl; each = at }
    where
      at : (m : ℕ) → m < 1 → Binder k (Fix sign i a ∷ []) (get_or (record { sign = sign; first = (k + 1) * n } ∷ []) m b₀)
          (get_or (record { sign = sign; of = block i; side = RHS ts block a } ∷ []) m e₀) (get_or (i ∷ []) m 0)
      at zero h = record {
        node = 0;
        below = omega arith;
        body = a;
        stands = refl;
        sign = refl;
        first = rw add-zero;
        of = refl;
        side = refl;
      }
      at (suc m) h = absurd (omega arith)

  listed_join : {k m : ℕ} {fs gs : List Formula} {bs bs' : List Block} {es es' : List (Equation ts block)} {names names' : List ℕ}
      → k + length fs ≡ m → Listed k fs bs es names → Listed m gs bs' es' names' → Listed k (fs ++ gs) (bs ++ bs') (es ++ es') (names ++ names')
  listed_join {k} {m} {fs} {gs} {bs} {bs'} {es} {es'} {names} {names'} next x y = record {
    blocks_long = simp length-append (omega (arith, x.blocks_long, y.blocks_long));
    names_long = simp length-append (omega (arith, x.names_long, y.names_long));
    each = by_parts e₀ es es' (λ j e. Binder k (fs ++ gs) (get_or (bs ++ bs') j b₀) e (get_or (names ++ names') j 0)) low high;
  }
    where
      low : (j : ℕ) → j < length es → Binder k (fs ++ gs) (get_or (bs ++ bs') j b₀) (get_or es j e₀) (get_or (names ++ names') j 0)
      low j h =
          rw (get_or-append bs bs' b₀ j (rw x.blocks_long h), get_or-append names names' 0 j (rw x.names_long h))
          (binder_left gs (x.each j h))

      high : (j : ℕ) → j < length es'
          → Binder k (fs ++ gs) (get_or (bs ++ bs') (length es + j) b₀) (get_or es' j e₀) (get_or (names ++ names') (length es + j) 0)
      high j h =
          let p : get_or (bs ++ bs') (length es + j) b₀ ≡ get_or bs' j b₀ = rw (← x.blocks_long) (get_or-append-add bs bs' j b₀) in
          let q : get_or (names ++ names') (length es + j) 0 ≡ get_or names' j 0 = rw (← x.names_long) (get_or-append-add names names' j 0) in
          rw (p, q) (binder_right fs next (y.each j h))

  -- what is listed of the operands is listed of a formula that is no binder
  listed_under : {k : ℕ} (f : Formula) {fs : List Formula} {bs : List Block} {es : List (Equation ts block)} {names : List ℕ}
      → Listed (k + 1) fs bs es names → Listed k (f ∷ fs) bs es names
  listed_under {k} f x = listed_join {fs = f ∷ []} refl (listed_none {k = k}) x

  listed_both : (a : Formula) {k : ℕ} {gs : List Formula} {bs bs' : List Block} {es es' : List (Equation ts block)} {names names' : List ℕ}
      → Listed k (subformulas a) bs es names → Listed (k + nodes a) gs bs' es' names' → Listed k (subformulas a ++ gs) (bs ++ bs') (es ++ es') (names ++ names')
  listed_both a {k} x y = listed_join (ap (λ (i : ℕ). k + i) (length_subformulas a)) x y

  listed : (a : Formula) (k : ℕ) → Listed k (subformulas a) (blocks_from n a k) (E ts block a) (binder_nodes a)
  unfolding subformulas blocks_from E binder_nodes
  listed False k = listed_none
  listed True k = listed_none
  listed (And a b) k = listed_under (And a b) (listed_both a (listed a (k + 1)) (listed b (k + 1 + nodes a)))
  listed (Or a b) k = listed_under (Or a b) (listed_both a (listed a (k + 1)) (listed b (k + 1 + nodes a)))
  listed (Box α a) k = listed_under (Box α a) (listed a (k + 1))
  listed (Diamond α a) k = listed_under (Diamond α a) (listed a (k + 1))
  listed (Variable i) k = listed_none
  listed (Fix sign i a) k = listed_join {fs = Fix sign i a ∷ []} refl (listed_one k sign i a) (listed a (k + 1))

-- There are as many blocks as equations, and as binders.
module _ (n : ℕ) (ts : List Transition) (block : ℕ → ℕ) (a : Formula) where
  both : Listed n ts block (record { sign = false; first = 0 }) (record { sign = false; of = 0; side = λ s. Constant false })
      0 (subformulas a) (blocks_from n a 0) (E ts block a) (binder_nodes a)
  both = listed n ts block _ _ a 0

  pub length_blocks : length (blocks_from n a 0) ≡ length (E ts block a)
  length_blocks = both.blocks_long

  pub length_binders : length (binder_nodes a) ≡ length (E ts block a)
  length_binders = both.names_long

-- The blocks of a formula are the equations of the table, in order; the numbers of the binders are listed beside them.
module _ (n : ℕ) (states : 0 < n) (ts : List Transition) (low : T (every (λ t. ltb t.target n) ts)) (block : ℕ → ℕ) (a : Formula)
    (es : ℕ → Plain) (u : Unfolding (cells_from n ts block a 0) es) (b₀ : Block) (e₀ : Equation ts block) where
  agree : {b : Block} {e : Equation ts block} {name : ℕ} → Binder n ts block b₀ e₀ 0 (subformulas a) b e name → Agree n ts block a es b e name
  agree {b} {e} {name} x =
      let i : ℕ = x.node in
      let at : Stands a i (Fix e.sign name x.body) = (rw length_subformulas at x.below, x.stands) in
      let next : Stands a (i + 1) x.body = fix_operand a at in
      let from : b.first ≡ (i + 1) * n = rw zero-add at x.first in
      let rows : (i + 1) * n + n ≤ nodes a * n = rw (add-mul (i + 1) 1 n, one-mul n) at (mul-le-mul_right {m = i + 1 + 1} {n = nodes a} n (omega (arith, next.0))) in
      record {
        node = i;
        body = x.body;
        binder = at;
        operand = next;
        sign = x.sign;
        of = x.of;
        first = from;
        inside = rw (from, length_cells n ts block a) rows;
        side = λ s g. rw (from, x.side) (unfolded_RHS n states ts low block a es u next s g);
      }

  pub blocks_E : (k : ℕ) → k < length (E ts block a)
      → Agree n ts block a es (get_or (blocks_from n a 0) k b₀) (get_or (E ts block a) k e₀) (get_or (binder_nodes a) k 0)
  blocks_E k h = agree ((listed n ts block b₀ e₀ a 0).each k h)

-- whether each number is below all that follow it
unfoldable pub increasing : List ℕ → Bool
increasing [] = true
increasing (x ∷ xs) = every (ltb x) xs && increasing xs

-- In an increasing list a number's place is where it stands.
pub place_at : (xs : List ℕ) → T (increasing xs) → (k : ℕ) → k < length xs → index_in (get_or xs k 0) xs ≡ k
unfolding increasing index_in
place_at [] t k h = absurd (omega arith)
place_at (x ∷ xs) t zero h = rw (eq-eqb x x refl)
place_at (x ∷ xs) t (suc k) h =
    let l : x < get_or xs k 0 = ltb→lt _ _ (all_at (ltb x) xs k 0 (omega arith) (and_left (every (ltb x) xs) _ t)) in
    let e : eqb (get_or xs k 0) x ≡ false = ne_eqb (get_or xs k 0) x (λ q. omega arith) in
    rw (e, place_at xs (and_right (every (ltb x) xs) _ t) k (omega arith))

-- So equation k of a formula whose binders' numbers increase is that of block k.
pub of_own : (ts : List Transition) (a : Formula) → T (increasing (binder_nodes a)) → (e₀ : Equation ts (block_in a)) (k : ℕ)
    → k < length (E ts (block_in a) a) → (get_or (E ts (block_in a) a) k e₀).of ≡ k
unfolding block_in
of_own ts a t e₀ k h =
    ((listed 0 ts (block_in a) (record { sign = false; first = 0 }) e₀ a 0).each k h).of
    ∙ place_at (binder_nodes a) t k (rw (length_binders 0 ts (block_in a) a) h)

-- If the numbers of a formula's binders increase, so do those of the formula that is translated.
pub raised : (a : Formula) → binder_nodes (raise a) ≡ map (λ i. i + 1) (binder_nodes a)
unfolding raise binder_nodes
raised False = refl
raised True = refl
raised (And a b) = rw (raised a, raised b, map-append)
raised (Or a b) = rw (raised a, raised b, map-append)
raised (Box α a) = raised a
raised (Diamond α a) = raised a
raised (Variable i) = refl
raised (Fix sign i a) = rw (raised a)

all_raised : (x y : ℕ) → ((z : ℕ) → T (ltb x z) → y < z + 1) → (xs : List ℕ) → T (every (ltb x) xs) → T (every (ltb y) (map (λ i. i + 1) xs))
unfolding every
all_raised x y h [] t = tt
all_raised x y h (z ∷ zs) t =
    and_both (ltb y (z + 1)) _ (lt→ltb y (z + 1) (h z (and_left (ltb x z) _ t))) (all_raised x y h zs (and_right (ltb x z) _ t))

increasing_raised : (xs : List ℕ) → T (increasing xs) → T (increasing (map (λ i. i + 1) xs))
unfolding increasing
increasing_raised [] t = tt
increasing_raised (x ∷ xs) t =
    and_both (every (ltb (x + 1)) (map (λ i. i + 1) xs)) _
    (all_raised x (x + 1) (λ z g. omega (arith, ltb→lt x z g)) xs (and_left (every (ltb x) xs) _ t))
    (increasing_raised xs (and_right (every (ltb x) xs) _ t))

all_positive : (xs : List ℕ) → T (every (ltb 0) (map (λ i. i + 1) xs))
unfolding every
all_positive [] = tt
all_positive (x ∷ xs) = and_both (ltb 0 (x + 1)) _ (lt→ltb 0 (x + 1) (omega arith)) (all_positive xs)

pub increasing_whole : (a : Formula) → T (increasing (binder_nodes a)) → T (increasing (binder_nodes (whole a)))
unfolding whole increasing binder_nodes
increasing_whole a t = go (binds_first a)
  where
    go : (b : Bool) → T (increasing (binder_nodes (cond b a (Fix true 0 (raise a)))))
    go true = t
    go false =
        rw (raised a)
        (and_both (every (ltb 0) (map (λ i. i + 1) (binder_nodes a))) _ (all_positive (binder_nodes a)) (increasing_raised (binder_nodes a) t))

-- ---- copies

-- A recorded copy of a transition adds no cell and no operand.
pub copy_cells : (n : ℕ) (us : List Transition) (t : Transition) (vs : List Transition) (block : ℕ → ℕ) (a : Formula) (k : ℕ) → 0 < copies t us
    → cells_from n (distinct (us ++ (t ∷ vs))) block a k ≡ cells_from n (distinct (us ++ vs)) block a k
copy_cells n us t vs block a k h = ap (λ (ts : List Transition). cells_from n ts block a k) (copy_none us t vs h)
