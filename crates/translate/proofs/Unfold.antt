-- The nodes and cells of a formula, and what the cells are when unfolded along their operands: the right-hand sides of the table.
use mathlib.Core.Path.{◌≡◌, refl, sym, ap, ap₂, ◌∙◌}
use mathlib.Core.Bool.{Bool, true, false, cond, ◌&&◌}
use mathlib.Core.List.{List, [], ◌∷◌, ◌++◌, map, append-nil}
use Prim.Native.Nat.{ℕ, zero, suc, ◌+◌, ◌*◌, ◌/◌, ◌%◌, ◌≤◌, ◌<◌}
use native.Mathlib.Nat.{zero-add, add-zero, suc-add, add_assoc, zero-mul, one-mul, add-mul, mod-lt, div-add-mod', div-lt_iff_lt-mul, mul-le-mul_right}
use native.Mathlib.Omega.{arith}
use lib.Arith.{digits_lt, digits_div, digits_mod}
use lib.Dec.{T, eqb, ltb, ltb→lt, lt→ltb}
use lib.ListN.{length, get_or, length-append, get_or-append}
use lib.Seq.{get_or-append-add}
use Rattle.sets.specs.Lists.{numbers_from, every, keep}
use Rattle.sets.proofs.Lists.{length_map_range, get_or_map_range, and_left, and_right, and_both, all_mono}
use Rattle.solver.specs.Cells.{Cell, operands_of}
use Rattle.solver.specs.internal.Forms.{Ordered}
use Rattle.cases.specs.Action.{Action, accepts}
use Rattle.cases.specs.Formula.{Formula, False, True, And, Or, Box, Diamond, Variable, Fix, nodes, subformulas, Stands}
use Rattle.cases.specs.declared.Transition.{Transition}
use Rattle.cases.specs.Meaning.{from}
use Rattle.translate.specs.Tables.{Expression, Sat⇒, Sat∧, each, RHS}
use Rattle.translate.specs.Unfolding.{Plain, All, Any, more, left_out, plain, plains, chosen, unfolded, Unfolding}
use Rattle.translate.specs.Cells.{targets, cell_of, cells_from}

-- There is a subformula for each node.
pub length_subformulas : (a : Formula) → length (subformulas a) ≡ nodes a
unfolding subformulas nodes
length_subformulas False = refl
length_subformulas True = refl
length_subformulas (And a b) = omega (arith, length-append (subformulas a) (subformulas b), length_subformulas a, length_subformulas b)
length_subformulas (Or a b) = omega (arith, length-append (subformulas a) (subformulas b), length_subformulas a, length_subformulas b)
length_subformulas (Box α a) = omega (arith, length_subformulas a)
length_subformulas (Diamond α a) = omega (arith, length_subformulas a)
length_subformulas (Variable i) = refl
length_subformulas (Fix sign i a) = omega (arith, length_subformulas a)

-- What holds of each element of two lists, by its place in both together, holds of each element of both together.
pub by_parts : {A : Type 0} (d : A) (xs ys : List A) (P : ℕ → A → Type 0) → ((i : ℕ) → i < length xs → P i (get_or xs i d))
    → ((i : ℕ) → i < length ys → P (length xs + i) (get_or ys i d)) → (i : ℕ) → i < length (xs ++ ys) → P i (get_or (xs ++ ys) i d)
by_parts d [] ys P low high i h = rw zero-add at (high i h)
by_parts d (x ∷ xs) ys P low high zero h = low 0 (omega arith)
by_parts d (x ∷ xs) ys P low high (suc i) h =
    by_parts d xs ys (λ j. P (suc j)) (λ j g. low (suc j) (omega arith)) (λ j g. rw suc-add at (high j g)) i (omega arith)

-- Node j of the formula f, which stands at place i of a list, stands at place i + j.
abbrev Inner : List Formula → ℕ → Formula → Type 0
Inner fs i f = (j : ℕ) → j < nodes f → (i + j < length fs) × (get_or fs (i + j) False ≡ get_or (subformulas f) j False)

-- formulas that are listed with all their subformulas
record Nested (fs : List Formula) : Type 0 where
  inner : (i : ℕ) → i < length fs → Inner fs i (get_or fs i False)

nested_none : Nested []
nested_none = record { inner = λ i h. absurd (omega arith) }

nested_join : {fs gs : List Formula} → Nested fs → Nested gs → Nested (fs ++ gs)
nested_join {fs} {gs} a b = record { inner = by_parts False fs gs (Inner (fs ++ gs)) low high }
  where
    low : (i : ℕ) → i < length fs → Inner (fs ++ gs) i (get_or fs i False)
    low i h j g =
        let (l, e) = a.inner i h j g in
        (simp length-append (omega arith), get_or-append fs gs False (i + j) l ∙ e)

    high : (i : ℕ) → i < length gs → Inner (fs ++ gs) (length fs + i) (get_or gs i False)
    high i h j g =
        let (l, e) = b.inner i h j g in
        (simp length-append (omega arith), rw add_assoc (get_or-append-add fs gs (i + j) False ∙ e))

nested_cons : (a : Formula) (fs : List Formula) → subformulas a ≡ a ∷ fs → Nested fs → Nested (a ∷ fs)
nested_cons a fs e w = record { inner = at }
  where
    at : (i : ℕ) → i < length (a ∷ fs) → Inner (a ∷ fs) i (get_or (a ∷ fs) i False)
    at zero h j g = rw (zero-add, e) (omega (arith, length_subformulas a, ap length e), refl)
    at (suc i) h j g =
        let (l, q) = w.inner i (omega arith) j g in
        rw suc-add (omega arith, q)

nested : (a : Formula) → Nested (subformulas a)
unfolding subformulas
nested False = nested_cons False [] refl nested_none
nested True = nested_cons True [] refl nested_none
nested (And a b) = nested_cons (And a b) _ refl (nested_join (nested a) (nested b))
nested (Or a b) = nested_cons (Or a b) _ refl (nested_join (nested a) (nested b))
nested (Box α a) = nested_cons (Box α a) _ refl (nested a)
nested (Diamond α a) = nested_cons (Diamond α a) _ refl (nested a)
nested (Variable i) = nested_cons (Variable i) [] refl nested_none
nested (Fix sign i a) = nested_cons (Fix sign i a) _ refl (nested a)

-- Node j of a formula that stands at node i stands at node i + j.
pub inner : (a : Formula) {i : ℕ} {f : Formula} → Stands a i f → {j : ℕ} {x : Formula} → Stands f j x → Stands a (i + j) x
inner a {i} {f} (h, e) {j} (g, q) =
    let g' : j < nodes (get_or (subformulas a) i False) = rw e g in
    let (l, r) = (nested a).inner i (rw length_subformulas h) j g' in
    (rw length_subformulas at l, r ∙ ap (λ (b : Formula). get_or (subformulas b) j False) e ∙ q)

-- A formula stands at its own first node.
pub first : (a : Formula) → Stands a 0 a
unfolding subformulas nodes
first False = (omega arith, refl)
first True = (omega arith, refl)
first (And a b) = (omega arith, refl)
first (Or a b) = (omega arith, refl)
first (Box α a) = (omega arith, refl)
first (Diamond α a) = (omega arith, refl)
first (Variable i) = (omega arith, refl)
first (Fix sign i a) = (omega arith, refl)

-- Operands, by what is listed below a formula: the first is the next node, and the second follows the first one's nodes.
operand_first : (f x : Formula) (gs : List Formula) → subformulas f ≡ f ∷ (subformulas x ++ gs) → Stands f 1 x
operand_first f x gs e =
    let (l, q) = first x in
    let h : length (subformulas f) ≡ suc (nodes x + length gs) = ap length e ∙ ap suc (length-append (subformulas x) gs ∙ ap (λ (m : ℕ). m + length gs) (length_subformulas x)) in
    let r : get_or (subformulas f) 1 False ≡ x =
    ap (λ (fs : List Formula). get_or fs 1 False) e ∙ get_or-append (subformulas x) gs False 0 (rw length_subformulas l) ∙ q in
    (omega (arith, length_subformulas f), r)

operand_second : (f x y : Formula) → subformulas f ≡ f ∷ (subformulas x ++ subformulas y) → Stands f (1 + nodes x) y
operand_second f x y e =
    let (l, q) = first y in
    let h : length (subformulas f) ≡ suc (nodes x + nodes y) = ap length e ∙ ap suc (length-append (subformulas x) (subformulas y) ∙ ap₂ ◌+◌ (length_subformulas x) (length_subformulas y)) in
    let m : 1 + nodes x ≡ suc (length (subformulas x) + 0) = omega (arith, length_subformulas x) in
    let r : get_or (subformulas f) (1 + nodes x) False ≡ y =
    rw (e, m) (get_or-append-add (subformulas x) (subformulas y) 0 False ∙ q) in
    (omega (arith, length_subformulas f), r)

-- The operands of node i: the first is node i + 1, and a second one, after x, is node i + 1 + nodes x.
module _ (a : Formula) {i : ℕ} where
  next : {f x : Formula} (gs : List Formula) → subformulas f ≡ f ∷ (subformulas x ++ gs) → Stands a i f → Stands a (i + 1) x
  next {f} {x} gs e h = inner a h (operand_first f x gs e)

  two : {f x y : Formula} → subformulas f ≡ f ∷ (subformulas x ++ subformulas y) → Stands a i f → Stands a (i + 1) x × Stands a (i + 1 + nodes x) y
  two {f} {x} {y} e h = (next (subformulas y) e h, rw (← add_assoc) at (inner a h (operand_second f x y e)))

  one : {f x : Formula} → subformulas f ≡ f ∷ subformulas x → Stands a i f → Stands a (i + 1) x
  one {f} {x} e h = next [] (rw append-nil e) h

  pub and_operands : {x y : Formula} → Stands a i (And x y) → Stands a (i + 1) x × Stands a (i + 1 + nodes x) y
  unfolding subformulas
  and_operands h = two refl h

  pub or_operands : {x y : Formula} → Stands a i (Or x y) → Stands a (i + 1) x × Stands a (i + 1 + nodes x) y
  unfolding subformulas
  or_operands h = two refl h

  pub box_operand : {α : Action} {x : Formula} → Stands a i (Box α x) → Stands a (i + 1) x
  unfolding subformulas
  box_operand h = one refl h

  pub diamond_operand : {α : Action} {x : Formula} → Stands a i (Diamond α x) → Stands a (i + 1) x
  unfolding subformulas
  diamond_operand h = one refl h

  pub fix_operand : {sign : Bool} {j : ℕ} {x : Formula} → Stands a i (Fix sign j x) → Stands a (i + 1) x
  unfolding subformulas
  fix_operand h = one refl h

-- n states, and the cell of a formula at a node in a state
module _ (n : ℕ) (cell : Formula → ℕ → ℕ → Cell) where
  -- row j of some cells is that of the formula f, where row 0 is that of node k
  abbrev Row : List Cell → ℕ → ℕ → Formula → Type 0
  Row cs k j f = (s : ℕ) → s < n → get_or cs (j * n + s) (Cell.And []) ≡ cell f (k + j) s

  -- the cells are a row for each of the formulas
  record Laid (k : ℕ) (fs : List Formula) (cs : List Cell) : Type 0 where
    long : length cs ≡ length fs * n
    each : (j : ℕ) → j < length fs → Row cs k j (get_or fs j False)

  laid_row : (k : ℕ) (f : Formula) → Laid k (f ∷ []) (map (cell f k) (numbers_from 0 n))
  laid_row k f = record { long = length_map_range (cell f k) 0 n ∙ sym (one-mul n); each = at }
    where
      at : (j : ℕ) → j < length (f ∷ []) → Row (map (cell f k) (numbers_from 0 n)) k j (get_or (f ∷ []) j False)
      at zero h s g = rw (zero-mul, zero-add, add-zero) (get_or_map_range (cell f k) 0 n s (Cell.And []) g ∙ ap (cell f k) (zero-add s))
      at (suc j) h s g = absurd (omega arith)

  laid_join : {k m : ℕ} {fs gs : List Formula} {cs ds : List Cell} → k + length fs ≡ m → Laid k fs cs → Laid m gs ds → Laid k (fs ++ gs) (cs ++ ds)
  laid_join {k} {m} {fs} {gs} {cs} {ds} next a b = record { long = long; each = by_parts False fs gs (Row (cs ++ ds) k) low high }
    where
      long : length (cs ++ ds) ≡ length (fs ++ gs) * n
      long = rw (length-append cs ds, length-append fs gs, add-mul) (omega (arith, a.long, b.long))

      low : (j : ℕ) → j < length fs → Row (cs ++ ds) k j (get_or fs j False)
      low j h s g = get_or-append cs ds (Cell.And []) (j * n + s) (rw a.long (digits_lt h g)) ∙ a.each j h s g

      high : (j : ℕ) → j < length gs → Row (cs ++ ds) k (length fs + j) (get_or gs j False)
      high j h s g =
          let e : (length fs + j) * n + s ≡ length cs + (j * n + s) = rw add-mul (omega (arith, a.long)) in
          let q : m + j ≡ k + (length fs + j) = omega arith in
          rw e (get_or-append-add cs ds (j * n + s) (Cell.And []) ∙ b.each j h s g ∙ ap (λ (i : ℕ). cell (get_or gs j False) i s) q)

module _ (n : ℕ) (ts : List Transition) (block : ℕ → ℕ) where
  abbrev cell : Formula → ℕ → ℕ → Cell
  cell = cell_of n ts block

  -- a row of a formula, then those of its operands
  laid_under : {f : Formula} {k : ℕ} {fs : List Formula} {cs : List Cell} → Laid n cell (k + 1) fs cs
      → Laid n cell k (f ∷ fs) (map (cell f k) (numbers_from 0 n) ++ cs)
  laid_under {f} {k} x = laid_join n cell {fs = f ∷ []} refl (laid_row n cell k f) x

  laid_both : (a : Formula) {k : ℕ} {gs : List Formula} {cs ds : List Cell} → Laid n cell k (subformulas a) cs → Laid n cell (k + nodes a) gs ds
      → Laid n cell k (subformulas a ++ gs) (cs ++ ds)
  laid_both a {k} x y = laid_join n cell (ap (λ (i : ℕ). k + i) (length_subformulas a)) x y

  -- The cells of a formula at node k are a row for each of its nodes.
  laid : (a : Formula) (k : ℕ) → Laid n cell k (subformulas a) (cells_from n ts block a k)
  unfolding subformulas cells_from
  laid False k = laid_row n cell k False
  laid True k = laid_row n cell k True
  laid (And a b) k = laid_under (laid_both a (laid a (k + 1)) (laid b (k + 1 + nodes a)))
  laid (Or a b) k = laid_under (laid_both a (laid a (k + 1)) (laid b (k + 1 + nodes a)))
  laid (Box α a) k = laid_under (laid a (k + 1))
  laid (Diamond α a) k = laid_under (laid a (k + 1))
  laid (Variable i) k = laid_row n cell k (Variable i)
  laid (Fix sign i a) k = laid_under (laid a (k + 1))

  -- A formula has a cell for each node and state,
  pub cells_long : (a : Formula) (k : ℕ) → length (cells_from n ts block a k) ≡ nodes a * n
  cells_long a k = (laid a k).long ∙ ap (λ (m : ℕ). m * n) (length_subformulas a)

  pub length_cells : (a : Formula) → length (cells_from n ts block a 0) ≡ nodes a * n
  length_cells a = cells_long a 0

  -- and cell i * n + s of a formula at node 0 is that of node i in state s.
  pub cell_at_lem : (a : Formula) (i s : ℕ) → i < nodes a → s < n
      → get_or (cells_from n ts block a 0) (i * n + s) (Cell.And []) ≡ cell_of n ts block (get_or (subformulas a) i False) i s
  cell_at_lem a i s h g = (laid a 0).each i (rw length_subformulas h) s g ∙ ap (λ (j : ℕ). cell (get_or (subformulas a) i False) j s) (zero-add i)

  -- Any cell c is that of node c / n in state c % n.
  place : 0 < n → (a : Formula) (c : ℕ) → c < length (cells_from n ts block a 0)
      → (c / n < nodes a) × (c % n < n) × (get_or (cells_from n ts block a 0) c (Cell.And []) ≡ cell_of n ts block (get_or (subformulas a) (c / n) False) (c / n) (c % n))
  place states a c h =
      let l : c / n < nodes a = (div-lt_iff_lt-mul states).1 (rw length_cells at h) in
      let g : c % n < n = mod-lt c states in
      (l, g, ap (λ (x : ℕ). get_or (cells_from n ts block a 0) x (Cell.And [])) (sym (div-add-mod' c n)) ∙ cell_at_lem a (c / n) (c % n) l g)

-- The transitions that a box or a diamond puts in: sat is Sat⇒ or Sat∧.
module _ (es : ℕ → Plain) (sat : Bool → Expression → Expression) (kept : (e : Expression) → left_out (sat true e) ≡ false)
    (same : (e : Expression) → plain (sat true e) ≡ plain e) (out : (e : Expression) → left_out (sat false e) ≡ true) where
  -- one transition: b says whether it leaves the state, c whether its label is accepted
  put_one : (b c : Bool) (t : Transition) (f : Transition → Expression) (g : Transition → ℕ) (e : Expression) (us vs : List Transition)
      → f t ≡ sat c e → es (g t) ≡ plain e → plains (each f us) ≡ chosen es (map g vs)
      → plains (each f (cond b (t ∷ us) us)) ≡ chosen es (map g (cond (b && c) (t ∷ vs) vs))
  unfolding each plains chosen
  put_one true true t f g e us vs p q r = rw (p, kept, same, q, r)
  put_one true false t f g e us vs p q r = rw (p, out) r
  put_one false c t f g e us vs p q r = r

  put : (n i s : ℕ) (α : Action) (side : ℕ → Expression) → ((u : ℕ) → u < n → es (i * n + u) ≡ plain (side u))
      → (ts : List Transition) → T (every (λ t. ltb t.target n) ts)
      → plains (each (λ t. sat (accepts α t.label) (side t.target)) (keep (λ t. eqb t.source s) ts))
      ≡ chosen es (map (λ t. i * n + t.target) (keep (from s α) ts))
  unfolding keep every each plains chosen
  put n i s α side h [] l = refl
  put n i s α side h (t ∷ ts) l =
      put_one (eqb t.source s) (accepts α t.label) t _ _ (side t.target) _ _ refl
      (h t.target (ltb→lt _ _ (and_left (ltb t.target n) _ l))) (put n i s α side h ts (and_right (ltb t.target n) _ l))

-- The right-hand side of the table for each cell, without Sat: cell c is that of node c / n in state c % n.
abbrev pub sides : ℕ → List Transition → (ℕ → ℕ) → Formula → ℕ → Plain
sides n ts block a c = plain (RHS ts block (get_or (subformulas a) (c / n) False) (c % n))

module _ (n : ℕ) (states : 0 < n) (ts : List Transition) (low : T (every (λ t. ltb t.target n) ts)) (block : ℕ → ℕ) (a : Formula) where
  -- that of the formula x at node i in state s
  pub side_at : {i : ℕ} {x : Formula} → Stands a i x → (s : ℕ) → s < n → sides n ts block a (i * n + s) ≡ plain (RHS ts block x s)
  side_at {i} (h, e) s g = rw (digits_div i g, digits_mod i g, e)

  rule_at : (f : Formula) {i : ℕ} → Stands a i f → (s : ℕ) → s < n → plain (RHS ts block f s) ≡ unfolded (sides n ts block a) (cell_of n ts block f i s)
  unfolding RHS plain plains left_out unfolded chosen cell_of targets
  rule_at False h s g = refl
  rule_at True h s g = refl
  rule_at (And x y) h s g =
      let (p, q) = and_operands a h in
      rw (side_at p s g, side_at q s g)
  rule_at (Or x y) h s g =
      let (p, q) = or_operands a h in
      rw (side_at p s g, side_at q s g)
  rule_at (Box α x) {i} h s g =
      ap All (put (sides n ts block a) Sat⇒ (λ e. refl) (λ e. refl) (λ e. refl) n (i + 1) s α (RHS ts block x) (side_at (box_operand a h)) ts low)
  rule_at (Diamond α x) {i} h s g =
      ap Any (put (sides n ts block a) Sat∧ (λ e. refl) (λ e. refl) (λ e. refl) n (i + 1) s α (RHS ts block x) (side_at (diamond_operand a h)) ts low)
  rule_at (Variable j) h s g = refl
  rule_at (Fix sign j x) h s g = refl

  -- The cells unfolded along their operands are the right-hand sides of the table without Sat.
  pub cells_RHS : Unfolding (cells_from n ts block a 0) (sides n ts block a)
  cells_RHS = record { rule = at }
    where
      at : (c : ℕ) → c < length (cells_from n ts block a 0) → sides n ts block a c ≡ unfolded (sides n ts block a) (get_or (cells_from n ts block a 0) c (Cell.And []))
      at c h =
          let (l, g, e) = place n ts block states a c h in
          rw e (rule_at (get_or (subformulas a) (c / n) False) (l, refl) (c % n) g)

-- each operand is a cell
unfoldable pub OperandsInside : List Cell → Type 0
OperandsInside cs = (i : ℕ) → i < length cs → T (every (λ o. ltb o (length cs)) (operands_of (get_or cs i (Cell.And []))))

-- Cells whose operands are cells above them unfold in one way.
module _ (cs : List Cell) (ordered : Ordered cs) (inside : OperandsInside cs) (ds es : ℕ → Plain) (u : Unfolding cs ds) (w : Unfolding cs es) where
  chosen_same : (i : ℕ) → ((o : ℕ) → i < o → o < length cs → ds o ≡ es o) → (os : List ℕ) → T (every (ltb i) os) → T (every (λ o. ltb o (length cs)) os)
      → chosen ds os ≡ chosen es os
  unfolding every chosen
  chosen_same i h [] l m = refl
  chosen_same i h (o ∷ os) l m =
      ap₂ more (h o (ltb→lt i o (and_left (ltb i o) _ l)) (ltb→lt o _ (and_left (ltb o (length cs)) _ m)))
      (chosen_same i h os (and_right (ltb i o) _ l) (and_right (ltb o (length cs)) _ m))

  unfolded_same : (i : ℕ) → ((o : ℕ) → i < o → o < length cs → ds o ≡ es o) → (c : Cell)
      → T (every (ltb i) (operands_of c)) → T (every (λ o. ltb o (length cs)) (operands_of c)) → unfolded ds c ≡ unfolded es c
  unfolding operands_of unfolded
  unfolded_same i h (Cell.And os) l m = ap All (chosen_same i h os l m)
  unfolded_same i h (Cell.Or os) l m = ap Any (chosen_same i h os l m)
  unfolded_same i h (Cell.Variable k s) l m = refl

  -- at cell i, where at most m cells are left
  one_from : (m i : ℕ) → length cs ≤ i + m → i < length cs → ds i ≡ es i
  unfolding Ordered OperandsInside
  one_from zero i h g = absurd (omega arith)
  one_from (suc m) i h g =
      u.rule i g ∙ unfolded_same i (λ o l. one_from m o (omega arith)) _ (ordered i g) (inside i g) ∙ sym (w.rule i g)

  pub unfolding_one : (i : ℕ) → i < length cs → ds i ≡ es i
  unfolding_one i h = one_from (length cs) i (omega arith) h

-- The cells of a formula are such cells.
module _ (n : ℕ) (states : 0 < n) (ts : List Transition) (low : T (every (λ t. ltb t.target n) ts)) (block : ℕ → ℕ) (a : Formula) where
  -- what a number o is that is an operand of cell c
  abbrev good : ℕ → ℕ → Bool
  good c o = ltb c o && ltb o (nodes a * n)

  -- a cell of a later node
  good_at : (i j s u : ℕ) → i < j → j < nodes a → s < n → u < n → T (good (i * n + s) (j * n + u))
  good_at i j s u h l g r =
      let x : i * n + s < (i + 1) * n = digits_lt {q = i} (omega arith) g in
      let y : (i + 1) * n ≤ j * n = mul-le-mul_right n (omega arith) in
      and_both (ltb (i * n + s) (j * n + u)) _ (lt→ltb (i * n + s) (j * n + u) (omega arith)) (lt→ltb (j * n + u) (nodes a * n) (digits_lt l r))

  good_targets : (i s : ℕ) (α : Action) → i + 1 < nodes a → s < n → (us : List Transition) → T (every (λ t. ltb t.target n) us)
      → T (every (good (i * n + s)) (map (λ t. (i + 1) * n + t.target) (keep (from s α) us)))
  unfolding every keep
  good_targets i s α h g [] l = tt
  good_targets i s α h g (t ∷ us) l =
      go (from s α t) (good_at i (i + 1) s t.target (omega arith) h g (ltb→lt _ _ (and_left (ltb t.target n) _ l)))
      (good_targets i s α h g us (and_right (ltb t.target n) _ l))
    where
      go : (b : Bool) → T (good (i * n + s) ((i + 1) * n + t.target))
          → T (every (good (i * n + s)) (map (λ t. (i + 1) * n + t.target) (keep (from s α) us)))
          → T (every (good (i * n + s)) (map (λ t. (i + 1) * n + t.target) (cond b (t ∷ keep (from s α) us) (keep (from s α) us))))
      go true x y = and_both (good (i * n + s) ((i + 1) * n + t.target)) _ x y
      go false x y = y

  good_both : (i m s : ℕ) → s < n → i + 1 < nodes a → i + 1 + m < nodes a
      → T (every (good (i * n + s)) (((i + 1) * n + s) ∷ ((i + 1 + m) * n + s) ∷ []))
  unfolding every
  good_both i m s g p q =
      and_both (good (i * n + s) ((i + 1) * n + s)) _ (good_at i (i + 1) s s (omega arith) p g g)
      (and_both (good (i * n + s) ((i + 1 + m) * n + s)) _ (good_at i (i + 1 + m) s s (omega arith) q g g) tt)

  good_operands : (f : Formula) {i : ℕ} → Stands a i f → (s : ℕ) → s < n → T (every (good (i * n + s)) (operands_of (cell_of n ts block f i s)))
  unfolding every operands_of cell_of targets
  good_operands False h s g = tt
  good_operands True h s g = tt
  good_operands (And x y) {i} h s g =
      let (p, q) = and_operands a h in
      good_both i (nodes x) s g p.0 q.0
  good_operands (Or x y) {i} h s g =
      let (p, q) = or_operands a h in
      good_both i (nodes x) s g p.0 q.0
  good_operands (Box α x) {i} h s g = good_targets i s α (box_operand a h).0 g ts low
  good_operands (Diamond α x) {i} h s g = good_targets i s α (diamond_operand a h).0 g ts low
  good_operands (Variable j) h s g = tt
  good_operands (Fix sign j x) h s g = tt

  good_cell : (c : ℕ) → c < length (cells_from n ts block a 0) → T (every (good c) (operands_of (get_or (cells_from n ts block a 0) c (Cell.And []))))
  good_cell c h =
      let (l, g, e) = place n ts block states a c h in
      rw e (rw (div-add-mod' c n) at (good_operands (get_or (subformulas a) (c / n) False) (l, refl) (c % n) g))

  pub cells_ordered : Ordered (cells_from n ts block a 0)
  unfolding Ordered
  cells_ordered c h = all_mono (good c) (ltb c) (λ o t. and_left (ltb c o) _ t) _ (good_cell c h)

  pub cells_inside : OperandsInside (cells_from n ts block a 0)
  unfolding OperandsInside
  cells_inside c h = rw (length_cells n ts block a) (all_mono (good c) (λ o. ltb o (nodes a * n)) (λ o t. and_right (ltb c o) _ t) _ (good_cell c h))

  -- Cell i * n + s, unfolded in any way, is the right-hand side of the formula at node i in state s.
  pub unfolded_RHS : (es : ℕ → Plain) → Unfolding (cells_from n ts block a 0) es → {i : ℕ} {x : Formula} → Stands a i x → (s : ℕ) → s < n
      → es (i * n + s) ≡ plain (RHS ts block x s)
  unfolded_RHS es u {i} h s g =
      unfolding_one (cells_from n ts block a 0) cells_ordered cells_inside es (sides n ts block a) u (cells_RHS n states ts low block a)
      (i * n + s) (rw (length_cells n ts block a) (digits_lt h.0 g))
      ∙ side_at n states ts low block a h s g
