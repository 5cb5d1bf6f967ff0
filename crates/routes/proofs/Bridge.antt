-- The blocks of a formula, solved, give it its meaning: a binder's loop goes through the sets of its body's meanings.
use mathlib.Core.Path.{◌≡◌, refl, sym, ap, ap₂, ◌∙◌}
use mathlib.Core.Bool.{Bool, true, false, not, ◌&&◌, ◌||◌}
use mathlib.Core.List.{List, ◌∷◌, ◌++◌, append_assoc}
use Prim.Native.Nat.{ℕ, suc, ◌+◌, ◌*◌, ◌<◌}
use native.Mathlib.Nat.{add-zero}
use native.Mathlib.Omega.{arith}
use borrow.Author.Tests.{eqb-true, eqb-false}
use lib.Dec.{T, eqb, ltb, eqb_refl}
use lib.ListN.{length, get_or, length-append, length-replicate, get_or-append}
use lib.Seq.{get_or-append-add}
use Rattle.sets.specs.Lists.{every}
use Rattle.sets.specs.States.{States, has, start, Valuation, update, Sized}
use Rattle.sets.proofs.Lists.{and_both, or_left, or_right}
use Rattle.solver.specs.Cells.{Cell}
use Rattle.solver.specs.internal.Forms.{Ordered, Inside}
use Rattle.solver.specs.File.{Block}
use Rattle.solver.specs.computed.Solved.{solved}
use Rattle.sets.proofs.Valuation.{update_same, update_other, update_sized}
use Rattle.solver.proofs.Solving.{inside_rest, turn, solved_below}
use Rattle.cases.specs.Formula.{Formula, False, True, And, Or, Box, Diamond, Variable, Fix, nodes, Stands}
use Rattle.cases.specs.internal.Scope.{free}
use Rattle.cases.specs.declared.Transition.{Transition}
use Rattle.cases.specs.Meaning.{set_of, box_in, diamond_in}
use Rattle.cases.specs.computed.Meanings.{meaning}
use Rattle.cases.proofs.MeaningLaws.{body_of, meaning_sized, means_scope}
use Rattle.translate.specs.Whole.{binder_nodes}
use Rattle.translate.specs.Cells.{cells_from, blocks_from}
use Rattle.translate.proofs.AllLaws.{all_second}
use Rattle.translate.proofs.Counts.{length_blocks}
use Rattle.translate.proofs.Unfold.{and_operands, or_operands, box_operand, diamond_operand, fix_operand, cells_ordered}
use Rattle.routes.proofs.Shallow.{shallow, node_set}
use Rattle.routes.proofs.SolvedBlocks.{first_set, Later, later}
use Rattle.routes.proofs.RepeatedLaws.{repeated_same}

-- the blocks of binders are k, k + 1, ..
abbrev pub Numbered : (ℕ → ℕ) → ℕ → List ℕ → Type 0
Numbered block k js = (m : ℕ) → m < length js → block (get_or js m 0) ≡ k + m

-- of two lists together: those of the first, and then those of the second
numbered_first : (block : ℕ → ℕ) (k : ℕ) (is js : List ℕ) → Numbered block k (is ++ js) → Numbered block k is
numbered_first block k is js h m g = ap block (sym (get_or-append is js 0 m g)) ∙ h m (simp length-append (omega arith))

numbered_second : (block : ℕ → ℕ) (k : ℕ) (is js : List ℕ) → Numbered block k (is ++ js) → Numbered block (k + length is) js
numbered_second block k is js h m g =
    ap block (sym (get_or-append-add is js m 0)) ∙ h (length is + m) (simp length-append (omega arith)) ∙ omega arith

-- The formula a stands at node 0, and cs are its cells.
module _ (n : ℕ) (states : 0 < n) (ts : List Transition) (low : T (every (λ t. ltb t.target n) ts)) (block : ℕ → ℕ) (a : Formula) where
  abbrev cs : List Cell
  cs = cells_from n ts block a 0

  -- a formula's set by the sets of blocks, and by those of variables
  abbrev set : Formula → Valuation → States
  set = shallow n ts block

  abbrev mean : Formula → Valuation → States
  mean = meaning n ts

  -- each variable has the set of its block
  abbrev of_blocks : Valuation → Valuation
  of_blocks ρ j = ρ (block j)

  ordered : Ordered cs
  ordered = cells_ordered n states ts low block a

  -- x stands at node i of a; its blocks are those from k on, the blocks bs follow them, and its free variables have earlier ones
  pub record Placed (x : Formula) (i k : ℕ) (bs : List Block) : Type 0 where
    pub stands : Stands a i x
    pub numbered : Numbered block k (binder_nodes x)
    pub bound : (j : ℕ) → T (free j x) → block j < k
    pub inside : Inside n (length cs) (blocks_from n x i ++ bs)

  -- with the sets that solving its blocks and all later ones ends with, x has its meaning
  abbrev Bridged : Formula → Type 0
  Bridged x = (i k : ℕ) (bs : List Block) → Placed x i k bs → (ρ : Valuation) → Sized n ρ
      → set x (solved n cs (blocks_from n x i ++ bs) k ρ).0 ≡ mean x (of_blocks ρ)

  -- two operands: the second one's blocks follow the first one's, whose sets it does not see
  two : (x y : Formula) → Bridged x → Bridged y → (f : States → States → States) (i k : ℕ) (bs : List Block)
      → Stands a (i + 1) x × Stands a (i + 1 + nodes x) y
      → Numbered block k (binder_nodes x ++ binder_nodes y) → ((j : ℕ) → T (free j x || free j y) → block j < k)
      → Inside n (length cs) ((blocks_from n x (i + 1) ++ blocks_from n y (i + 1 + nodes x)) ++ bs) → (ρ : Valuation) → Sized n ρ
      → (τ : Valuation) → τ ≡ (solved n cs ((blocks_from n x (i + 1) ++ blocks_from n y (i + 1 + nodes x)) ++ bs) k ρ).0
      → f (set x τ) (set y τ) ≡ f (mean x (of_blocks ρ)) (mean y (of_blocks ρ))
  unfolding Inside
  two x y p q f i k bs (l, r) num bound inside ρ o τ e =
      ap₂ f (ap (set x) e' ∙ p (i + 1) k ys here ρ o)
      (ap (set y) (e' ∙ rest.ends) ∙ q (i + 1 + nodes x) (k + length xs) bs there rest.sets rest.sized ∙ seen)
    where
      xs : List Block
      xs = blocks_from n x (i + 1)

      ys : List Block
      ys = blocks_from n y (i + 1 + nodes x) ++ bs

      e' : τ ≡ (solved n cs (xs ++ ys) k ρ).0
      e' = rw append_assoc at e

      within : Inside n (length cs) (xs ++ ys)
      within = rw append_assoc at inside

      rest : Later n cs ys (k + length xs) k ρ (solved n cs (xs ++ ys) k ρ).0
      rest = later n cs ordered xs ys within k ρ o

      here : Placed x (i + 1) k ys
      here = record {
        stands = l;
        numbered = numbered_first block k (binder_nodes x) (binder_nodes y) num;
        bound = λ j t. bound j (or_left (free j x) (free j y) t);
        inside = within;
      }

      there : Placed y (i + 1 + nodes x) (k + length xs) bs
      there = record {
        stands = r;
        numbered = rw (length_blocks n x (i + 1)) (numbered_second block k (binder_nodes x) (binder_nodes y) num);
        bound = λ j t. omega (arith, bound j (or_right (free j x) (free j y) t));
        inside = all_second _ xs ys within;
      }

      seen : mean y (of_blocks rest.sets) ≡ mean y (of_blocks ρ)
      seen = means_scope n ts y (of_blocks rest.sets) (of_blocks ρ) (λ j. rest.sized (block j)) (λ j. o (block j))
          (λ j t. rest.kept (block j) (bound j (or_right (free j x) (free j y) t)))

  -- a binder: its loop goes through the sets of its body's meanings
  one : (sign : Bool) (v : ℕ) (x : Formula) → Bridged x → Bridged (Fix sign v x)
  unfolding shallow meaning blocks_from binder_nodes free turn
  one sign v x p i k bs w ρ o =
      ap (solved n cs (b ∷ ds) k ρ).0 own
      ∙ first_set n cs b ds k ρ
      ∙ repeated_same (λ u. length u ≡ n) (turn n cs b ds k ρ) (body_of n ts v x (of_blocks ρ))
      (λ u l. meaning_sized n ts x (update (of_blocks ρ) v u) (update_sized (of_blocks ρ) v u (λ j. o (block j)) l))
      turned (suc n) (start n sign) (length-replicate n sign)
    where
      b : Block
      b = record { sign = sign; first = (i + 1) * n }

      ds : List Block
      ds = blocks_from n x (i + 1) ++ bs

      own : block v ≡ k
      own = w.numbered 0 (omega arith) ∙ add-zero k

      -- a variable that is free in the body is the binder's, or has an earlier block
      split : (P : Type 0) (j : ℕ) → T (free j x) → (j ≡ v → P) → (¬ (j ≡ v) → block j < k → P) → P
      split P j t f g = go (eqb j v) refl
        where
          go : (c : Bool) → eqb j v ≡ c → P
          go true e = f (eqb-true j v e)
          go false e = g (eqb-false j v e) (w.bound j (and_both (not (eqb j v)) (free j x) (rw e tt) t))

      under : Placed x (i + 1) (suc k) bs
      under = record {
        stands = fix_operand a w.stands;
        numbered = λ m h. w.numbered (suc m) (omega arith) ∙ omega arith;
        bound = λ j t. split (block j < suc k) j t (λ e. omega (arith, ap block e, own)) (λ d h. omega arith);
        inside = inside_rest n (length cs) b ds w.inside;
      }

      turned : (u : States) → length u ≡ n → (turn n cs b ds k ρ u).0 ≡ mean x (update (of_blocks ρ) v u)
      turned u l = node_set n states ts low block a τ x (fix_operand a w.stands) (ap length same ∙ meaning_sized n ts x inner sized) ∙ same ∙ seen
        where
          τ : Valuation
          τ = (solved n cs ds (suc k) (update ρ k u)).0

          inner : Valuation
          inner = of_blocks (update ρ k u)

          sized : Sized n inner
          sized j = update_sized ρ k u o l (block j)

          same : set x τ ≡ mean x inner
          same = p (i + 1) (suc k) bs under (update ρ k u) (update_sized ρ k u o l)

          -- the block of the binder has the set of its variable
          seen : mean x inner ≡ mean x (update (of_blocks ρ) v u)
          seen = means_scope n ts x inner (update (of_blocks ρ) v u) sized (update_sized (of_blocks ρ) v u (λ j. o (block j)) l) (λ j t.
              split (inner j ≡ update (of_blocks ρ) v u j) j t
              (λ e. rw (e, own) (update_same ρ k u ∙ sym (update_same (of_blocks ρ) v u)))
              (λ d h. update_other ρ k u (block j) (λ e. omega arith) ∙ sym (update_other (of_blocks ρ) v u j d)))

  -- So it is with every formula.
  pub bridge : (x : Formula) → Bridged x
  unfolding shallow meaning blocks_from binder_nodes free
  bridge False i k bs w ρ o = refl
  bridge True i k bs w ρ o = refl
  bridge (And x y) i k bs w ρ o =
      two x y (bridge x) (bridge y) (λ u v. set_of n (λ s. has u s && has v s)) i k bs
      (and_operands a w.stands) w.numbered w.bound w.inside ρ o _ refl
  bridge (Or x y) i k bs w ρ o =
      two x y (bridge x) (bridge y) (λ u v. set_of n (λ s. has u s || has v s)) i k bs
      (or_operands a w.stands) w.numbered w.bound w.inside ρ o _ refl
  bridge (Box α x) i k bs w ρ o =
      ap (λ (u : States). set_of n (box_in n ts α u)) (bridge x (i + 1) k bs
      (record { stands = box_operand a w.stands; numbered = w.numbered; bound = w.bound; inside = w.inside }) ρ o)
  bridge (Diamond α x) i k bs w ρ o =
      ap (λ (u : States). set_of n (diamond_in n ts α u)) (bridge x (i + 1) k bs
      (record { stands = diamond_operand a w.stands; numbered = w.numbered; bound = w.bound; inside = w.inside }) ρ o)
  bridge (Variable j) i k bs w ρ o = solved_below n cs bs k ρ (block j) (w.bound j (eqb_refl j))
  bridge (Fix sign j x) i k bs w ρ o = one sign j x (bridge x) i k bs w ρ o
