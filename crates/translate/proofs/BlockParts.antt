-- Laws of the blocks that shapes give, and of their numbers.
use mathlib.Core.Path.{◌≡◌, refl, sym, ap, ap₂, ◌∙◌}
use mathlib.Core.Bool.{cond}
use mathlib.Core.List.{List, [], ◌∷◌, ◌++◌, append_assoc, append-nil}
use Prim.Native.Nat.{ℕ, ◌+◌, ◌-◌, ◌*◌, ◌≤◌, ◌<◌}
use native.Mathlib.Numerals.{add-one}
use native.Mathlib.Omega.{arith}
use lib.ListN.{length, take, drop, length-append}
use lib.Seq.{take_all, take-suc, take-add, length-take-le}
use Rattle.std.specs.Prelude.{count_by}
use Rattle.std.proofs.lemmas.List.Sums.{sum_by-cons}
use Rattle.solver.specs.File.{Block}
use Rattle.translate.specs.declared.Shape.{Shape}
use Rattle.translate.specs.Bytes.{block_numbers}
use Rattle.translate.specs.internal.Shapes.{shape_at, shape_binds, shape_block, shape_blocks}
use Rattle.translate.proofs.NumberBytes.{length_block_numbers}

-- the blocks of two lists of shapes follow one another
pub blocks_append : (n i : ℕ) (xs ys : List Shape) → shape_blocks n i (xs ++ ys) ≡ shape_blocks n i xs ++ shape_blocks n (i + length xs) ys
unfolding shape_blocks
blocks_append n i [] ys = let e : i ≡ i + 0 = omega arith in ap (λ (j : ℕ). shape_blocks n j ys) e
blocks_append n i (x ∷ xs) ys =
    let e : i + 1 + length xs ≡ i + length (x ∷ xs) = omega arith in
    rw (blocks_append n (i + 1) xs ys, e, append_assoc)

-- the numbers of two lists of blocks follow one another
pub block_numbers_append : (bs cs : List Block) → block_numbers (bs ++ cs) ≡ block_numbers bs ++ block_numbers cs
unfolding block_numbers
block_numbers_append [] cs = refl
block_numbers_append (b ∷ bs) cs = rw (block_numbers_append bs cs)

-- the block of one node
one_block : (n i : ℕ) (x : Shape) → shape_blocks n i (x ∷ []) ≡ shape_block n i x
unfolding shape_blocks
one_block n i x = append-nil (shape_block n i x)

-- a node has one block if it is a binder, and else none
length_block : (n i : ℕ) (x : Shape) → length (shape_block n i x) ≡ cond (shape_binds x) 1 0
unfolding shape_block
length_block n i Shape.False = refl
length_block n i Shape.True = refl
length_block n i (Shape.And second) = refl
length_block n i (Shape.Or second) = refl
length_block n i (Shape.Box labels) = refl
length_block n i (Shape.Diamond labels) = refl
length_block n i (Shape.Variable block) = refl
length_block n i (Shape.Mu block) = refl
length_block n i (Shape.Nu block) = refl

-- there are as many blocks as binders
pub blocks_counted : (n i : ℕ) (xs : List Shape) → length (shape_blocks n i xs) ≡ count_by shape_binds xs
unfolding shape_blocks
blocks_counted n i [] = refl
blocks_counted n i (x ∷ xs) =
    length-append (shape_block n i x) (shape_blocks n (i + 1) xs) ∙ ap₂ ◌+◌ (length_block n i x) (blocks_counted n (i + 1) xs)
    ∙ sym (sum_by-cons (λ x. cond (shape_binds x) 1 0) x xs)

-- the numbers of a node's block: of a mu, of a nu, and none of another node
pub numbers_mu : (n i : ℕ) (x : Shape) {block : ℕ} → x ≡ Shape.Mu block → block_numbers (shape_blocks n i (x ∷ [])) ≡ 0 ∷ (i + 1) * n ∷ []
unfolding shape_block block_numbers
numbers_mu n i x e = ap block_numbers (one_block n i x) ∙ rw e

pub numbers_nu : (n i : ℕ) (x : Shape) {block : ℕ} → x ≡ Shape.Nu block → block_numbers (shape_blocks n i (x ∷ [])) ≡ 1 ∷ (i + 1) * n ∷ []
unfolding shape_block block_numbers
numbers_nu n i x e = ap block_numbers (one_block n i x) ∙ rw e

pub numbers_other : (n i : ℕ) (x : Shape) → ((k : ℕ) → ¬ (x ≡ Shape.Mu k)) → ((k : ℕ) → ¬ (x ≡ Shape.Nu k)) → block_numbers (shape_blocks n i (x ∷ [])) ≡ []
unfolding shape_block block_numbers
numbers_other n i x no_mu no_nu = ap block_numbers (one_block n i x) ∙ go x refl
  where
    go : (y : Shape) → x ≡ y → block_numbers (shape_block n i y) ≡ []
    go Shape.False is = refl
    go Shape.True is = refl
    go (Shape.And second) is = refl
    go (Shape.Or second) is = refl
    go (Shape.Box labels) is = refl
    go (Shape.Diamond labels) is = refl
    go (Shape.Variable block) is = refl
    go (Shape.Mu block) is = absurd (no_mu block is)
    go (Shape.Nu block) is = absurd (no_nu block is)

-- the blocks of the first k shapes
abbrev pub blocks_to : ℕ → List Shape → ℕ → List Block
blocks_to n xs k = shape_blocks n 0 (take k xs)

-- of none
pub numbers_none : (n : ℕ) (xs : List Shape) → block_numbers (blocks_to n xs 0) ≡ []
unfolding shape_blocks block_numbers
numbers_none n xs = refl

-- of one more
pub blocks_more : (n : ℕ) (xs : List Shape) (i : ℕ) → i < length xs
    → blocks_to n xs (i + 1) ≡ blocks_to n xs i ++ shape_blocks n i (shape_at xs i ∷ [])
blocks_more n xs i h =
    let l : 0 + length (take i xs) ≡ i = omega (arith, length-take-le i xs (omega arith)) in
    let e : take (i + 1) xs ≡ take i xs ++ (shape_at xs i ∷ []) = rw add-one (take-suc xs i _ h) in
    rw e (blocks_append n 0 (take i xs) (shape_at xs i ∷ []) ∙ ap (λ (j : ℕ). blocks_to n xs i ++ shape_blocks n j (shape_at xs i ∷ [])) l)

pub numbers_more : (n : ℕ) (xs : List Shape) (i : ℕ) → i < length xs
    → block_numbers (blocks_to n xs (i + 1)) ≡ block_numbers (blocks_to n xs i) ++ block_numbers (shape_blocks n i (shape_at xs i ∷ []))
numbers_more n xs i h = ap block_numbers (blocks_more n xs i h) ∙ block_numbers_append (blocks_to n xs i) (shape_blocks n i (shape_at xs i ∷ []))

-- fewer shapes have no more blocks
pub blocks_fewer : (n : ℕ) (xs : List Shape) (i k : ℕ) → i ≤ k → length (blocks_to n xs i) ≤ length (blocks_to n xs k)
blocks_fewer n xs i k h =
    let s : k ≡ i + (k - i) = omega arith in
    let e : take k xs ≡ take i xs ++ take (k - i) (drop i xs) = ap (λ (m : ℕ). take m xs) s ∙ take-add i (k - i) xs in
    rw e (omega (arith, ap length (blocks_append n 0 (take i xs) (take (k - i) (drop i xs))), length-append (blocks_to n xs i) (shape_blocks n (0 + length (take i xs)) (take (k - i) (drop i xs)))))

-- of all shapes
pub blocks_all : (n : ℕ) (xs : List Shape) (k : ℕ) → length xs ≤ k → blocks_to n xs k ≡ shape_blocks n 0 xs
blocks_all n xs k h = ap (shape_blocks n 0) (take_all k xs h)

-- where the numbers of all blocks fit, those of the next one do
pub numbers_fit : (n : ℕ) (xs : List Shape) (i : ℕ) → i < length xs
    → length (block_numbers (blocks_to n xs i)) + length (block_numbers (shape_blocks n i (shape_at xs i ∷ []))) ≤ 2 * length (shape_blocks n 0 xs)
numbers_fit n xs i h =
    omega (
      arith,
      ap length (blocks_all n xs (length xs) (omega arith)),
      blocks_fewer n xs (i + 1) (length xs) (omega arith),
      length_block_numbers (blocks_to n xs (i + 1)),
      ap length (numbers_more n xs i h),
      length-append (block_numbers (blocks_to n xs i)) (block_numbers (shape_blocks n i (shape_at xs i ∷ []))),
    )
