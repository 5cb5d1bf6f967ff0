-- How many numbers and bytes there are; numbers below 2 ^ 32 are read back from their bytes.
use mathlib.Core.Path.{◌≡◌, refl, ◌∙◌}
use mathlib.Core.List.{List, [], ◌∷◌, ◌++◌}
use Prim.Native.Nat.{ℕ, zero, suc, ◌+◌, ◌*◌, ◌/◌, ◌%◌, ◌<◌}
use native.Mathlib.Omega.{arith}
use native.Mathlib.Nat.{div-div-eq-div-mul, div-add-mod, mod-eq_of_lt}
use lib.ListN.{length, get_or}
use Rattle.solver.specs.Cells.{Cell, And, Or, Variable}
use Rattle.solver.specs.File.{Block, u32}
use Rattle.translate.specs.Bytes.{block_numbers, cell_numbers, bytes}

-- each number of a list is below 2 ^ 32
pub data Fits : List ℕ → Type 0 where
  none : Fits []
  more : (x : ℕ) {xs : List ℕ} → x < 4_294_967_296 → Fits xs → Fits (x ∷ xs)

-- so is each of two lists
pub fits_append : {xs ys : List ℕ} → Fits xs → Fits ys → Fits (xs ++ ys)
fits_append none g = g
fits_append (more x h f) g = more x h (fits_append f g)

-- four bytes for each number
pub length_bytes : (xs : List ℕ) → length (bytes xs) ≡ 4 * length xs
unfolding bytes
length_bytes [] = refl
length_bytes (x ∷ xs) = omega (arith, length_bytes xs)

-- two numbers for each block, three for each cell
pub length_block_numbers : (bs : List Block) → length (block_numbers bs) ≡ 2 * length bs
unfolding block_numbers
length_block_numbers [] = refl
length_block_numbers (b ∷ bs) = omega (arith, length_block_numbers bs)

pub length_cell_numbers : (used : ℕ) (cs : List Cell) → length (cell_numbers used cs) ≡ 3 * length cs
unfolding cell_numbers
length_cell_numbers used [] = refl
length_cell_numbers used (And os ∷ cs) = omega (arith, length_cell_numbers (used + length os) cs)
length_cell_numbers used (Or os ∷ cs) = omega (arith, length_cell_numbers (used + length os) cs)
length_cell_numbers used (Variable k s ∷ cs) = omega (arith, length_cell_numbers used cs)

-- the bytes of one number give it back
digits : (x : ℕ) → x < 4_294_967_296 → x % 256 + 256 * (x / 256 % 256) + 65536 * (x / 65536 % 256) + 16777216 * (x / 16777216 % 256) ≡ x
digits x h =
    let low : x / 256 / 256 ≡ x / 65536 = div-div-eq-div-mul x 256 256 in
    let high : x / 65536 / 256 ≡ x / 16777216 = div-div-eq-div-mul x 65536 256 in
    let small : x / 16777216 < 256 = omega arith in
    let last : x / 16777216 % 256 ≡ x / 16777216 = mod-eq_of_lt small in
    rw last (omega (arith, div-add-mod x 256, div-add-mod (x / 256) 256, div-add-mod (x / 65536) 256))

-- the number at a place after the first is that of the rest
u32_next : (x : ℕ) (xs : List ℕ) (at : ℕ) → u32 (bytes (x ∷ xs)) (at + 4) ≡ u32 (bytes xs) at
unfolding u32 bytes
u32_next x xs at =
    let a : at + 4 ≡ suc (suc (suc (suc at))) = omega arith in
    let b : at + 4 + 1 ≡ suc (suc (suc (suc (at + 1)))) = omega arith in
    let c : at + 4 + 2 ≡ suc (suc (suc (suc (at + 2)))) = omega arith in
    let d : at + 4 + 3 ≡ suc (suc (suc (suc (at + 3)))) = omega arith in
    rw (b, c, d, a) refl

-- the number at the start is the first
u32_first : (x : ℕ) (xs : List ℕ) → x < 4_294_967_296 → u32 (bytes (x ∷ xs)) 0 ≡ x
unfolding u32 bytes
u32_first x xs h = digits x h

-- number i, at byte 4 * i
pub number_at : {xs : List ℕ} → Fits xs → (i : ℕ) → i < length xs → u32 (bytes xs) (4 * i) ≡ get_or xs i 0
number_at none i h = absurd (omega arith)
number_at (more x {xs = xs} l f) zero h = u32_first x xs l
number_at (more x {xs = xs} l f) (suc i) h =
    let next : 4 * suc i ≡ 4 * i + 4 = omega arith in
    rw next (u32_next x xs (4 * i) ∙ number_at f i (omega arith))
