-- The bytes of a system of equations give it back: counts, blocks, operands and cells.
use mathlib.Core.Path.{◌≡◌, refl, sym, ap, ap₂, ◌∙◌}
use mathlib.Core.Bool.{◌&&◌}
use mathlib.Core.List.{List, [], ◌∷◌, ◌++◌, map}
use Prim.Native.Nat.{ℕ, zero, suc, ◌+◌, ◌*◌, ◌≤◌, ◌<◌}
use native.Mathlib.Omega.{arith}
use native.Mathlib.Nat.{zero-add}
use lib.Dec.{T, ltb, ltb→lt, leb→le}
use lib.ListN.{length, get_or, take, drop, length-append, get_or-append}
use lib.Seq.{ext_get_or, get_or-append-add, take-append_seam, drop-append_seam, drop-drop}
use Rattle.sets.specs.Lists.{numbers_from, every}
use Rattle.sets.specs.Words.{bit, state_limit}
use Rattle.sets.proofs.Lists.{and_left, and_right, length_map_range, get_or_map_range}
use Rattle.solver.specs.File.{Entry}
use Rattle.solver.specs.Cells.{Cell, And, Or, Variable, operands_of}
use Rattle.solver.specs.File.{u32, sizes_of, blocks_at, cells_at, operands_at, block_limit, cell_limit, operand_limit, Block, block_at, blocks, operands, entry_at, entries, list_of, entry_cell, cells}
use Rattle.solver.proofs.Shown.{bit_low, bit_back}
use Rattle.translate.specs.Bytes.{System, all_operands, block_numbers, cell_numbers, numbers, bytes}
use Rattle.translate.proofs.NumberBytes.{Fits, none, more, fits_append, length_bytes, length_block_numbers, length_cell_numbers, number_at}
use Rattle.translate.proofs.Rules.{rule_ok, rules_ok, rule_first, rule_others, roomy}

-- A system of equations within the limits, whose blocks and cells keep their rules.
pub record Ready (y : System) : Type 0 where
  pub states_low : 1 ≤ y.states
  pub states_high : y.states ≤ state_limit
  pub initial_low : y.initial < y.states
  pub blocks_low : 1 ≤ length y.blocks
  pub blocks_high : length y.blocks ≤ block_limit
  pub cells_low : 1 ≤ length y.cells
  pub cells_high : length y.cells ≤ cell_limit
  pub operands_high : length (all_operands y.cells) ≤ operand_limit
  pub roomy_blocks : T (every (roomy y.states (length y.cells)) y.blocks)
  pub rules : T (rules_ok y.states (length y.blocks) (length y.cells) 0 y.cells)

-- the numbers of blocks fit
fits_blocks : (n c : ℕ) → c ≤ cell_limit → (bs : List Block) → T (every (roomy n c) bs) → Fits (block_numbers bs)
unfolding block_numbers every
fits_blocks n c h [] t = none
fits_blocks n c h (b ∷ bs) t =
    let room : b.first + n ≤ c = leb→le (b.first + n) c (and_left (roomy n c b) (every (roomy n c) bs) t) in
    more (bit b.sign) (omega (arith, bit_low b.sign))
    (more b.first (omega arith) (fits_blocks n c h bs (and_right (roomy n c b) (every (roomy n c) bs) t)))

-- n states, d blocks, c cells, p operands
module _ (n d c p : ℕ) (n_high : n ≤ state_limit) (d_high : d ≤ block_limit) (c_high : c ≤ cell_limit) (p_high : p ≤ operand_limit) where
  -- the numbers of cells fit
  fits_cells : (i used : ℕ) (cs : List Cell) → used + length (all_operands cs) ≤ p → T (rules_ok n d c i cs) → Fits (cell_numbers used cs)
  unfolding cell_numbers all_operands operands_of rule_ok every
  fits_cells i used [] h t = none
  fits_cells i used (And os ∷ cs) h t =
      let room : used + length os + length (all_operands cs) ≤ p = omega (arith, length-append os (all_operands cs)) in
      more 0 (omega arith) (more used (omega arith) (more (length os) (omega arith)
      (fits_cells (i + 1) (used + length os) cs room (rule_others n d c i (And os) cs t))))
  fits_cells i used (Or os ∷ cs) h t =
      let room : used + length os + length (all_operands cs) ≤ p = omega (arith, length-append os (all_operands cs)) in
      more 1 (omega arith) (more used (omega arith) (more (length os) (omega arith)
      (fits_cells (i + 1) (used + length os) cs room (rule_others n d c i (Or os) cs t))))
  fits_cells i used (Variable k s ∷ cs) h t =
      let rule : T (ltb k d && ltb s n) = rule_first n d c i (Variable k s) cs t in
      let low : k < d = ltb→lt k d (and_left (ltb k d) (ltb s n) rule) in
      let low' : s < n = ltb→lt s n (and_right (ltb k d) (ltb s n) rule) in
      more 2 (omega arith) (more k (omega arith) (more s (omega arith) (fits_cells (i + 1) used cs h (rule_others n d c i (Variable k s) cs t))))

  -- the operands of a list fit
  fits_list : (i : ℕ) (os : List ℕ) → T (every (λ o. ltb i o && ltb o c) os) → Fits os
  unfolding every
  fits_list i [] t = none
  fits_list i (o ∷ os) t =
      let rule : T (ltb i o && ltb o c) = and_left (ltb i o && ltb o c) (every (λ o. ltb i o && ltb o c) os) t in
      let low : o < c = ltb→lt o c (and_right (ltb i o) (ltb o c) rule) in
      more o (omega arith) (fits_list i os (and_right (ltb i o && ltb o c) (every (λ o. ltb i o && ltb o c) os) t))

  -- all operands fit
  fits_operands : (i : ℕ) (cs : List Cell) → T (rules_ok n d c i cs) → Fits (all_operands cs)
  unfolding all_operands operands_of rule_ok every
  fits_operands i [] t = none
  fits_operands i (And os ∷ cs) t =
      fits_append (fits_list i os (rule_first n d c i (And os) cs t)) (fits_operands (i + 1) cs (rule_others n d c i (And os) cs t))
  fits_operands i (Or os ∷ cs) t =
      fits_append (fits_list i os (rule_first n d c i (Or os) cs t)) (fits_operands (i + 1) cs (rule_others n d c i (Or os) cs t))
  fits_operands i (Variable k s ∷ cs) t = fits_operands (i + 1) cs (rule_others n d c i (Variable k s) cs t)

-- A table whose elements are those of a list is the list.
table_is : {A : Type 0} (a : A) (f : ℕ → A) (xs : List A) → ((i : ℕ) → i < length xs → f i ≡ get_or xs i a) → map f (numbers_from 0 (length xs)) ≡ xs
table_is a f xs h =
    ext_get_or a (map f (numbers_from 0 (length xs))) xs (length_map_range f 0 (length xs)) (λ i g. at i (omega (arith, length_map_range f 0 (length xs))))
  where
    at : (i : ℕ) → i < length xs → get_or (map f (numbers_from 0 (length xs))) i a ≡ get_or xs i a
    at i g = get_or_map_range f 0 (length xs) i a g ∙ ap f (zero-add i) ∙ h i g

-- a block's two numbers, and its sign out of the first
sign_number : (bs : List Block) (k : ℕ) (b : Block) → k < length bs → get_or (block_numbers bs) (2 * k) 0 ≡ bit (get_or bs k b).sign
unfolding block_numbers
sign_number [] k b h = absurd (omega arith)
sign_number (x ∷ bs) zero b h = refl
sign_number (x ∷ bs) (suc k) b h =
    let next : 2 * suc k ≡ suc (suc (2 * k)) = omega arith in
    rw next (sign_number bs k b (omega arith))

first_number : (bs : List Block) (k : ℕ) (b : Block) → k < length bs → get_or (block_numbers bs) (2 * k + 1) 0 ≡ (get_or bs k b).first
unfolding block_numbers
first_number [] k b h = absurd (omega arith)
first_number (x ∷ bs) zero b h = refl
first_number (x ∷ bs) (suc k) b h =
    let next : 2 * suc k + 1 ≡ suc (suc (2 * k + 1)) = omega arith in
    rw next (first_number bs k b (omega arith))

-- the cell of three numbers of a list, from number 3 * i on
abbrev three_at : List ℕ → ℕ → Entry
three_at xs i = record { kind = get_or xs (3 * i) 0; one = get_or xs (3 * i + 1) 0; two = get_or xs (3 * i + 2) 0 }

three_next : (x y z : ℕ) (xs : List ℕ) (i : ℕ) → three_at (x ∷ y ∷ z ∷ xs) (suc i) ≡ three_at xs i
three_next x y z xs i =
    let a : 3 * suc i ≡ suc (suc (suc (3 * i))) = omega arith in
    let b : 3 * suc i + 1 ≡ suc (suc (suc (3 * i + 1))) = omega arith in
    let c : 3 * suc i + 2 ≡ suc (suc (suc (3 * i + 2))) = omega arith in
    rw (b, c, a) refl

-- the entries of cells, where the lists before them have `used` operands
unfoldable pub entries_of : ℕ → List Cell → List Entry
entries_of used [] = []
entries_of used (And os ∷ cs) = record { kind = 0; one = used; two = length os } ∷ entries_of (used + length os) cs
entries_of used (Or os ∷ cs) = record { kind = 1; one = used; two = length os } ∷ entries_of (used + length os) cs
entries_of used (Variable k s ∷ cs) = record { kind = 2; one = k; two = s } ∷ entries_of used cs

length_entries_of : (used : ℕ) (cs : List Cell) → length (entries_of used cs) ≡ length cs
unfolding entries_of
length_entries_of used [] = refl
length_entries_of used (And os ∷ cs) = ap suc (length_entries_of (used + length os) cs)
length_entries_of used (Or os ∷ cs) = ap suc (length_entries_of (used + length os) cs)
length_entries_of used (Variable k s ∷ cs) = ap suc (length_entries_of used cs)

entry_back : (used : ℕ) (cs : List Cell) (i : ℕ) (x : Entry) → i < length cs → three_at (cell_numbers used cs) i ≡ get_or (entries_of used cs) i x
unfolding cell_numbers entries_of
entry_back used [] i x h = absurd (omega arith)
entry_back used (And os ∷ cs) zero x h = refl
entry_back used (And os ∷ cs) (suc i) x h =
    three_next 0 used (length os) (cell_numbers (used + length os) cs) i ∙ entry_back (used + length os) cs i x (omega arith)
entry_back used (Or os ∷ cs) zero x h = refl
entry_back used (Or os ∷ cs) (suc i) x h =
    three_next 1 used (length os) (cell_numbers (used + length os) cs) i ∙ entry_back (used + length os) cs i x (omega arith)
entry_back used (Variable k s ∷ cs) zero x h = refl
entry_back used (Variable k s ∷ cs) (suc i) x h = three_next 2 k s (cell_numbers used cs) i ∙ entry_back used cs i x (omega arith)

-- The list of a cell is taken out of the operand table.
module _ (ops : List ℕ) (used : ℕ) (os rest : List ℕ) (left : drop used ops ≡ os ++ rest) where
  pub list_back : list_of ops used (length os) ≡ os
  list_back = ap (λ (l : List ℕ). take (length os) l) left ∙ take-append_seam os rest

  pub list_rest : drop (used + length os) ops ≡ rest
  list_rest = sym (drop-drop (length os) used ops) ∙ ap (λ (l : List ℕ). drop (length os) l) left ∙ drop-append_seam os rest

-- a cell out of its entry
abbrev cell_for : List ℕ → Entry → Cell
cell_for ops x = entry_cell ops x.kind x.one x.two

-- the cells of entries
cells_back : (ops : List ℕ) (used : ℕ) (cs : List Cell) → drop used ops ≡ all_operands cs → map (cell_for ops) (entries_of used cs) ≡ cs
unfolding entries_of entry_cell all_operands operands_of
cells_back ops used [] h = refl
cells_back ops used (And os ∷ cs) h =
    ap₂ (λ (l : List ℕ) (xs : List Cell). And l ∷ xs) (list_back ops used os (all_operands cs) h)
    (cells_back ops (used + length os) cs (list_rest ops used os (all_operands cs) h))
cells_back ops used (Or os ∷ cs) h =
    ap₂ (λ (l : List ℕ) (xs : List Cell). Or l ∷ xs) (list_back ops used os (all_operands cs) h)
    (cells_back ops (used + length os) cs (list_rest ops used os (all_operands cs) h))
cells_back ops used (Variable k s ∷ cs) h = ap (λ (xs : List Cell). Variable k s ∷ xs) (cells_back ops used cs h)

-- a number of the second of two lists
second : (xs ys : List ℕ) (m j k : ℕ) → length xs ≡ m → k ≡ m + j → get_or (xs ++ ys) k 0 ≡ get_or ys j 0
second xs ys m j k h e =
    let place : k ≡ length xs + j = omega arith in
    rw place (get_or-append-add xs ys j 0)

-- The file of a system.
module _ (y : System) where
  abbrev e : List ℕ
  e = bytes (numbers y)

  abbrev d : ℕ
  d = length y.blocks

  abbrev c : ℕ
  c = length y.cells

  abbrev p : ℕ
  p = length (all_operands y.cells)

  -- how many numbers it has, and how many bytes
  pub length_numbers : length (numbers y) ≡ 9 + (2 * d + (3 * c + p))
  unfolding numbers
  length_numbers =
      simp length-append (omega (arith, length_block_numbers y.blocks, length_cell_numbers 0 y.cells))

  pub length_file : length e ≡ 36 + 8 * d + 12 * c + 4 * p
  length_file = omega (arith, length_bytes (numbers y), length_numbers)

  module _ (ready : Ready y) where
    -- they fit
    fits_numbers : Fits (numbers y)
    unfolding numbers every
    fits_numbers =
        let n_low : y.initial < y.states = ready.initial_low in
        let n_high : y.states ≤ state_limit = ready.states_high in
        let d_high : d ≤ block_limit = ready.blocks_high in
        let c_high : c ≤ cell_limit = ready.cells_high in
        let p_high : p ≤ operand_limit = ready.operands_high in
        more 1 (omega arith) (more y.states (omega arith) (more d (omega arith) (more c (omega arith)
        (more p (omega arith) (more y.initial (omega arith) (more 36 (omega arith) (more (36 + 8 * d) (omega arith)
        (more (36 + 8 * d + 12 * c) (omega arith)
        (fits_append (fits_blocks y.states c c_high y.blocks ready.roomy_blocks)
        (fits_append
        (fits_cells y.states d c p n_high d_high c_high p_high 0 0 y.cells (omega arith) ready.rules)
        (fits_operands y.states d c p n_high d_high c_high p_high 0 y.cells ready.rules)))))))))))

    -- the number at a place
    word : (at k : ℕ) → at ≡ 4 * k → k < 9 + (2 * d + (3 * c + p)) → u32 e at ≡ get_or (numbers y) k 0
    word at k h g = rw h (number_at fits_numbers k (omega (arith, length_numbers)))

    -- the header's numbers
    pub version_back : u32 e 0 ≡ 1
    unfolding numbers
    version_back = word 0 0 refl (omega arith)

    pub states_back : (sizes_of e).states ≡ y.states
    unfolding numbers
    states_back = word 4 1 refl (omega arith)

    pub block_count_back : (sizes_of e).blocks ≡ d
    unfolding numbers
    block_count_back = word 8 2 refl (omega arith)

    pub cell_count_back : (sizes_of e).cells ≡ c
    unfolding numbers
    cell_count_back = word 12 3 refl (omega arith)

    pub operand_count_back : (sizes_of e).operands ≡ p
    unfolding numbers
    operand_count_back = word 16 4 refl (omega arith)

    pub initial_back : (sizes_of e).initial ≡ y.initial
    unfolding numbers
    initial_back = word 20 5 refl (omega arith)

    pub blocks_start : u32 e 24 ≡ 36
    unfolding numbers
    blocks_start = word 24 6 refl (omega arith)

    pub cells_start : u32 e 28 ≡ 36 + 8 * d
    unfolding numbers
    cells_start = word 28 7 refl (omega arith)

    pub operands_start : u32 e 32 ≡ 36 + 8 * d + 12 * c
    unfolding numbers
    operands_start = word 32 8 refl (omega arith)

    -- the numbers of the header and of the three tables
    abbrev header : List ℕ
    header = 1 ∷ y.states ∷ d ∷ c ∷ p ∷ y.initial ∷ 36 ∷ (36 + 8 * d) ∷ (36 + 8 * d + 12 * c) ∷ []

    abbrev of_blocks : List ℕ
    of_blocks = block_numbers y.blocks

    abbrev of_cells : List ℕ
    of_cells = cell_numbers 0 y.cells

    abbrev of_lists : List ℕ
    of_lists = all_operands y.cells

    number_of_block : (j : ℕ) → j < 2 * d → get_or (numbers y) (9 + j) 0 ≡ get_or of_blocks j 0
    unfolding numbers
    number_of_block j h =
        second header (of_blocks ++ (of_cells ++ of_lists)) 9 j (9 + j) refl refl
        ∙ get_or-append of_blocks (of_cells ++ of_lists) 0 j (omega (arith, length_block_numbers y.blocks))

    number_of_cell : (j : ℕ) → j < 3 * c → get_or (numbers y) (9 + (2 * d + j)) 0 ≡ get_or of_cells j 0
    unfolding numbers
    number_of_cell j h =
        second header (of_blocks ++ (of_cells ++ of_lists)) 9 (2 * d + j) (9 + (2 * d + j)) refl refl
        ∙ second of_blocks (of_cells ++ of_lists) (2 * d) j (2 * d + j) (length_block_numbers y.blocks) refl
        ∙ get_or-append of_cells of_lists 0 j (omega (arith, length_cell_numbers 0 y.cells))

    number_of_operand : (j : ℕ) → get_or (numbers y) (9 + (2 * d + (3 * c + j))) 0 ≡ get_or of_lists j 0
    unfolding numbers
    number_of_operand j =
        second header (of_blocks ++ (of_cells ++ of_lists)) 9 (2 * d + (3 * c + j)) (9 + (2 * d + (3 * c + j))) refl refl
        ∙ second of_blocks (of_cells ++ of_lists) (2 * d) (3 * c + j) (2 * d + (3 * c + j)) (length_block_numbers y.blocks) refl
        ∙ second of_cells of_lists (3 * c) j (3 * c + j) (length_cell_numbers 0 y.cells) refl

    -- number j of the blocks, of the cells, and of the operands, by the place of its bytes
    block_word : (at j : ℕ) → at ≡ 36 + 4 * j → j < 2 * d → u32 e at ≡ get_or of_blocks j 0
    block_word at j h g = word at (9 + j) (omega arith) (omega arith) ∙ number_of_block j g

    cell_word : (at j : ℕ) → at ≡ cells_at (sizes_of e) + 4 * j → j < 3 * c → u32 e at ≡ get_or of_cells j 0
    cell_word at j h g = word at (9 + (2 * d + j)) (omega (arith, block_count_back)) (omega arith) ∙ number_of_cell j g

    operand_word : (j : ℕ) → j < p → u32 e (operands_at (sizes_of e) + 4 * j) ≡ get_or of_lists j 0
    operand_word j g =
        word (operands_at (sizes_of e) + 4 * j) (9 + (2 * d + (3 * c + j))) (omega (arith, block_count_back, cell_count_back)) (omega arith) ∙ number_of_operand j

    -- a block's two numbers
    pub sign_back : (k : ℕ) (b : Block) → k < d → u32 e (blocks_at + 8 * k) ≡ bit (get_or y.blocks k b).sign
    sign_back k b h = block_word (blocks_at + 8 * k) (2 * k) (omega arith) (omega arith) ∙ sign_number y.blocks k b h

    pub first_back : (k : ℕ) (b : Block) → k < d → u32 e (blocks_at + 8 * k + 4) ≡ (get_or y.blocks k b).first
    first_back k b h = block_word (blocks_at + 8 * k + 4) (2 * k + 1) (omega arith) (omega arith) ∙ first_number y.blocks k b h

    -- the tables
    pub blocks_back : blocks e ≡ y.blocks
    unfolding blocks
    blocks_back = ap (λ (k : ℕ). map (block_at e) (numbers_from 0 k)) block_count_back ∙ table_is (block_at e 0) (block_at e) y.blocks at
      where
        at : (k : ℕ) → k < d → block_at e k ≡ get_or y.blocks k (block_at e 0)
        at k h = rw (sign_back k (block_at e 0) h, first_back k (block_at e 0) h, bit_back) refl

    pub operands_back : operands e ≡ all_operands y.cells
    unfolding operands
    operands_back =
        ap (λ (k : ℕ). map (λ j. u32 e (operands_at (sizes_of e) + 4 * j)) (numbers_from 0 k)) operand_count_back
        ∙ table_is 0 (λ j. u32 e (operands_at (sizes_of e) + 4 * j)) (all_operands y.cells) operand_word

    pub entries_back : entries e ≡ entries_of 0 y.cells
    unfolding entries
    entries_back =
        let long : length (entries_of 0 y.cells) ≡ c = length_entries_of 0 y.cells in
        ap (λ (k : ℕ). map (entry_at e) (numbers_from 0 k)) (cell_count_back ∙ sym long)
        ∙ table_is (entry_at e 0) (entry_at e) (entries_of 0 y.cells) (λ i h. at i (omega arith))
      where
        at : (i : ℕ) → i < c → entry_at e i ≡ get_or (entries_of 0 y.cells) i (entry_at e 0)
        at i h =
            rw (
              cell_word (cells_at (sizes_of e) + 12 * i) (3 * i) (omega arith) (omega arith),
              cell_word (cells_at (sizes_of e) + 12 * i + 4) (3 * i + 1) (omega arith) (omega arith),
              cell_word (cells_at (sizes_of e) + 12 * i + 8) (3 * i + 2) (omega arith) (omega arith),
            )
            (entry_back 0 y.cells i (entry_at e 0) h)

    pub cells_are_back : cells e ≡ y.cells
    unfolding cells
    cells_are_back =
        ap₂ (λ (ops : List ℕ) (xs : List Entry). map (cell_for ops) xs) operands_back entries_back
        ∙ cells_back (all_operands y.cells) 0 y.cells refl
