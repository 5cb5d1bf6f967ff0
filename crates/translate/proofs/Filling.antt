-- The parts of an equation file, written one behind another.
use mathlib.Core.Path.{◌≡◌, refl, sym, ap, ◌∙◌, subst}
use mathlib.Core.Bool.{true, false}
use mathlib.Core.List.{List, [], ◌∷◌, ◌++◌, append_assoc}
use Prim.Native.Nat.{ℕ, ◌+◌, ◌-◌, ◌*◌, ◌≤◌, ◌<◌}
use native.Mathlib.Omega.{arith}
use lib.Dec.{ltb}
use lib.ListN.{length, take, drop, length-append}
use borrow.Author.Tests.{lt-ltb, le-ltb}
use Rattle.cases.specs.declared.Transition.{Transition}
use Rattle.translate.specs.declared.Shape.{Shape}
use Rattle.translate.specs.declared.Cause.TheVariants.{Memory}
use Rattle.std.specs.Prelude.{Ok, Err, count_by}
use Rattle.std.proofs.lemmas.List.Sums.{count_by-le-length}
use Rattle.translate.specs.Bytes.{System, all_operands, block_numbers, cell_numbers, numbers, bytes}
use Rattle.translate.specs.internal.Shapes.{shape_binds, shape_blocks, shape_cells}
use Rattle.translate.specs.internal.Parts.{Starts}
use Rattle.cases.specs.File.{node_limit}
use Rattle.solver.specs.File.{blocks_at}
use Rattle.translate.specs.internal.Sources.{RoomFor, shape_system, Emitted}
use Rattle.translate.proofs.NumberBytes.{length_bytes, length_block_numbers, length_cell_numbers}
use Rattle.translate.proofs.Putting.{starts_then}
use Rattle.translate.proofs.ReadBack.{length_file}
use Rattle.translate.proofs.NodeParts.{length_cells}
use Rattle.translate.proofs.BlockParts.{blocks_counted}

-- the header of a file of some equations
abbrev header : ℕ → ℕ → ℕ → ℕ → ℕ → List ℕ
header n d c p initial = 1 ∷ n ∷ d ∷ c ∷ p ∷ initial ∷ blocks_at ∷ (blocks_at + 8 * d) ∷ (blocks_at + 8 * d + 12 * c) ∷ []

-- header, blocks, cells and operands, each written to the part that starts where the one before ends
module _ (y : System) {c d p room : ℕ} (sized : RoomFor y c d p room) where
  pub filled : (s w : List ℕ) {t u v a b e : List ℕ} → Starts (header y.states d c p y.initial) s t
      → Starts (block_numbers y.blocks) (take (length t - blocks_at) (drop blocks_at t)) a → u ≡ take blocks_at t ++ (a ++ drop (length t - blocks_at) (drop blocks_at t))
      → Starts (cell_numbers 0 y.cells) (take (length u - (blocks_at + 8 * d)) (drop (blocks_at + 8 * d) u)) b
      → v ≡ take (blocks_at + 8 * d) u ++ (b ++ drop (length u - (blocks_at + 8 * d)) (drop (blocks_at + 8 * d) u))
      → Starts (all_operands y.cells) (take (length v - (blocks_at + 8 * d + 12 * c)) (drop (blocks_at + 8 * d + 12 * c) v)) e
      → w ≡ take (blocks_at + 8 * d + 12 * c) v ++ (e ++ drop (length v - (blocks_at + 8 * d + 12 * c)) (drop (blocks_at + 8 * d + 12 * c) v)) → Starts (numbers y) s w
  unfolding numbers
  filled s w h k x l z m o =
      let first : List ℕ = header y.states d c p y.initial in
      let second : List ℕ = block_numbers y.blocks in
      let third : List ℕ = cell_numbers 0 y.cells in
      let two : length second ≡ 2 * d = length_block_numbers y.blocks ∙ ap (λ (k : ℕ). 2 * k) (sym sized.blocks) in
      let three : length third ≡ 3 * c = length_cell_numbers 0 y.cells ∙ ap (λ (k : ℕ). 3 * k) (sym sized.cells) in
      let blocks = starts_then first second s refl h k x in
      let cells = starts_then (first ++ second) third s (omega (arith, length-append first second, two)) blocks l z in
      let all = starts_then ((first ++ second) ++ third) (all_operands y.cells) s (omega (arith, length-append (first ++ second) third, length-append first second, two, three)) cells m o in
      rw (sym sized.blocks, sym sized.cells, sym sized.operands)
      (subst (λ (xs : List ℕ). Starts xs s w) (append_assoc (first ++ second) third (all_operands y.cells) ∙ append_assoc first second (third ++ all_operands y.cells)) all)

  -- the file's length
  pub file_length : length (bytes (numbers y)) ≡ blocks_at + 8 * d + 12 * c + 4 * p
  file_length = rw (sized.blocks, sized.cells, sized.operands) (length_file y)

  -- there is no room for the file, or it is written
  pub short : {s t : List ℕ} → length s < blocks_at + 8 * d + 12 * c + 4 * p → t ≡ s → Emitted y s (Err Memory) t
  short {s} h e =
      let no : ltb (length s) (length (bytes (numbers y))) ≡ true = lt-ltb (length s) (length (bytes (numbers y))) (rw file_length h) in
      record { answer = rw no; written = e ∙ rw no }

  pub done : {s t : List ℕ} → blocks_at + 8 * d + 12 * c + 4 * p ≤ length s → Starts (numbers y) s t → Emitted y s (Ok (blocks_at + 8 * d + 12 * c + 4 * p)) t
  done {s} {t} h w =
      let yes : ltb (length s) (length (bytes (numbers y))) ≡ false = le-ltb (length s) (length (bytes (numbers y))) (rw file_length h) in
      record { answer = rw (yes, file_length); written = w ∙ rw (yes, length_bytes (numbers y)) }

-- the sizes of what nodes with shapes give
module _ (n initial : ℕ) (ts : List Transition) (shapes : List Shape) where
  -- counted sizes are those of the equations
  pub sizes : {d p room : ℕ} → length shapes ≤ node_limit + 1 → d ≡ count_by shape_binds shapes → p ≡ length (all_operands (shape_cells n ts 0 shapes))
      → blocks_at + 8 * d + 12 * (length shapes * n) + 4 * p ≤ room → RoomFor (shape_system n initial ts shapes) (length shapes * n) d p room
  unfolding shape_system
  sizes few b o r = record {
    blocks = b ∙ sym (blocks_counted n 0 shapes);
    cells = sym (length_cells n ts shapes);
    operands = o;
    few_blocks = omega (arith, b, count_by-le-length shape_binds shapes, few);
    roomy = r;
  }

  -- in a buffer that has just room
  pub sizes_just : {d p : ℕ} → length shapes ≤ node_limit + 1 → d ≡ count_by shape_binds shapes → p ≡ length (all_operands (shape_cells n ts 0 shapes))
      → RoomFor (shape_system n initial ts shapes) (length shapes * n) d p (blocks_at + 8 * d + 12 * (length shapes * n) + 4 * p)
  sizes_just few b o = sizes few b o (omega arith)

  module _ {c d p room : ℕ} (sized : RoomFor (shape_system n initial ts shapes) c d p room) where
    pub blocks_are : d ≡ length (shape_blocks n 0 shapes)
    unfolding shape_system
    blocks_are = sized.blocks

    pub cells_are : c ≡ length (shape_cells n ts 0 shapes)
    unfolding shape_system
    cells_are = sized.cells

    pub operands_are : p ≡ length (all_operands (shape_cells n ts 0 shapes))
    unfolding shape_system
    operands_are = sized.operands

    -- the parts of the file, written into the parts of a buffer
    pub filled_parts : (s w : List ℕ) {t u v a b e : List ℕ} → Starts (header n d c p initial) s t
        → Starts (block_numbers (shape_blocks n 0 shapes)) (take (length t - blocks_at) (drop blocks_at t)) a
        → u ≡ take blocks_at t ++ (a ++ drop (length t - blocks_at) (drop blocks_at t))
        → Starts (cell_numbers 0 (shape_cells n ts 0 shapes)) (take (length u - (blocks_at + 8 * d)) (drop (blocks_at + 8 * d) u)) b
        → v ≡ take (blocks_at + 8 * d) u ++ (b ++ drop (length u - (blocks_at + 8 * d)) (drop (blocks_at + 8 * d) u))
        → Starts (all_operands (shape_cells n ts 0 shapes)) (take (length v - (blocks_at + 8 * d + 12 * c)) (drop (blocks_at + 8 * d + 12 * c) v)) e
        → w ≡ take (blocks_at + 8 * d + 12 * c) v ++ (e ++ drop (length v - (blocks_at + 8 * d + 12 * c)) (drop (blocks_at + 8 * d + 12 * c) v))
        → Starts (numbers (shape_system n initial ts shapes)) s w
    unfolding shape_system
    filled_parts s w h k x l z m o = filled (shape_system n initial ts shapes) sized s w h k x l z m o
