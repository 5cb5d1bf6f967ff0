-- Worked values: what solve answers of files whose answer the paper gives, or that are worked out here by hand.
use Rattle.std.specs.Prelude.{◌≡◌, refl, ℕ, ◌+◌, ◌-◌, ◌*◌, ◌/◌, ◌%◌, ◌^◌, set, take, replicate}
use mathlib.Core.List.{List, [], ◌∷◌, ◌++◌, map, flat_map}
use Rattle.sets.specs.Lists.{numbers_from, every, for_some, sum}
use Rattle.sets.specs.States.{size, update}
use Rattle.sets.specs.computed.Iteration.{repeated, same}
use Rattle.sets.specs.Words.{words, number_of_bits, word_count, state_limit}
use Rattle.solver.specs.Cells.{value}
use Rattle.solver.specs.computed.Solved.{evaluate, work_out, solved, run}
use Rattle.solver.specs.File.{u32, blocks_at, blocks, operands, entries, entry_cell, cells, block_limit, cell_limit, operand_limit}
use Rattle.solver.specs.Conditions.{layout_ok, tables_ok, block_ok, cell_ok, arity, operands_before}
use Rattle.sets.specs.Refusals.{Outcome, refused, first_of, outcome_by}
use Rattle.solver.specs.Outcome.{bad_layout, bad_table, solve_too_short, solve_exceeds, report, solve_conditions, solve_refusal, solve_outcome, solve_marks, solve_work}

-- numbers of 32 bits as bytes, low byte first
bytes : List ℕ → List ℕ
bytes [] = []
bytes (x ∷ xs) = x % 256 ∷ x / 256 % 256 ∷ x / 65536 % 256 ∷ x / 16777216 % 256 ∷ bytes xs

-- P1, number by number: header, block, nine cells, two operands
p1 : List ℕ
p1 =
    1 ∷ 3 ∷ 1 ∷ 9 ∷ 2 ∷ 0 ∷ 36 ∷ 44 ∷ 152
    ∷ 0 ∷ 3
    ∷ 2 ∷ 0 ∷ 0 ∷ 2 ∷ 0 ∷ 1 ∷ 2 ∷ 0 ∷ 2
    ∷ 0 ∷ 0 ∷ 1 ∷ 0 ∷ 1 ∷ 1 ∷ 0 ∷ 2 ∷ 0
    ∷ 2 ∷ 0 ∷ 0 ∷ 2 ∷ 0 ∷ 1 ∷ 2 ∷ 0 ∷ 2
    ∷ 7 ∷ 8 ∷ []

-- P1 with other numbers at some places: 9 is the block, cell i stands at 11 + 3 i, the operands at 38
changed : List (ℕ × ℕ) → List ℕ
unfolding bytes p1
changed cs = bytes (go cs p1)
  where
    go : List (ℕ × ℕ) → List ℕ → List ℕ
    go [] xs = xs
    go (c ∷ cs) xs = go cs (set xs c.0 c.1)

-- a file with the offsets that its counts ask for
file : (n d c p initial : ℕ) → List ℕ → List ℕ
unfolding bytes
file n d c p initial tables = bytes (1 ∷ n ∷ d ∷ c ∷ p ∷ initial ∷ blocks_at ∷ (blocks_at + 8 * d) ∷ (blocks_at + 8 * d + 12 * c) ∷ tables)

-- P2 and P3: blocks of the signs a and b, and the cells of the nodes binder, binder, or, diamond 0, X, diamond 1, Y in states 0 and 1
diamonds : ℕ → ℕ → List ℕ
unfolding file
diamonds a b = file 2 2 14 6 0
    (a ∷ 2 ∷ b ∷ 4
    ∷ 2 ∷ 0 ∷ 0 ∷ 2 ∷ 0 ∷ 1
    ∷ 2 ∷ 1 ∷ 0 ∷ 2 ∷ 1 ∷ 1
    ∷ 1 ∷ 0 ∷ 2 ∷ 1 ∷ 2 ∷ 2
    ∷ 1 ∷ 4 ∷ 1 ∷ 1 ∷ 5 ∷ 0
    ∷ 2 ∷ 0 ∷ 0 ∷ 2 ∷ 0 ∷ 1
    ∷ 1 ∷ 5 ∷ 0 ∷ 1 ∷ 5 ∷ 1
    ∷ 2 ∷ 1 ∷ 0 ∷ 2 ∷ 1 ∷ 1
    ∷ 6 ∷ 10 ∷ 7 ∷ 11 ∷ 9 ∷ 12 ∷ [])

-- d nested nu over true, with one state
nested : ℕ → List ℕ
unfolding file numbers_from flat_map
nested d = file 1 d (d + 1) 0 0
    (flat_map (λ k. 1 ∷ (k + 1) ∷ []) (numbers_from 0 d) ++ (flat_map (λ k. 2 ∷ k ∷ 0 ∷ []) (numbers_from 0 d) ++ (0 ∷ 0 ∷ 0 ∷ [])))

-- one block of one state, whose right side is an empty list: 0 an and, 1 an or
empty : ℕ → ℕ → List ℕ
unfolding file
empty sign kind = file 1 1 1 0 0 (sign ∷ 0 ∷ kind ∷ 0 ∷ 0 ∷ [])

-- Blocks that descend and overlap: X is a nu at cells 1 and 2, Y a mu at cells 0 and 1. So X 0 = X 0, X 1 = false (an empty or),
-- Y 0 = Y 1 and Y 1 = X 0. X starts as 11. Then Y goes 00, 01, 11, 11, three rounds, and X becomes 10 in one;
-- Y takes three rounds again, and X stays 10 in one: eight rounds, and state 0 alone.
overlapping : ℕ → List ℕ
unfolding file
overlapping initial = file 2 2 3 0 initial (1 ∷ 1 ∷ 0 ∷ 0 ∷ 2 ∷ 1 ∷ 1 ∷ 2 ∷ 0 ∷ 0 ∷ 1 ∷ 0 ∷ 0 ∷ [])

-- the largest number of 32 bits
most32 : ℕ
most32 = 2 ^ 32 - 1

-- Files that are refused with 11.
bad_layouts : List (List ℕ)
unfolding bytes p1 changed file nested most32
bad_layouts =
    []
    ∷ take 35 (bytes p1)
    -- version
    ∷ changed ((0, 0) ∷ [])
    ∷ changed ((0, 2) ∷ [])
    -- states
    ∷ changed ((1, 0) ∷ [])
    ∷ changed ((1, state_limit + 1) ∷ [])
    ∷ changed ((1, most32) ∷ [])
    -- blocks: none, and one nested nu too many
    ∷ file 1 0 1 0 0 (0 ∷ 0 ∷ 0 ∷ [])
    ∷ nested (block_limit + 1)
    ∷ changed ((2, most32) ∷ [])
    -- cells; of one cell or operand too many only the header is here, so that the length differs too
    ∷ file 1 1 0 0 0 (0 ∷ 0 ∷ [])
    ∷ changed ((3, cell_limit + 1) ∷ (8, blocks_at + 8 + 12 * (cell_limit + 1)) ∷ [])
    ∷ changed ((3, most32) ∷ [])
    -- operands
    ∷ changed ((4, operand_limit + 1) ∷ [])
    ∷ changed ((4, most32) ∷ [])
    -- initial state
    ∷ changed ((5, 3) ∷ [])
    -- offsets
    ∷ changed ((6, 37) ∷ [])
    ∷ changed ((7, 45) ∷ [])
    ∷ changed ((8, 153) ∷ [])
    -- length
    ∷ (bytes p1 ++ (0 ∷ []))
    ∷ take 159 (bytes p1)
    ∷ []

-- Files that are refused with 12.
bad_tables : List (List ℕ)
unfolding changed file most32
bad_tables =
    -- a block's sign
    changed ((9, 2) ∷ [])
    -- its first cell: too few cells follow, and fewer cells than states
    ∷ changed ((10, 7) ∷ [])
    ∷ changed ((10, most32) ∷ [])
    ∷ file 3 1 2 0 0 (0 ∷ 0 ∷ 0 ∷ 0 ∷ 0 ∷ 0 ∷ 0 ∷ 0 ∷ [])
    -- a cell's kind
    ∷ changed ((11, 3) ∷ [])
    -- a variable's block and state
    ∷ changed ((12, 1) ∷ [])
    ∷ changed ((13, 3) ∷ [])
    -- the first operand of a list, and of an empty list
    ∷ changed ((24, 0) ∷ [])
    ∷ changed ((27, 0) ∷ [])
    -- operand counts: too few, too many
    ∷ changed ((25, 0) ∷ (27, 1) ∷ [])
    ∷ changed ((28, 1) ∷ [])
    ∷ changed ((28, most32) ∷ [])
    -- an operand of cell 3: the cell itself, one before it, one past the last
    ∷ changed ((38, 3) ∷ [])
    ∷ changed ((38, 2) ∷ [])
    ∷ changed ((38, 9) ∷ [])
    ∷ []

-- A file, the lent numbers of working bytes and mark words, the limit, and what solve answers.
abbrev pub Example : Type 0
Example = List ℕ × ℕ × ℕ × ℕ × Outcome

-- a report of verdict, count and rounds
reported : ℕ → ℕ → ℕ → Outcome
reported v c r = record { refusal = 0; verdict = v; count = c; rounds = r }

-- with memory and rounds enough for the file: 14 cells at most, and 8 rounds
ample : List ℕ → Outcome → Example
ample e o = (e, 14, word_count, 8, o)

pub examples : List Example
unfolding bytes p1 changed diamonds nested empty overlapping reported ample bad_layouts bad_tables
examples =
    -- P1
    (bytes p1, 9, word_count, 4, reported 1 3 4)
    ∷ (bytes p1, 9, word_count, 3, refused 14)
    ∷ (bytes p1, 9, word_count, 0, refused 14)
    ∷ (bytes p1, 8, word_count, 4, refused 13)
    ∷ (bytes p1, 9, word_count - 1, 4, refused 13)
    -- P2 and P3
    ∷ ample (diamonds 1 0) (reported 1 2 4)
    ∷ ample (diamonds 0 1) (reported 0 0 4)
    -- P4 and P8
    ∷ ample (nested 1) (reported 1 1 1)
    ∷ (nested block_limit, block_limit + 1, word_count, block_limit, reported 1 1 block_limit)
    -- an empty and, an empty or, each as a mu and as a nu
    ∷ ample (empty 0 0) (reported 1 1 2)
    ∷ ample (empty 1 0) (reported 1 1 1)
    ∷ ample (empty 0 1) (reported 0 0 1)
    ∷ ample (empty 1 1) (reported 0 0 2)
    -- from either state
    ∷ ample (overlapping 0) (reported 1 1 8)
    ∷ ample (overlapping 1) (reported 0 1 8)
    -- the first condition that holds counts
    ∷ (bytes p1, 8, word_count, 0, refused 13)
    ∷ (changed ((38, 3) ∷ []), 0, 0, 0, refused 12)
    ∷ (changed ((0, 2) ∷ (38, 3) ∷ []), 0, 0, 0, refused 11)
    ∷ (map (λ e. ample e (refused 11)) bad_layouts ++ map (λ e. ample e (refused 12)) bad_tables)

-- what solve answers of an example, with all that this computes with
pub answer : Example → Outcome
unfolding solve_outcome solve_conditions solve_refusal first_of outcome_by bad_layout bad_table solve_too_short solve_exceeds run report solved repeated evaluate work_out value update
    u32 blocks operands entries entry_cell cells layout_ok tables_ok block_ok cell_ok arity operands_before sum numbers_from every for_some same size
answer x = solve_outcome x.0 x.1 x.2 x.3

-- each example comes out as given
pub come_out : map answer examples ≡ map (λ (x : Example). x.4) examples
unfolding answer examples
come_out = refl

-- k lent bytes or words that hold 9
abbrev nines : ℕ → List ℕ
nines k = replicate k 9

-- Lent places as solve leaves them: marks and working bytes of P1 and of P2, one more than needed, and of P1 refused with 14 and 13.
pub places : List (List ℕ)
unfolding bytes p1 diamonds
places =
    solve_marks (bytes p1) 9 (nines (word_count + 1)) 4
    ∷ solve_work (bytes p1) (nines 10) word_count 4
    ∷ solve_marks (diamonds 1 0) 14 (nines (word_count + 1)) 4
    ∷ solve_work (diamonds 1 0) (nines 15) word_count 4
    ∷ solve_marks (bytes p1) 9 (nines (word_count + 1)) 3
    ∷ solve_work (bytes p1) (nines 8) word_count 4
    ∷ []

-- a first word, zeros in the other words of a set, and 9 behind them
abbrev first : ℕ → List ℕ
first w = w ∷ (replicate (word_count - 1) 0 ++ (9 ∷ []))

pub after : places ≡
    first 7
    ∷ (1 ∷ 1 ∷ 1 ∷ 1 ∷ 1 ∷ 1 ∷ 1 ∷ 1 ∷ 1 ∷ 9 ∷ [])
    ∷ first 3
    ∷ (1 ∷ 1 ∷ 1 ∷ 1 ∷ 1 ∷ 1 ∷ 1 ∷ 0 ∷ 1 ∷ 1 ∷ 0 ∷ 1 ∷ 1 ∷ 1 ∷ 9 ∷ [])
    ∷ nines (word_count + 1)
    ∷ nines 8
    ∷ []
unfolding answer places solve_marks solve_work words number_of_bits
after = refl

-- the limits as the paper has them
pub limits : state_limit ∷ block_limit ∷ cell_limit ∷ operand_limit ∷ [] ≡ 256 ∷ 6 ∷ 16_640 ∷ 133_120 ∷ []
limits = refl
