-- What runs of the equation route cost, worked out by hand.
use Rattle.std.specs.Prelude.{◌≡◌, refl, List, [], ◌∷◌, map, ℕ}
use Rattle.sets.specs.Refusals.{refused}
use Rattle.translate.specs.examples.Translations.{p1}
use Rattle.routes.specs.Route.{equation, program_limit}
use Rattle.routes.specs.Price.{solved_price, price, run_price}
use Rattle.routes.specs.examples.Paper.{Example, reported, paper, outcome_at}

-- Solved runs: the rounds, the cells and the cents. P1 has 9 cells.
pub solved : List (ℕ × ℕ × ℕ)
solved =
    (4, 9, 5)
    -- at most 100 cells: free however many rounds it took, so the minimum
    ∷ (1, 100, 5)
    ∷ (2_001, 100, 5)
    -- above 100 cells: 6 for three started thousands, 1 for the first 500 cells
    ∷ (2_001, 101, 7)
    -- the minimum, above and at 5
    ∷ (1, 101, 5)
    ∷ (1_000, 101, 5)
    ∷ (1_001, 101, 5)
    ∷ (2_000, 101, 5)
    -- 2 and 3 for the first and the second started 500 cells
    ∷ (2_001, 500, 7)
    ∷ (2_001, 501, 8)
    ∷ (2_001, 1_000, 8)
    ∷ (2_001, 1_001, 9)
    -- a thousand rounds are one started thousand, and the next round starts another
    ∷ (1_000, 16_640, 36)
    ∷ (1_001, 16_640, 38)
    -- the most rounds that a report can tell, and the most cells
    ∷ (18_446_744_073_709_551_615, 16_640, 36_893_488_147_419_138)
    ∷ []

-- the limits of spent runs, and the cents
pub spent : List (ℕ × ℕ)
spent = (0, 0) ∷ (1, 2) ∷ (1_000, 2) ∷ (1_001, 4) ∷ (18_446_744_073_709_551_615, 36_893_488_147_419_104) ∷ []

-- the other refusal numbers: those of the route, and those of other calls so far
pub others : List ℕ
others = 1 ∷ 2 ∷ 3 ∷ 4 ∷ 5 ∷ 6 ∷ 7 ∷ 8 ∷ 9 ∷ 10 ∷ 11 ∷ 12 ∷ 13 ∷ 15 ∷ 16 ∷ 17 ∷ []

-- They come out as given; a spent run pays the same whether it has few cells or many.
pub come_out : (map (λ (x : ℕ × ℕ × ℕ). price (reported 1 3 x.0) x.1 0) solved ≡ map (λ (x : ℕ × ℕ × ℕ). x.2) solved)
    × (map (λ (x : ℕ × ℕ). price (refused 14) 9 x.0) spent ≡ map (λ (x : ℕ × ℕ). x.1) spent)
    × (map (λ (x : ℕ × ℕ). price (refused 14) 16_640 x.0) spent ≡ map (λ (x : ℕ × ℕ). x.1) spent)
    × (map (λ k. price (refused k) 16_640 1_000) others ≡ map (λ k. 0) others)
unfolding solved spent others reported price solved_price
come_out = (refl, refl, refl, refl)

-- what the equation route costs on a case at a limit, with the memory that the program lends
pub cents_at : List ℕ → ℕ → ℕ
unfolding run_price outcome_at
cents_at b limit = run_price b limit (outcome_at equation b limit)

-- P1 to P8 have at most 100 cells. P1 costs 5, and 2 where it is spent at limit 3; P7 is refused.
pub paper_costs : map (λ (x : Example). cents_at x.0 x.1) paper ≡ 5 ∷ 2 ∷ 5 ∷ 5 ∷ 5 ∷ 5 ∷ 5 ∷ 0 ∷ 5 ∷ []
unfolding cents_at paper price solved_price
paper_costs = refl

-- P1 by its limit: spent at 0, which costs nothing, and at 1 to 3; solved at 4, and at the same price at larger ones
pub p1_costs : map (cents_at p1) (0 ∷ 1 ∷ 2 ∷ 3 ∷ 4 ∷ 5 ∷ program_limit ∷ []) ≡ 0 ∷ 2 ∷ 2 ∷ 2 ∷ 5 ∷ 5 ∷ 5 ∷ []
unfolding cents_at p1 price solved_price
p1_costs = refl
