-- What a run of the equation route costs, in cents. Each rule is a line, in the order in which the paper applies them.
use Rattle.std.specs.Prelude.{List, ℕ, ◌+◌, ◌*◌, cond, eqb, leb, max}
use Rattle.std.specs.Int.{div_ceil}
use Rattle.sets.specs.Refusals.{Outcome, by_refusal}
use Rattle.solver.specs.File.{sizes_of}
use Rattle.translate.specs.Translating.{file}

-- 2 for each started 1,000 rounds. The library's quotient rounded up is how many are started, by `started` (proofs/Prices.antt).
abbrev pub round_price : ℕ → ℕ
round_price rounds = 2 * div_ceil rounds 1_000

-- 1 for each started 500 cells
abbrev pub cell_price : ℕ → ℕ
cell_price cells = div_ceil cells 500

-- A solved run has a sum for its rounds and its cells. A run of at most 100 cells is free: its sum is 0. The minimum of 5 is applied last.
unfoldable pub solved_price : ℕ → ℕ → ℕ
solved_price rounds cells =
    let cents : ℕ = round_price rounds + cell_price cells in
    let cents : ℕ = cond (leb cells 100) 0 cents in
    let cents : ℕ = max 5 cents in
    cents

-- The price of an outcome: a solved run has its own rule; a spent one (14) pays for its limit, as for so many rounds, and for nothing else; any other
-- refusal costs nothing.
unfoldable pub price : Outcome → ℕ → ℕ → ℕ
price o cells limit =
    by_refusal o.refusal (solved_price o.rounds cells)
    (cond (eqb o.refusal 14) (round_price limit)
    0)

-- The price of a run over the case of these bytes, by its outcome: the cells are those of the case's equation file.
unfoldable pub run_price : List ℕ → ℕ → Outcome → ℕ
run_price b limit o = price o (sizes_of (file b)).cells limit
