-- Further cases, worked out by hand: what both routes answer.
use Rattle.std.specs.Prelude.{◌≡◌, refl, List, [], ◌∷◌, map, ℕ}
use Rattle.sets.specs.Refusals.{refused}
use Rattle.translate.specs.examples.Translations.{halves, case_file, p1, p4, copied, middle, still}
use Rattle.routes.specs.Route.{direct, equation, program_limit}
use Rattle.routes.specs.examples.Paper.{Example, reported, tally, answer, tally_in}

p1_less : List ℕ
unfolding case_file
p1_less = case_file 3 2 2 0 1 3 (0 ∷ 0 ∷ 1 ∷ 0 ∷ 0 ∷ 1 ∷ 1 ∷ 0 ∷ 7 ∷ 0 ∷ 4 ∷ 0 ∷ 6 ∷ 0 ∷ [])

p1_clicks : List ℕ
unfolding case_file
p1_clicks = case_file 3 3 2 0 1 3 (0 ∷ 0 ∷ 1 ∷ 0 ∷ 0 ∷ 1 ∷ 1 ∷ 1 ∷ 2 ∷ 2 ∷ 0 ∷ 7 ∷ 0 ∷ 4 ∷ 0 ∷ 6 ∷ 0 ∷ [])

pub further : List Example
unfolding p1 p1_less p1_clicks p4 copied middle still case_file halves reported tally
further =
    -- P1 with a limit that is just enough
    (p1, 4, reported 1 3 4, reported 1 3 4, tally 3 2)
    -- P4 with limit 0: direct takes no round
    ∷ (p4, 0, refused 14, reported 1 1 0, tally 0 0)
    -- Binders side by side, mu X X and nu Y Y: their rounds add up in direct. In the equations each of two rounds of the nu before them takes a
    -- round of X, for which Y takes one.
    ∷ (still 5 (2 ∷ 0 ∷ 7 ∷ 0 ∷ 6 ∷ 1 ∷ 8 ∷ 0 ∷ 6 ∷ 3 ∷ []), program_limit, reported 0 0 6, reported 0 0 2, tally 0 0)
    -- P1 without its last transition: all states hold, and state 2 cannot be reached. From none, the rounds find 1 and 2, all, and all again.
    ∷ (p1_less, program_limit, reported 1 2 3, reported 1 2 3, tally 2 1)
    -- Copies and equal ends under different labels: the initial state 1 has no transition, and only state 0 is marked, which cannot be reached. The third
    -- and the fifth record are copies.
    ∷ (copied, program_limit, reported 0 0 2, reported 0 0 2, tally 5 3)
    -- P1 with the action formula label 0: neither 1 nor 2 has a transition that is accepted, so both hold at once. State 2 is reached by label 1, which is not
    -- accepted. The rounds find the same as without that transition.
    ∷ (p1_clicks, program_limit, reported 1 3 3, reported 1 3 3, tally 3 2)
    -- A box into the middle of an action formula: state 1 has no accepted transition, state 0 a loop.
    ∷ (middle, program_limit, reported 0 1 2, reported 0 1 2, tally 4 4)
    ∷ []

pub runs : (map (answer equation) further ≡ map (λ (x : Example). x.2) further)
    × (map (answer direct) further ≡ map (λ (x : Example). x.3) further)
    × (map tally_in further ≡ map (λ (x : Example). x.4) further)
unfolding answer tally_in further
runs = (refl, refl, refl)
