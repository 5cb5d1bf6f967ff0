-- P1 to P8 with label records, and cases in which labels are alike: what both routes answer, with the memory that the program lends.
use Rattle.std.specs.Prelude.{◌≡◌, refl, List, [], ◌∷◌, ◌++◌, map, ℕ, ◌+◌, ◌*◌, ◌/◌, length}
use Rattle.sets.specs.Refusals.{refused}
use Rattle.translate.specs.examples.Translations.{halves, labelled}
use Rattle.routes.specs.Route.{direct, equation, program_limit}
use Rattle.routes.specs.examples.Paper.{Example, reported, tally, paper, answer, tally_in}

-- a version 2 case of two states and two labels, with the names and the transitions given as numbers: is there a step of label 0?
fires : List ℕ → List ℕ → List ℕ
unfolding halves
fires names transitions =
    let actions : ℕ = 38 + 2 * length transitions in
    halves
    (2 ∷ 2 ∷ (length transitions / 3) ∷ 2 ∷ 0 ∷ 1 ∷ 2 ∷ 38 ∷ actions ∷ (actions + 4) ∷ 22
    ∷ (names ++ (transitions ++ (2 ∷ 0 ∷ 5 ∷ 0 ∷ 1 ∷ 0 ∷ []))))

-- One step, from state 0 to state 1. Where label 0 accepts its label, the formula holds in state 0, and the nu that the equation route adds stops
-- after a second round; otherwise in no state.
pub firing : List Example
unfolding fires halves reported tally
firing =
    -- a step of label 1, whose names are those of label 0 in another order
    (fires (1 ∷ 2 ∷ 0 ∷ 0 ∷ 2 ∷ 1 ∷ 0 ∷ 0 ∷ []) (0 ∷ 1 ∷ 1 ∷ []), program_limit, reported 1 1 2, reported 1 1 0, tally 1 1)
    -- a name more, a copy of a name more, another name
    ∷ (fires (1 ∷ 2 ∷ 0 ∷ 0 ∷ 2 ∷ 1 ∷ 3 ∷ 0 ∷ []) (0 ∷ 1 ∷ 1 ∷ []), program_limit, reported 0 0 2, reported 0 0 0, tally 1 1)
    ∷ (fires (1 ∷ 0 ∷ 0 ∷ 0 ∷ 1 ∷ 1 ∷ 0 ∷ 0 ∷ []) (0 ∷ 1 ∷ 1 ∷ []), program_limit, reported 0 0 2, reported 0 0 0, tally 1 1)
    ∷ (fires (1 ∷ 1 ∷ 2 ∷ 0 ∷ 1 ∷ 2 ∷ 2 ∷ 0 ∷ []) (0 ∷ 1 ∷ 1 ∷ []), program_limit, reported 0 0 2, reported 0 0 0, tally 1 1)
    -- four names in another order, one of them twice
    ∷ (fires (4 ∷ 3 ∷ 255 ∷ 4 ∷ 255 ∷ 4 ∷ 4 ∷ 3 ∷ []) (0 ∷ 1 ∷ 1 ∷ []), program_limit, reported 1 1 2, reported 1 1 0, tally 1 1)
    -- two silent steps, and a silent one beside one that is not
    ∷ (fires (0 ∷ 0 ∷ 0 ∷ 0 ∷ 0 ∷ 0 ∷ 0 ∷ 0 ∷ []) (0 ∷ 1 ∷ 1 ∷ []), program_limit, reported 1 1 2, reported 1 1 0, tally 1 1)
    ∷ (fires (0 ∷ 0 ∷ 0 ∷ 0 ∷ 1 ∷ 0 ∷ 0 ∷ 0 ∷ []) (0 ∷ 1 ∷ 1 ∷ []), program_limit, reported 0 0 2, reported 0 0 0, tally 1 1)
    -- Steps of different labels are distinct, also where the labels are alike.
    ∷ (fires (1 ∷ 2 ∷ 0 ∷ 0 ∷ 2 ∷ 1 ∷ 0 ∷ 0 ∷ []) (0 ∷ 0 ∷ 1 ∷ 0 ∷ 1 ∷ 1 ∷ 0 ∷ 1 ∷ 1 ∷ []), program_limit, reported 1 1 2, reported 1 1 0, tally 3 2)
    -- a name above the limit, and a name behind a 0, in the record of a label that is not used: both numbers of the tally are 0
    ∷ (fires (1 ∷ 0 ∷ 0 ∷ 0 ∷ 256 ∷ 0 ∷ 0 ∷ 0 ∷ []) (0 ∷ 0 ∷ 1 ∷ []), program_limit, refused 15, refused 15, tally 0 0)
    ∷ (fires (1 ∷ 0 ∷ 0 ∷ 0 ∷ 0 ∷ 0 ∷ 0 ∷ 7 ∷ []) (0 ∷ 0 ∷ 1 ∷ []), program_limit, refused 15, refused 15, tally 0 0)
    ∷ []

-- all of P1 to P8, with a label record for each label, are answered as they are without
pub examples : List Example
unfolding paper labelled firing
examples = map (λ x. (labelled x.0, x.1, x.2, x.3, x.4)) paper ++ firing

-- they come out as given, by both routes
pub runs : (map (answer equation) examples ≡ map (λ (x : Example). x.2) examples)
    × (map (answer direct) examples ≡ map (λ (x : Example). x.3) examples)
    × (map tally_in examples ≡ map (λ (x : Example). x.4) examples)
unfolding answer tally_in examples
runs = (refl, refl, refl)
