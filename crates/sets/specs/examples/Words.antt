-- Worked values: a set in words, and how many states it has.
use Rattle.std.specs.Prelude.{◌≡◌, refl, true, false, [], ◌∷◌, ◌++◌, map, replicate}
use Rattle.std.specs.Int.Count.{ones}
use Rattle.sets.specs.Lists.{numbers_from, keep, sum}
use Rattle.sets.specs.States.{States, size}
use Rattle.sets.specs.Words.{words, number_of_bits, marked, ones_of, marked_below}

-- of 70 states those with the numbers 0, 2 and 65
abbrev spread : States
spread = true ∷ false ∷ true ∷ (replicate 62 false ++ (true ∷ replicate 4 false))

-- two words hold it; one word has no room for 65
pub held : words 2 spread ∷ words 1 spread ∷ [] ≡ (5 ∷ 2 ∷ []) ∷ (5 ∷ []) ∷ []
unfolding words number_of_bits
held = refl

-- its size; the ones of its words; of two words the states below 70, 66, 65, 3 and 2 whose bit is 1, and below 70 of one word. So below 65 not all ones count.
pub counted : size spread ∷ ones_of (5 ∷ 2 ∷ []) ∷ ones_of (5 ∷ []) ∷ (map (marked_below (5 ∷ 2 ∷ [])) (70 ∷ 66 ∷ 65 ∷ 3 ∷ 2 ∷ []) ++ (marked_below (5 ∷ []) 70 ∷ []))
    ≡ 3 ∷ 3 ∷ 2 ∷ 3 ∷ 3 ∷ 2 ∷ 2 ∷ 1 ∷ 2 ∷ []
unfolding size ones sum keep numbers_from marked
counted = refl
