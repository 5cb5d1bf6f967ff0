-- The loop by a function. With n + 1 turns from where a sign starts, for a monotone function on sets of n states, it is the paper's Loop, in set and
-- in rounds, by `stops` and `loop_one` (proofs/FixedPoint.antt).
use Rattle.std.specs.Prelude.{Bool, true, false, ◌&&◌, [], ◌∷◌, ℕ, zero, suc, ◌+◌}
use Rattle.std.specs.Bool.{beq}
use Rattle.sets.specs.States.{States}

-- whether two sets are equal
unfoldable pub same : States → States → Bool
same [] [] = true
same [] (y ∷ w) = false
same (x ∷ v) [] = false
same (x ∷ v) (y ∷ w) = beq x y && same v w

-- a set and the rounds that it took
abbrev pub Worked : Type 0
Worked = States × ℕ

-- The loop over a function, for at most `fuel` turns: the set where it stops, and the rounds.
unfoldable pub repeated : ℕ → (States → Worked) → States → Worked
repeated zero f v = (v, 0)
repeated (suc fuel) f v =
    let w : Worked = f v in
    elim (same w.0 v) [ true ↦ (v, w.1 + 1) | false ↦ let u : Worked = repeated fuel f w.0 in (u.0, w.1 + 1 + u.1) ]
