-- Functions on sets of states: the turn that one makes, and its dual.
use Rattle.std.specs.Prelude.{◌≡◌, not, map}
use Rattle.sets.specs.States.{States}
use Rattle.sets.specs.Loop.{Step}
use Rattle.sets.specs.computed.Iteration.{Worked}

-- the turns of a function, which hold what another gives
abbrev pub step_of : {A : Type 0} → (States → A) → (States → Worked) → Step A
step_of held f v a w r = (a ≡ held v) × (f v ≡ (w, r))

-- the dual of a function: complement, apply, complement
abbrev pub dual : (States → Worked) → States → Worked
dual f v = (map not (f (map not v)).0, (f (map not v)).1)
