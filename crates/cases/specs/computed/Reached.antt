-- The states that can be reached, by a function. Of an accepted case they are those of Reachable, by `reachable_states` (proofs/Reaching.antt).
use Rattle.std.specs.Prelude.{Bool, false, ◌&&◌, ◌||◌, List, ℕ, suc, eqb}
use Rattle.sets.specs.Lists.{for_some}
use Rattle.sets.specs.States.{States, has, start}
use Rattle.sets.specs.computed.Iteration.{Worked, repeated}
use Rattle.cases.specs.File.{Transition}
use Rattle.cases.specs.Case.{Case}
use Rattle.cases.specs.Meaning.{set_of}

-- whether a transition leads from a state of v to s
abbrev pub led_to : List Transition → States → ℕ → Bool
led_to ts v s = for_some (λ t. has v t.source && eqb t.target s) ts

-- The initial state, and the states that transitions lead to from those found before: a turn, which costs no round.
abbrev pub search_turn : Case → States → Worked
search_turn c v = (set_of c.states (λ s. eqb s c.initial || led_to c.transitions v s), 0)

-- from no state on, in at most n + 1 turns
unfoldable pub reachable : Case → States
reachable c = (repeated (suc c.states) (search_turn c) (start c.states false)).0
