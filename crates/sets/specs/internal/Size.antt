-- The number of states of a set that is held in words.
use Rattle.std.specs.Prelude.{◌≡◌, List, ℕ, ◌≤◌, length}
use Rattle.sets.specs.States.{States, size}
use Rattle.sets.specs.Words.{words, word_count, state_limit}

-- r is the size of the set that the words hold, if they hold one that has room in them
abbrev pub SizeIs : List ℕ → ℕ → Type 0
SizeIs ws r = (v : States) → length v ≤ state_limit → ws ≡ words word_count v → r ≡ size v
