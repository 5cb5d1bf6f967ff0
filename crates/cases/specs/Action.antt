-- Action formulas, and the labels that they accept: Sat of the LTS2PBES tables, for labels without data.
use Rattle.std.specs.Prelude.{Bool, true, false, not, ◌&&◌, ◌||◌, List, ℕ, get_or}

-- A label node has the set of the labels that are alike to its own: label x is in it if the value at x is true.
pub data Action : Type 0 where
  False True : Action
  Label : List Bool → Action
  Not : Action → Action
  And Or Implies : Action → Action → Action

-- whether a label is accepted
unfoldable pub accepts : Action → ℕ → Bool
accepts False x = false
accepts True x = true
accepts (Label labels) x = get_or labels x false
accepts (Not a) x = not (accepts a x)
accepts (And a b) x = accepts a x && accepts b x
accepts (Or a b) x = accepts a x || accepts b x
accepts (Implies a b) x = not (accepts a x) || accepts b x
