-- Sets of states, inclusion, the order in which an iteration of either sign goes; and a set of states for each variable.
use Rattle.std.specs.Prelude.{◌≡◌, Bool, true, false, cond, List, [], ◌∷◌, ℕ, ◌+◌, T, eqb, length, get_or, replicate}

-- A set of n states is a list of n truth values: state s is in it if the value at s is true.
abbrev pub States : Type 0
States = List Bool

abbrev pub has : States → ℕ → Bool
has v s = get_or v s false

-- each state of v is one of w
abbrev pub Subset : States → States → Type 0
Subset v w = (s : ℕ) → T (has v s) → T (has w s)

-- how many states a set has
unfoldable pub size : States → ℕ
size [] = 0
size (x ∷ v) = cond x 1 0 + size v

-- A sign is false for mu and true for nu. An iteration starts at the empty set for mu, at the full set for nu.
abbrev pub start : ℕ → Bool → States
start n sign = replicate n sign

-- v stands before w: it is smaller for mu, larger for nu
abbrev pub Before : Bool → States → States → Type 0
Before false v w = Subset v w
Before true v w = Subset w v

-- v is the least (mu) or the greatest (nu) of the sets of n states with the property P
pub record Extremal (n : ℕ) (sign : Bool) (P : States → Type 0) (v : States) : Type 0 where
  pub sized : length v ≡ n
  pub holds : P v
  pub first : (u : States) → length u ≡ n → P u → Before sign v u

-- A valuation gives each variable, by the number of its block or its binder, a set of states.
abbrev pub Valuation : Type 0
Valuation = ℕ → States

-- the valuation with v for variable k
unfoldable pub update : Valuation → ℕ → States → Valuation
update ρ k v j = cond (eqb j k) v (ρ j)

-- every variable has the empty set of n states
abbrev pub all_empty : ℕ → Valuation
all_empty n k = replicate n false

-- every variable has a set of n states
abbrev pub Sized : ℕ → Valuation → Type 0
Sized n ρ = (k : ℕ) → length (ρ k) ≡ n
