-- The loop with no bound, seen from its head, where the run from the set held is still to come: one turn of it, and then it stops or goes on.
use mathlib.Core.Path.{◌≡◌, refl}
use Prim.Native.Nat.{ℕ, ◌+◌, ◌≤◌}
use native.Mathlib.Omega.{arith}
use Rattle.sets.specs.States.{States}
use Rattle.sets.specs.Loop.{Step, Loop, stop, again}

-- What is left of a loop whose last turn holds u, after `used` rounds of `total`: from the set that it is at, of which something is known.
pub record Left {A : Type 0} (F : Step A) (Known : States → Type 0) (u : A) (used total : ℕ) : Type 0 where
  pub now : States
  pub known : Known now
  pub rest : ℕ
  pub run : Loop F now u rest
  pub sum : used + rest ≡ total

-- the next turn of a loop from v in p rounds
pub record Turn {A : Type 0} (F : Step A) (v : States) (p : ℕ) : Type 0 where
  pub held : A
  pub next : States
  pub took : ℕ
  pub step : F v held next took
  pub less : took + 1 ≤ p

-- the last one, which holds u and gives v itself
pub record Last {A : Type 0} (F : Step A) (v : States) (u : A) (p : ℕ) : Type 0 where
  pub took : ℕ
  pub step : F v u v took
  pub sum : p ≡ took + 1

-- one that is not the last, and what comes after it
pub record Further {A : Type 0} (F : Step A) (v : States) (u : A) (p : ℕ) : Type 0 where
  pub held : A
  pub next : States
  pub took : ℕ
  pub step : F v held next took
  pub rest : ℕ
  pub run : Loop F next u rest
  pub sum : p ≡ took + 1 + rest

module _ {A : Type 0} {F : Step A} where
  -- Each loop has a next turn.
  pub turn : {v : States} {u : A} {p : ℕ} → Loop F v u p → Turn F v p
  turn {v} {u} (stop {r = r} f) = record { held = u; next = v; took = r; step = f; less = omega arith }
  turn (again {w = w} {a = a} {r = r} f d k) = record { held = a; next = w; took = r; step = f; less = omega arith }

  -- If each turn from v gives v itself, it is the last.
  pub stops_here : {v : States} {u : A} {p : ℕ} → ((a : A) (w : States) (r : ℕ) → F v a w r → w ≡ v) → Loop F v u p → Last F v u p
  stops_here h (stop {r = r} f) = record { took = r; step = f; sum = refl }
  stops_here h (again {w = w} {a = a} {r = r} f d k) = absurd (d (h a w r f))

  -- If none does, it is not.
  pub goes_on : {v : States} {u : A} {p : ℕ} → ((a : A) (w : States) (r : ℕ) → F v a w r → ¬ (w ≡ v)) → Loop F v u p → Further F v u p
  goes_on {v} {u} h (stop {r = r} f) = absurd (h u v r f refl)
  goes_on h (again {w = w} {a = a} {r = r} {q = q} f d k) = record { held = a; next = w; took = r; step = f; rest = q; run = k; sum = refl }
