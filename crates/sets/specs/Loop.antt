-- The loop of the paper: work out, count a round, stop if equal, else replace.
use Rattle.std.specs.Prelude.{◌≡◌, ℕ, ◌+◌}
use Rattle.sets.specs.States.{States}

-- What a turn does and costs: F v a w r says that from v it holds a and works out w, in r rounds of loops further in.
abbrev pub Step : Type 0 → Type 1
Step A = States → A → States → ℕ → Type 0

-- The paper's loop, with no bound: Loop F v a p says that from v it stops after p rounds in all, and that its last turn held a.
pub data Loop {A : Type 0} (F : Step A) : States → A → ℕ → Type 0 where
  stop : {v : States} {a : A} {r : ℕ} → F v a v r → Loop F v a (r + 1)
  again : {v w : States} {a b : A} {r q : ℕ} → F v a w r → ¬ (w ≡ v) → Loop F w b q → Loop F v b (r + 1 + q)

-- a turn that holds only the set that it starts from: F v w r says that from v it works out w, in r rounds further in
abbrev pub itself : (States → States → ℕ → Type 0) → Step States
itself F v a w r = (a ≡ v) × F v w r
