-- The loop with fuel: what its outcome depends on.
use mathlib.Core.Path.{◌≡◌, refl}
use mathlib.Core.Bool.{Bool, true, false}
use Prim.Native.Nat.{ℕ, zero, suc}
use Rattle.sets.specs.States.{States}
use Rattle.sets.specs.computed.Iteration.{Worked, repeated, same}

-- Loops whose turns give the same sets, whatever the rounds, stop at the same set. It is enough that they do on the sets that a loop comes by.
pub repeated_same : (P : States → Type 0) (f g : States → Worked) → ((v : States) → P v → P (g v).0) → ((v : States) → P v → (f v).0 ≡ (g v).0)
    → (m : ℕ) (v : States) → P v → (repeated m f v).0 ≡ (repeated m g v).0
unfolding repeated
repeated_same P f g keeps h zero v p = refl
repeated_same P f g keeps h (suc m) v p = go (same (g v).0 v) refl (repeated_same P f g keeps h m (g v).0 (keeps v p))
  where
    go : (b : Bool) → same (g v).0 v ≡ b → (repeated m f (g v).0).0 ≡ (repeated m g (g v).0).0 → (repeated (suc m) f v).0 ≡ (repeated (suc m) g v).0
    go true e q = rw (h v p, e, repeated)
    go false e q = rw (h v p, e, repeated, h v p) q
