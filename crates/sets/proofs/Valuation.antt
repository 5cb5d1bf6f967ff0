-- Laws of valuations.
use mathlib.Core.Path.{◌≡◌, refl}
use mathlib.Core.Bool.{Bool, true, false, cond}
use Prim.Native.Nat.{ℕ}
use borrow.Author.Tests.{eq-eqb, ne_eqb}
use lib.Dec.{eqb}
use lib.ListN.{length}
use Rattle.sets.specs.States.{States, Subset, Valuation, update, Sized}

-- The set of variable k is v, and those of the others are as before.
pub update_same : (ρ : Valuation) (k : ℕ) (v : States) → update ρ k v k ≡ v
unfolding update
update_same ρ k v = rw (eq-eqb k k refl)

pub update_other : (ρ : Valuation) (k : ℕ) (v : States) (j : ℕ) → ¬ (j ≡ k) → update ρ k v j ≡ ρ j
unfolding update
update_other ρ k v j d = rw (ne_eqb j k d)

-- each set of ρ is in that of σ
abbrev pub Included : Valuation → Valuation → Type 0
Included ρ σ = (k : ℕ) → Subset (ρ k) (σ k)

-- Updating keeps what holds of each variable's sets in two valuations, where it holds of the sets that are put in.
pub update_kept : (E : States → States → Type 0) (ρ σ : Valuation) (k : ℕ) (v w : States) → ((j : ℕ) → E (ρ j) (σ j)) → E v w
    → (j : ℕ) → E (update ρ k v j) (update σ k w j)
unfolding update
update_kept E ρ σ k v w h g j = go (eqb j k)
  where
    go : (b : Bool) → E (cond b v (ρ j)) (cond b w (σ j))
    go true = g
    go false = h j

-- So it keeps the number of states, and inclusion.
pub update_sized : {n : ℕ} (ρ : Valuation) (k : ℕ) (v : States) → Sized n ρ → length v ≡ n → Sized n (update ρ k v)
update_sized {n} ρ k v r o = update_kept (λ x y. length x ≡ n) ρ ρ k v v r o

pub update_mono : (ρ σ : Valuation) (k : ℕ) (v w : States) → Included ρ σ → Subset v w → Included (update ρ k v) (update σ k w)
update_mono = update_kept Subset
