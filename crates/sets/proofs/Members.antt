-- Members of a list, in the library's words, and the tests of some and of all elements.
use mathlib.Core.Path.{◌≡◌, refl, sym, subst}
use mathlib.Core.Logic.{∥∥₁_elim}
use mathlib.Core.Bool.{Bool, true, false, ◌||◌}
use mathlib.Core.List.{List, [], ◌∷◌, Mem, Memᴰ, mem-cons_of_mem}
use Prim.Native.Nat.{ℕ, zero, suc, ◌<◌}
use native.Mathlib.Omega.{arith}
use lib.Dec.{T, T_prop}
use lib.ListN.{length, get_or}
use Rattle.sets.specs.Lists.{every, for_some}
use Rattle.sets.proofs.Lists.{or_left, or_right, and_left, and_right, and_both}

-- An element at a place is a member.
pub member_at : {A : Type 0} (xs : List A) (j : ℕ) (d : A) → j < length xs → Mem (get_or xs j d) xs
member_at [] j d h = absurd (omega arith)
member_at (x ∷ xs) zero d h = ∣ Memᴰ.head refl ∣₁
member_at (x ∷ xs) (suc j) d h = mem-cons_of_mem x (member_at xs j d (omega arith))

module _ {A : Type 0} (p : A → Bool) where
  -- A member for which p holds is some element for which it does,
  stands_some : {x : A} {xs : List A} → T (p x) → Memᴰ x xs → T (for_some p xs)
  unfolding for_some
  stands_some t (Memᴰ.head {x = y} {xs = ys} e) = or_left (p y) (for_some p ys) (subst (λ z. T (p z)) e t)
  stands_some t (Memᴰ.tail {x = y} {xs = ys} m) = or_right (p y) (for_some p ys) (stands_some t m)

  pub member_some : (x : A) (xs : List A) → Mem x xs → T (p x) → T (for_some p xs)
  member_some x xs m t = ∥∥₁_elim m (T_prop (for_some p xs)) (stands_some t)

  -- and some such element is a member.
  pub some_member : (xs : List A) → T (for_some p xs) → (x : A) × Mem x xs × T (p x)
  unfolding for_some
  some_member [] t = absurd t
  some_member (x ∷ xs) t = go (p x) refl t (some_member xs)
    where
      go : (b : Bool) → p x ≡ b → T (b || for_some p xs) → (T (for_some p xs) → (y : A) × Mem y xs × T (p y)) → (y : A) × Mem y (x ∷ xs) × T (p y)
      go true e u rest = (x, ∣ Memᴰ.head refl ∣₁, subst T (sym e) tt)
      go false e u rest = let (y, m, h) = rest u in (y, mem-cons_of_mem x m, h)

  -- What holds of all holds of each member,
  stands_every : {x : A} {xs : List A} → T (every p xs) → Memᴰ x xs → T (p x)
  unfolding every
  stands_every t (Memᴰ.head {x = y} {xs = ys} e) = subst (λ z. T (p z)) (sym e) (and_left (p y) (every p ys) t)
  stands_every t (Memᴰ.tail {x = y} {xs = ys} m) = stands_every (and_right (p y) (every p ys) t) m

  pub every_member : (xs : List A) → T (every p xs) → (x : A) → Mem x xs → T (p x)
  every_member xs t x m = ∥∥₁_elim m (T_prop (p x)) (stands_every t)

  -- and what holds of each member holds of all.
  pub member_every : (xs : List A) → ((x : A) → Mem x xs → T (p x)) → T (every p xs)
  unfolding every
  member_every [] h = tt
  member_every (x ∷ xs) h = and_both (p x) (every p xs) (h x ∣ Memᴰ.head refl ∣₁) (member_every xs (λ y m. h y (mem-cons_of_mem x m)))
