-- Equality of sets, and the order in which an iteration of either sign goes.
use mathlib.Core.Path.{◌≡◌, refl, sym, ap, ap₂, subst, ◌∙◌}
use mathlib.Core.Bool.{Bool, true, false, beq, true≢false}
use mathlib.Core.List.{[], ◌∷◌}
use Prim.Native.Nat.{ℕ, zero, suc, ◌-◌, ◌≤◌, ◌<◌}
use native.Mathlib.Omega.{arith}
use borrow.Author.Tests.{ltb-true, ltb-false}
use lib.Dec.{T, ltb}
use lib.ListN.{length, replicate}
use Rattle.sets.specs.States.{States, has, Subset, size, start, Before, Extremal}
use Rattle.sets.specs.computed.Iteration.{same}
use Rattle.sets.specs.Words.{bit}
use Rattle.sets.proofs.Lists.{and_left, and_right}

-- same says true only of equal sets
beq_eq : (a b : Bool) → T (beq a b) → a ≡ b
beq_eq true true t = refl
beq_eq true false t = absurd t
beq_eq false true t = absurd t
beq_eq false false t = refl

same_true : (x y : States) → T (same x y) → x ≡ y
unfolding same
same_true [] [] t = refl
same_true [] (b ∷ y) t = absurd t
same_true (a ∷ x) [] t = absurd t
same_true (a ∷ x) (b ∷ y) t = ap₂ ◌∷◌ (beq_eq a b (and_left (beq a b) (same x y) t)) (same_true x y (and_right (beq a b) (same x y) t))

pub same_eq : (x y : States) → same x y ≡ true → x ≡ y
same_eq x y e = same_true x y (subst T (sym e) tt)

-- and of every set and itself
pub same_refl : (x : States) → same x x ≡ true
unfolding same
same_refl [] = refl
same_refl (true ∷ x) = same_refl x
same_refl (false ∷ x) = same_refl x

-- same says false only of unequal sets
pub same_ne : (x y : States) → same x y ≡ false → ¬ (x ≡ y)
same_ne x y d e = true≢false (sym (same_refl x) ∙ ap (λ (z : States). same x z) e ∙ d)

-- A truth value counts 1 or 0, in the order of implication.
bit_le : (a b : Bool) → (T a → T b) → bit a ≤ bit b
bit_le true true h = omega arith
bit_le true false h = absurd (h tt)
bit_le false true h = omega arith
bit_le false false h = omega arith

bit_eq : (a b : Bool) → bit a ≡ bit b → a ≡ b
bit_eq true true e = refl
bit_eq true false e = absurd (omega arith)
bit_eq false true e = absurd (omega arith)
bit_eq false false e = refl

-- A set has at most as many states as its length, one if it has any, and no fewer than a set that it includes.
pub size_length : (x : States) → size x ≤ length x
unfolding size
size_length [] = omega arith
size_length (a ∷ x) = omega (arith, size_length x, bit_le a true (λ t. tt))

pub size_some : (x : States) (s : ℕ) → T (has x s) → 1 ≤ size x
unfolding size
size_some [] s t = absurd t
size_some (true ∷ x) zero t = omega arith
size_some (false ∷ x) zero t = absurd t
size_some (a ∷ x) (suc s) t = omega (arith, size_some x s t)

pub size_subset : (x y : States) → length x ≡ length y → Subset x y → size x ≤ size y
unfolding size
size_subset [] y e h = omega arith
size_subset (a ∷ x) [] e h = absurd (omega arith)
size_subset (a ∷ x) (b ∷ y) e h = omega (arith, bit_le a b (h 0), size_subset x y (omega arith) (λ s. h (suc s)))

-- If it has no more, they are equal.
pub size_eq : (x y : States) → length x ≡ length y → Subset x y → size y ≤ size x → x ≡ y
unfolding size
size_eq [] [] e h l = refl
size_eq [] (b ∷ y) e h l = absurd (omega arith)
size_eq (a ∷ x) [] e h l = absurd (omega arith)
size_eq (a ∷ x) (b ∷ y) e h l =
    let p = bit_le a b (h 0) in
    let o : length x ≡ length y = omega arith in
    let q = size_subset x y o (λ s. h (suc s)) in
    ap₂ ◌∷◌ (bit_eq a b (omega (arith, p, q))) (size_eq x y o (λ s. h (suc s)) (omega (arith, p, q)))

-- If they are not equal, it has more.
pub size_less : (x y : States) → length x ≡ length y → Subset x y → ¬ (x ≡ y) → size x < size y
size_less x y e h d = go (ltb (size x) (size y)) refl
  where
    go : (b : Bool) → ltb (size x) (size y) ≡ b → size x < size y
    go true t = ltb-true (size x) (size y) t
    go false t = absurd (d (size_eq x y e h (ltb-false (size x) (size y) t)))

-- Sets that include each other are equal.
pub subset_antisym : (x y : States) → length x ≡ length y → Subset x y → Subset y x → x ≡ y
subset_antisym x y e p q = size_eq x y e p (size_subset y x (sym e) q)

-- Before is an order on the sets of as many states.
pub before_refl : (sign : Bool) (x : States) → Before sign x x
before_refl false x = λ s t. t
before_refl true x = λ s t. t

pub before_eq : (sign : Bool) {x y : States} → x ≡ y → Before sign x y
before_eq sign {x} e = subst (λ (z : States). Before sign x z) e (before_refl sign x)

pub before_trans : (sign : Bool) (x y z : States) → Before sign x y → Before sign y z → Before sign x z
before_trans false x y z p q = λ s t. q s (p s t)
before_trans true x y z p q = λ s t. p s (q s t)

pub before_antisym : (sign : Bool) (x y : States) → length x ≡ length y → Before sign x y → Before sign y x → x ≡ y
before_antisym false x y e p q = subset_antisym x y e p q
before_antisym true x y e p q = subset_antisym x y e q p

-- the full set includes each set
full : (n : ℕ) (u : States) → length u ≡ n → Subset u (replicate n true)
full n [] e s t = absurd t
full zero (x ∷ u) e s t = absurd (omega arith)
full (suc n) (x ∷ u) e zero t = tt
full (suc n) (x ∷ u) e (suc s) t = full n u (omega arith) s t

-- the empty set has no state, and none to count
pub empty : (n s : ℕ) → T (has (replicate n false) s) → ⊥
empty zero s t = t
empty (suc n) zero t = t
empty (suc n) (suc s) t = empty n s t

pub size_none : (n : ℕ) → size (replicate n false) ≡ 0
unfolding size
size_none zero = refl
size_none (suc n) = omega (arith, size_none n)

-- the start of an iteration stands before every set
pub start_first : (sign : Bool) (n : ℕ) (u : States) → length u ≡ n → Before sign (start n sign) u
start_first false n u e = λ s t. absurd (empty n s t)
start_first true n u e = full n u e

-- how many states an iteration can still add (mu) or take away (nu)
unfoldable pub room : Bool → States → ℕ
room false x = length x - size x
room true x = size x

-- that is at most the number of all states
pub room_length : (sign : Bool) (x : States) → room sign x ≤ length x
unfolding room
room_length false x = omega arith
room_length true x = size_length x

-- a step forward leaves less room
pub room_less : (sign : Bool) (x y : States) → length x ≡ length y → Before sign x y → ¬ (y ≡ x) → room sign y < room sign x
unfolding room
room_less false x y e h d = omega (arith, size_less x y e h (λ q. d (sym q)), size_length y)
room_less true x y e h d = size_less y x (sym e) h d

-- What is least or greatest with a property is so with any property that holds of the same sets.
pub extremal_map : {n : ℕ} {sign : Bool} {P Q : States → Type 0} → ((u : States) → length u ≡ n → P u → Q u) → ((u : States) → length u ≡ n → Q u → P u)
    → {v : States} → Extremal n sign P v → Extremal n sign Q v
extremal_map there back {v} x = record { sized = x.sized; holds = there v x.sized x.holds; first = λ u o q. x.first u o (back u o q) }

-- There is only one.
pub extremal_one : {n : ℕ} {sign : Bool} {P : States → Type 0} {v w : States} → Extremal n sign P v → Extremal n sign P w → v ≡ w
extremal_one {sign = sign} {v = v} {w = w} x y =
    before_antisym sign v w (x.sized ∙ sym y.sized) (x.first w y.sized y.holds) (y.first v x.sized x.holds)
