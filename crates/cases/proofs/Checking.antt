-- Laws for the code that checks: tests as truth values, and loops over tables.
use mathlib.Core.Path.{◌≡◌, refl, sym, ap, ◌∙◌}
use mathlib.Core.Bool.{Bool, true, false, not, ◌&&◌, true≢false}
use mathlib.Core.List.{List, [], ◌∷◌, map}
use Prim.Native.Nat.{ℕ, zero, suc, ◌+◌, ◌≤◌, ◌<◌}
use native.Mathlib.Numerals.{add-one}
use native.Mathlib.Nat.{zero-add}
use native.Mathlib.Omega.{arith}
use lib.Dec.{ltb, leb}
use borrow.Author.Tests.{lt-leb, le-leb, ltb-true, ltb-false}
use lib.ListN.{length, drop, drop_of_length-le}
use Rattle.std.specs.List.{range_with_len, list_all}
use Rattle.sets.specs.Lists.{numbers_from, every}
use Rattle.sets.proofs.Lists.{length_range}
use Rattle.sets.proofs.Ranges.{range_is}

-- ---- truth values

-- some test fails: the first, or the rest decides
pub broken_here : (t : Bool) (ts : List Bool) → true ≡ not t → true ≡ not (every (λ test. test) (t ∷ ts))
unfolding every
broken_here true ts h = absurd (true≢false h)
broken_here false ts h = refl

pub broken_later : (t : Bool) (ts : List Bool) (r : Bool) → not t ≡ false → r ≡ not (every (λ test. test) ts) → r ≡ not (every (λ test. test) (t ∷ ts))
unfolding every
broken_later true ts r h g = g
broken_later false ts r h g = absurd (true≢false h)

pub broken_last : (t r : Bool) → r ≡ not t → r ≡ not (every (λ test. test) (t ∷ []))
unfolding every
broken_last true r h = h
broken_last false r h = h

-- above is the opposite of at most
pub above : (a b : ℕ) → ltb a b ≡ not (leb b a)
above a b = go (ltb a b) refl
  where
    go : (t : Bool) → ltb a b ≡ t → t ≡ not (leb b a)
    go true h = rw (lt-leb b a (ltb-true a b h)) refl
    go false h = rw (le-leb b a (ltb-false a b h)) refl

-- an and whose second part fails
pub and_fails : (a : Bool) → (a && false) ≡ false
and_fails true = refl
and_fails false = refl

-- a test that was made of x holds of y, which is x
pub tested : {A : Type 0} (p : A → Bool) {x y : A} {r v : Bool} → r ≡ p x → x ≡ y → r ≡ v → p y ≡ v
tested p made is h = sym (ap p is) ∙ sym made ∙ h

-- ---- loops over the numbers below k

next_from_lem : (j k i : ℕ) → i < k → drop i (numbers_from j k) ≡ (j + i) ∷ drop (suc i) (numbers_from j k)
unfolding numbers_from
next_from_lem j zero i h = absurd (omega arith)
next_from_lem j (suc k) zero h = let e : j ≡ j + 0 = omega arith in ap (λ (x : ℕ). x ∷ numbers_from (suc j) k) e
next_from_lem j (suc k) (suc i) h =
    let e : suc j + i ≡ j + suc i = omega arith in
    next_from_lem (suc j) k i (omega arith) ∙ ap (λ (x : ℕ). x ∷ drop (suc i) (numbers_from (suc j) k)) e

module _ (k i : ℕ) where
  -- none is left
  pub range_done : k ≤ i → drop i (numbers_from 0 k) ≡ []
  range_done h = let l : length (numbers_from 0 k) ≤ i = omega (arith, length_range 0 k) in drop_of_length-le (numbers_from 0 k) l

  -- i is the next
  pub range_next : i < k → drop i (numbers_from 0 k) ≡ i ∷ drop (i + 1) (numbers_from 0 k)
  range_next h = rw add-one (next_from_lem 0 k i h ∙ ap (λ (x : ℕ). x ∷ drop (suc i) (numbers_from 0 k)) (zero-add i))

-- a test of the elements of a mapped list
pub all_map : {A B : Type 0} (p : B → Bool) (f : A → B) (xs : List A) → every p (map f xs) ≡ every (λ x. p (f x)) xs
unfolding every
all_map p f [] = refl
all_map p f (x ∷ xs) = ap (λ (b : Bool). p (f x) && b) (all_map p f xs)

-- ---- `all` over the places of a table

-- a test of all elements, as the library has it
pub every_is : {A : Type 0} (p : A → Bool) (xs : List A) → list_all p xs ≡ every p xs
unfolding every
every_is p [] = refl
every_is p (x ∷ xs) = ap (λ (b : Bool). p x && b) (every_is p xs)

pub all_places : (p : ℕ → Bool) (k : ℕ) {r : Bool} → r ≡ list_all p (range_with_len 0 k) → r ≡ every p (numbers_from 0 k)
all_places p k e = e ∙ ap (list_all p) (range_is 0 k) ∙ every_is p (numbers_from 0 k)

pub all_records : {A : Type 0} (p : A → Bool) (f : ℕ → A) (k : ℕ) {r : Bool} → r ≡ list_all (λ i. p (f i)) (range_with_len 0 k) → r ≡ every p (map f (numbers_from 0 k))
all_records p f k e = all_places (λ i. p (f i)) k e ∙ sym (all_map p f (numbers_from 0 k))
