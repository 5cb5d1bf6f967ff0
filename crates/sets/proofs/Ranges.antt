-- What the library's `all` answers of a range of numbers, and that range, in the words of this repository.
use mathlib.Core.Path.{◌≡◌, refl, sym, ap, ◌∙◌}
use mathlib.Core.Bool.{Bool, true, false, ◌&&◌}
use mathlib.Core.List.{List, [], ◌∷◌, map}
use Prim.Native.Nat.{ℕ, zero, suc, ◌<◌}
use native.Mathlib.Omega.{arith}
use native.Mathlib.Numerals.{add-one}
use lib.ListN.{length, get_or}
use Rattle.std.specs.Bool.{MatchBool}
use Rattle.std.specs.List.{range_with_len, list_all, AllWithin, HoldsAt}
use Rattle.std.proofs.lemmas.List.FromFn.{fill_by_all}
use Rattle.std.proofs.lemmas.List.Recursion.{and_from_places, and_fails_at}
use Rattle.sets.specs.Lists.{numbers_from, every}

-- the numbers of a range
pub range_is : (i k : ℕ) → range_with_len i k ≡ numbers_from i k
unfolding numbers_from
range_is i zero = refl
range_is i (suc k) = rw (add-one i) (ap (λ (ns : List ℕ). i ∷ ns) (range_is (suc i) k))

-- what `all` answers of the numbers below n
pub every_below : (p : ℕ → Bool) (n : ℕ) (answer : Bool)
    → MatchBool answer (AllWithin (λ x. p x ≡ true) (range_with_len 0 n) 0 (length (range_with_len 0 n)))
    ((k : ℕ) × (k < length (range_with_len 0 n)) × HoldsAt (λ x. p x ≡ false) (range_with_len 0 n) k)
    → answer ≡ every p (numbers_from 0 n)
unfolding every
every_below p n true h =
    rw (range_is 0 n) at (sym (and_from_places (every p) p refl (λ x ys. refl) (range_with_len 0 n) 0 λ i l. h i 0 (omega arith) l))
every_below p n false h =
    rw (range_is 0 n) at (sym (and_fails_at (every p) p refl (λ x ys. refl) (range_with_len 0 n) h.0 0 h.1 (h.2 0)))

-- a list is what stands at its places
pub by_places : {A : Type 0} (f : ℕ → A) (xs : List A) (n : ℕ) (d : A) → length xs ≡ n → ((k : ℕ) → k < n → get_or xs k d ≡ f k)
    → xs ≡ map f (numbers_from 0 n)
by_places f xs n d l at = fill_by_all f xs n d l at ∙ ap (map f) (range_is 0 n)

-- so a property of its elements is one of the places
pub every_places : {A : Type 0} (p : A → Bool) (f : ℕ → A) (xs : List A) (n : ℕ) (d : A) → length xs ≡ n → ((k : ℕ) → k < n → get_or xs k d ≡ f k)
    → every p xs ≡ every (λ k. p (f k)) (numbers_from 0 n)
unfolding every
every_places p f xs n d l at = rw (by_places f xs n d l at) (go (numbers_from 0 n))
  where
    go : (ns : List ℕ) → every p (map f ns) ≡ every (λ k. p (f k)) ns
    go [] = refl
    go (m ∷ ns) = rw (go ns) refl

-- what `all` answers of any list, of the numbers below n, and of the places of a list
pub all_is : {A : Type 0} (p : A → Bool) (xs : List A) → list_all p xs ≡ every p xs
unfolding every
all_is p [] = refl
all_is p (x ∷ xs) = ap (λ (b : Bool). p x && b) (all_is p xs)

pub all_below : (p : ℕ → Bool) (n : ℕ) → list_all p (range_with_len 0 n) ≡ every p (numbers_from 0 n)
all_below p n = rw (range_is 0 n) (all_is p (numbers_from 0 n))

pub all_places : {A : Type 0} (p : A → Bool) (f : ℕ → A) (xs : List A) (n : ℕ) (d : A) → length xs ≡ n → ((k : ℕ) → k < n → get_or xs k d ≡ f k)
    → list_all (λ k. p (f k)) (range_with_len 0 n) ≡ every p xs
all_places p f xs n d l at = all_below (λ k. p (f k)) n ∙ sym (every_places p f xs n d l at)
