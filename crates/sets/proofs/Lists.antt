-- Laws of truth values, range, all and any.
use mathlib.Core.Path.{◌≡◌, refl, sym, ap, ap₂, ◌∙◌}
use mathlib.Core.Bool.{Bool, true, false, cond, not, ◌&&◌, ◌||◌, and_assoc}
use mathlib.Core.List.{List, [], ◌∷◌, ◌++◌, map}
use Prim.Native.Nat.{ℕ, zero, suc, ◌+◌, ◌≤◌, ◌<◌}
use native.Mathlib.Nat.{zero-add}
use native.Mathlib.Numerals.{add-one}
use native.Mathlib.Omega.{arith}
use lib.Dec.{T, ltb, ltb→lt}
use lib.ListN.{length, get_or, take, drop, drop_of_length-le}
use lib.Seq.{drop-cons}
use Rattle.std.specs.List.{sum_by}
use Rattle.std.proofs.lemmas.List.{drop-map, take-take}
use Rattle.std.proofs.lemmas.List.FromFn.{length-range_with_len, get_or-range_with_len, length-map-range_with_len, get_or-map-range_with_len}
use Rattle.std.proofs.lemmas.List.Recursion.{is_sum_by}
use Rattle.std.proofs.lemmas.List.Sums.{sum_by_more, sum_by-take-le}
pub use Rattle.std.proofs.lemmas.Bool.{false≢true as false_true}
pub use Rattle.std.proofs.lemmas.List.{get_or-map as get_or_map}
use Rattle.sets.specs.Lists.{numbers_from, every, for_some, keep, sum}
use Rattle.sets.proofs.Ranges.{range_is}

-- a range of numbers: how many, and each
pub length_range : (i k : ℕ) → length (numbers_from i k) ≡ k
length_range i k = rw (← range_is i k) (length-range_with_len i k)

pub range_at : (k j d : ℕ) → j < k → get_or (numbers_from 0 k) j d ≡ j
range_at k j d h = rw (← range_is 0 k) (get_or-range_with_len 0 k j d h ∙ zero-add j)

-- the elements of a mapped list, from place i on
pub drop_map : {A B : Type 0} (f : A → B) (xs : List A) (i : ℕ) → drop i (map f xs) ≡ map f (drop i xs)
drop_map f xs i = drop-map f i xs

-- f of a range of numbers: how many, and each
pub length_map_range : {B : Type 0} (f : ℕ → B) (i k : ℕ) → length (map f (numbers_from i k)) ≡ k
length_map_range f i k = rw (← range_is i k) (length-map-range_with_len f i k)

pub get_or_map_range : {B : Type 0} (f : ℕ → B) (i k j : ℕ) (b : B) → j < k → get_or (map f (numbers_from i k)) j b ≡ f (i + j)
get_or_map_range f i k j b h = rw (← range_is i k) (get_or-map-range_with_len f i k j (i + j) b h refl)

-- the table of f at the first k numbers
pub length_table : {B : Type 0} (f : ℕ → B) (k : ℕ) → length (map f (numbers_from 0 k)) ≡ k
length_table f k = length_map_range f 0 k

pub table_at : {B : Type 0} (f : ℕ → B) (k i : ℕ) (b : B) → i < k → get_or (map f (numbers_from 0 k)) i b ≡ f i
table_at f k i b h = get_or_map_range f 0 k i b h ∙ ap f (zero-add i)

-- the sum of f over a list, in the library's words; over its first elements: one element more, and it grows
module _ {A : Type 0} (f : A → ℕ) (xs : List A) where
  pub sum_is : sum (map f xs) ≡ sum_by f xs
  unfolding sum
  sum_is = is_sum_by (λ xs. sum (map f xs)) f refl (λ _ _. refl) xs

pub sum_next : {A : Type 0} (f : A → ℕ) (xs : List A) (i : ℕ) (d : A) → i < length xs
    → sum (map f (take (i + 1) xs)) ≡ sum (map f (take i xs)) + f (get_or xs i d)
sum_next f xs i d h = simp sum_is (sum_by_more f xs i d h)

pub sum_grows : {A : Type 0} (f : A → ℕ) (xs : List A) (i j : ℕ) → i ≤ j → sum (map f (take i xs)) ≤ sum (map f (take j xs))
sum_grows f xs i j h = simp sum_is (rw (take-take i j xs h) at (sum_by-take-le f (take j xs) i))

-- an or is true if one is
pub or_left : (a b : Bool) → T a → T (a || b)
or_left true b t = tt
or_left false b t = absurd t

pub or_right : (a b : Bool) → T b → T (a || b)
or_right true b t = tt
or_right false b t = t

-- what follows from each of two follows from an or
pub or_either : {A : Type 0} (a b : Bool) → (T a → A) → (T b → A) → T (a || b) → A
or_either true b f g t = f tt
or_either false b f g t = g t

-- an and is true if and only if both are
pub and_left : (a b : Bool) → T (a && b) → T a
and_left true b t = tt
and_left false b t = absurd t

pub and_right : (a b : Bool) → T (a && b) → T b
and_right true b t = t
and_right false b t = absurd t

pub and_both : (a b : Bool) → T a → T b → T (a && b)
and_both true b s t = t
and_both false b s t = absurd s

-- and false if its right side is
pub and_false : (a b : Bool) → b ≡ false → (a && b) ≡ false
and_false true b h = h
and_false false b h = refl

-- the elements from place j on, where x stands at j
pub drop_next : {A : Type 0} (l : List A) (j : ℕ) (d x : A) → j < length l → get_or l j d ≡ x → drop j l ≡ x ∷ drop (j + 1) l
drop_next l j d x h is = rw (add-one, drop-cons l j d, is)

-- A loop over a list: f of all of it, as all and any are, is f of what is left from place j on.
module _ {A : Type 0} (f : List A → Bool) (l : List A) (j : ℕ) (left : f l ≡ f (drop j l)) where
  -- none is left
  pub loop_ends : length l ≤ j → f l ≡ f []
  loop_ends h = left ∙ ap f (drop_of_length-le l h)

  -- the next element is x
  pub loop_next : (d x : A) → j < length l → get_or l j d ≡ x → f l ≡ f (x ∷ drop (j + 1) l)
  loop_next d x h is = left ∙ ap f (drop_next l j d x h is)

-- a property of all elements holds of each
pub all_at : {A : Type 0} (p : A → Bool) (xs : List A) (j : ℕ) (d : A) → j < length xs → T (every p xs) → T (p (get_or xs j d))
unfolding every
all_at p [] j d h t = absurd (omega arith)
all_at p (x ∷ xs) zero d h t = and_left (p x) (every p xs) t
all_at p (x ∷ xs) (suc j) d h t = all_at p xs j d (omega arith) (and_right (p x) (every p xs) t)

-- test k of a list of tests
pub test : (k : ℕ) (ts : List Bool) → T (every (λ t. t) ts) → T (ltb k (length ts)) → T (get_or ts k true)
test k ts t h = all_at (λ t. t) ts k true (ltb→lt _ _ h) t

-- a property of each element holds of all
pub all_from : {A : Type 0} (p : A → Bool) (xs : List A) (d : A) → ((j : ℕ) → j < length xs → T (p (get_or xs j d))) → T (every p xs)
unfolding every
all_from p [] d h = tt
all_from p (x ∷ xs) d h = and_both (p x) (every p xs) (h 0 (omega arith)) (all_from p xs d (λ j g. h (suc j) (omega arith)))

-- true holds of all
pub all_true : {A : Type 0} (xs : List A) → T (every (λ x. true) xs)
unfolding every
all_true [] = tt
all_true (x ∷ xs) = all_true xs

-- all of two lists, one behind the other
pub all_of_both : {A : Type 0} (p : A → Bool) (xs ys : List A) → every p (xs ++ ys) ≡ (every p xs && every p ys)
unfolding every
all_of_both p [] ys = refl
all_of_both p (x ∷ xs) ys = rw (all_of_both p xs ys) (sym (and_assoc (p x) (every p xs) (every p ys)))

-- all of the elements that are kept
pub all_of_kept : {A : Type 0} (p q : A → Bool) (xs : List A) → every p (keep q xs) ≡ every (λ x. not (q x) || p x) xs
unfolding every keep
all_of_kept p q [] = refl
all_of_kept p q (x ∷ xs) = go (q x) (all_of_kept p q xs)
  where
    go : (b : Bool) → every p (keep q xs) ≡ every (λ y. not (q y) || p y) xs
        → every p (cond b (x ∷ keep q xs) (keep q xs)) ≡ ((not b || p x) && every (λ y. not (q y) || p y) xs)
    go true e = ap (λ b. p x && b) e
    go false e = e

-- A relation of truth values that both operations and both constants keep: equality, and implication.
pub record Kept (R : Bool → Bool → Type 0) : Type 0 where
  pub yes : R true true
  pub no : R false false
  pub and : (a b c d : Bool) → R a c → R b d → R (a && b) (c && d)
  pub or : (a b c d : Bool) → R a c → R b d → R (a || b) (c || d)

-- one truth value implies another
abbrev pub Implies : Bool → Bool → Type 0
Implies a b = T a → T b

-- those that imply each other are equal
pub implies_antisym : (a b : Bool) → Implies a b → Implies b a → a ≡ b
implies_antisym true true f g = refl
implies_antisym true false f g = absurd (f tt)
implies_antisym false true f g = absurd (g tt)
implies_antisym false false f g = refl

-- equality is kept
pub kept_equal : Kept (◌≡◌ {A = Bool})
kept_equal = record { yes = refl; no = refl; and = λ a b c d p q. ap₂ ◌&&◌ p q; or = λ a b c d p q. ap₂ ◌||◌ p q }

-- implication is kept
and_mono : (a b c d : Bool) → Implies a c → Implies b d → Implies (a && b) (c && d)
and_mono true b true d p q t = q t
and_mono true b false d p q t = absurd (p tt)
and_mono false b c d p q t = absurd t

or_mono : (a b c d : Bool) → Implies a c → Implies b d → Implies (a || b) (c || d)
or_mono a b true d p q t = tt
or_mono true b false d p q t = absurd (p tt)
or_mono false b false d p q t = q t

pub kept_implies : Kept Implies
kept_implies = record { yes = λ t. t; no = λ t. t; and = and_mono; or = or_mono }

-- all and any keep such a relation, where it holds of the elements that have a property u which all have
module _ {R : Bool → Bool → Type 0} (kept : Kept R) {A : Type 0} (u p q : A → Bool) (each : (x : A) → T (u x) → R (p x) (q x)) where
  pub all_kept : (xs : List A) → T (every u xs) → R (every p xs) (every q xs)
  unfolding every
  all_kept [] t = kept.yes
  all_kept (x ∷ xs) t =
      kept.and (p x) (every p xs) (q x) (every q xs) (each x (and_left (u x) (every u xs) t)) (all_kept xs (and_right (u x) (every u xs) t))

  pub any_kept : (xs : List A) → T (every u xs) → R (for_some p xs) (for_some q xs)
  unfolding every for_some
  any_kept [] t = kept.no
  any_kept (x ∷ xs) t =
      kept.or (p x) (for_some p xs) (q x) (for_some q xs) (each x (and_left (u x) (every u xs) t)) (any_kept xs (and_right (u x) (every u xs) t))

-- what holds of all grows with the property
pub all_mono : {A : Type 0} (p q : A → Bool) → ((x : A) → T (p x) → T (q x)) → (xs : List A) → T (every p xs) → T (every q xs)
all_mono p q h xs = all_kept kept_implies (λ x. true) p q (λ x t. h x) xs (all_true xs)
