-- More laws of all and any: lists that are appended, mapped, kept.
use mathlib.Core.Bool.{Bool, true, false, cond}
use mathlib.Core.List.{List, [], ◌∷◌, ◌++◌, map}
use Prim.Native.Nat.{ℕ, zero, suc, ◌+◌, ◌≤◌, ◌<◌}
use native.Mathlib.Omega.{arith}
use lib.Dec.{T, eqb, ltb, lt→ltb, ltb→lt, eqb_refl}
use lib.ListN.{length, get_or}
use Rattle.sets.specs.Lists.{numbers_from, every, for_some, keep}
use Rattle.sets.proofs.Lists.{and_left, and_right, and_both, or_left, or_right, all_at, all_from}
use Rattle.cases.specs.declared.Transition.{Transition}
use Rattle.cases.specs.Case.{distinct, transition_at, copies_before}

-- a property of the elements of two lists
module _ {A : Type 0} (p : A → Bool) where
  pub all_append : (xs ys : List A) → T (every p xs) → T (every p ys) → T (every p (xs ++ ys))
  unfolding every
  all_append [] ys s t = t
  all_append (x ∷ xs) ys s t = and_both (p x) (every p (xs ++ ys)) (and_left (p x) (every p xs) s) (all_append xs ys (and_right (p x) (every p xs) s) t)

  pub all_first : (xs ys : List A) → T (every p (xs ++ ys)) → T (every p xs)
  unfolding every
  all_first [] ys t = tt
  all_first (x ∷ xs) ys t =
      and_both (p x) (every p xs) (and_left (p x) (every p (xs ++ ys)) t) (all_first xs ys (and_right (p x) (every p (xs ++ ys)) t))

  pub all_second : (xs ys : List A) → T (every p (xs ++ ys)) → T (every p ys)
  unfolding every
  all_second [] ys t = t
  all_second (x ∷ xs) ys t = all_second xs ys (and_right (p x) (every p (xs ++ ys)) t)

-- a property of the elements that are kept and mapped
pub all_kept_map : {A B : Type 0} (p q : A → Bool) (f : A → B) (r : B → Bool) → ((x : A) → T (p x) → T (r (f x)))
    → (xs : List A) → T (every p xs) → T (every r (map f (keep q xs)))
unfolding every keep
all_kept_map p q f r h [] t = tt
all_kept_map p q f r h (x ∷ xs) t =
    go (q x) (h x (and_left (p x) (every p xs) t)) (all_kept_map p q f r h xs (and_right (p x) (every p xs) t))
  where
    go : (b : Bool) → T (r (f x)) → T (every r (map f (keep q xs))) → T (every r (map f (cond b (x ∷ keep q xs) (keep q xs))))
    go true s u = and_both (r (f x)) (every r (map f (keep q xs))) s u
    go false s u = u

-- the numbers of a range are below its end
pub range_below : (i k m : ℕ) → i + k ≤ m → T (every (λ j. ltb j m) (numbers_from i k))
unfolding every numbers_from
range_below i zero m h = tt
range_below i (suc k) m h = and_both (ltb i m) (every (λ j. ltb j m) (numbers_from (suc i) k)) (lt→ltb i m (omega arith)) (range_below (suc i) k m (omega arith))

-- a property of all transitions is one of the distinct ones
pub all_distinct : (p : Transition → Bool) (ts : List Transition) → T (every p ts) → T (every p (distinct ts))
unfolding distinct
all_distinct p ts t =
    all_kept_map (λ j. ltb j (length ts)) (λ i. eqb (copies_before ts i) 0) (transition_at ts) p
    (λ j h. all_at p ts j (record { source = 0; label = 0; target = 0 }) (ltb→lt j (length ts) h) t)
    (numbers_from 0 (length ts)) (range_below 0 (length ts) (length ts) (omega arith))

-- each number of a list is among them
pub among_at : (js : List ℕ) (k : ℕ) → k < length js → T (for_some (eqb (get_or js k 0)) js)
unfolding for_some
among_at [] k h = absurd (omega arith)
among_at (j ∷ js) zero h = or_left (eqb j j) (for_some (eqb j) js) (eqb_refl j)
among_at (j ∷ js) (suc k) h = or_right (eqb (get_or js k 0) j) (for_some (eqb (get_or js k 0)) js) (among_at js k (omega arith))

pub among_all : (js : List ℕ) → T (every (λ j. for_some (eqb j) js) js)
among_all js = all_from (λ j. for_some (eqb j) js) js 0 (among_at js)
