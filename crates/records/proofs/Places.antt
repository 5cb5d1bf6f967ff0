-- Laws of the place of a transition, of a table without a record, and of which transitions there are.
use mathlib.Core.Path.{◌≡◌, refl, sym, ap, ◌∙◌}
use mathlib.Core.Logic.{by_cases}
use mathlib.Core.Bool.{Bool, true, false, cond, not, ◌||◌}
use mathlib.Core.List.{List, [], ◌∷◌, map}
use Prim.Native.Nat.{ℕ, zero, suc, ◌+◌, ◌-◌, ◌≤◌, ◌<◌}
use native.Mathlib.Nat.{add-zero}
use native.Mathlib.Decide.{dec_lt}
use native.Mathlib.Numerals.{one-add}
use native.Mathlib.Omega.{arith}
use borrow.Author.Tests.{lt-ltb, le-ltb}
use lib.Dec.{ltb}
use lib.ListN.{length, take, set, length-set}
use Rattle.std.specs.List.{range_with_len, position_or_len}
use Rattle.std.specs.Option.{MatchOption}
use Rattle.std.proofs.Common.{Option, Some, None}
use Rattle.std.proofs.lemmas.List.Sums.{prefix_len-le-length}
use Rattle.std.proofs.lemmas.List.Recursion.{is_position_or_len}
use Rattle.sets.specs.Lists.{numbers_from, for_some}
use Rattle.sets.proofs.Ranges.{range_is}
use Rattle.sets.proofs.Lists.{length_range}
use Rattle.cases.specs.declared.Transition.{Transition}
use Rattle.cases.specs.Case.{same_transition, copies, transition_at}
use Rattle.cases.proofs.MeaningLaws.{same_equal}
use Rattle.cases.proofs.Distinct.{copies_append}
use Rattle.records.specs.Places.{place_of, without_at}
use Rattle.records.proofs.Files.{last_behind, last_stays}

-- ---- looking for a place

module _ (t : Transition) (record_at : ℕ → Transition) (m : ℕ) where
  abbrev test : ℕ → Bool
  test i = same_transition (record_at i) t

  place_is_first : place_of t (map record_at (numbers_from 0 m)) ≡ position_or_len test (numbers_from 0 m)
  unfolding place_of
  place_is_first = is_position_or_len (λ is. place_of t (map record_at is)) test refl (λ i is. rw (one-add (place_of t (map record_at is))) refl) (numbers_from 0 m)

  -- What a search of the numbers of the records answers says where the transition stands.
  pub place_found : {r : Option ℕ} → r ≡ cond (ltb (position_or_len test (range_with_len 0 m)) (length (range_with_len 0 m))) (Some (position_or_len test (range_with_len 0 m))) None
      → MatchOption r (place_of t (map record_at (numbers_from 0 m)) ≡ m) (λ i. (place_of t (map record_at (numbers_from 0 m)) ≡ i) × (i < m))
  place_found {r} e = rw (e ∙ ap (λ (is : List ℕ). cond (ltb (position_or_len test is) (length is)) (Some (position_or_len test is)) None) (range_is 0 m), length_range 0 m, place_is_first) (go (position_or_len test (numbers_from 0 m)) (omega (arith, prefix_len-le-length (λ i. not (test i)) (numbers_from 0 m), length_range 0 m)))
    where
      go : (p : ℕ) → p ≤ m → MatchOption (cond (ltb p m) (Some p) None) (p ≡ m) (λ i. (p ≡ i) × (i < m))
      go p h = by_cases (dec_lt p m)
          (λ l. rw (lt-ltb p m l) (refl, l))
          (λ d. rw (le-ltb p m (omega arith)) (omega arith))

-- ---- whether there is one

module _ (t : Transition) where
  -- A place among the records is that of a record that is equal; where there is none, no record is.
  pub stands : (ts : List Transition) → place_of t ts < length ts → for_some (λ u. same_transition u t) ts ≡ true
  unfolding place_of for_some
  stands [] h = absurd (omega arith)
  stands (u ∷ us) h = go (same_transition u t) h (stands us)
    where
      go : (b : Bool) → cond b 0 (suc (place_of t us)) < suc (length us) → (place_of t us < length us → for_some (λ x. same_transition x t) us ≡ true) → (b || for_some (λ x. same_transition x t) us) ≡ true
      go true g rest = refl
      go false g rest = rest (omega arith)

  pub stands_not : (ts : List Transition) → length ts ≤ place_of t ts → for_some (λ u. same_transition u t) ts ≡ false
  unfolding place_of for_some
  stands_not [] h = refl
  stands_not (u ∷ us) h = go (same_transition u t) h (stands_not us)
    where
      go : (b : Bool) → suc (length us) ≤ cond b 0 (suc (place_of t us)) → (length us ≤ place_of t us → for_some (λ x. same_transition x t) us ≡ false) → (b || for_some (λ x. same_transition x t) us) ≡ false
      go true g rest = absurd (omega arith)
      go false g rest = rest (omega arith)

  -- The record at its place is the transition.
  pub place_is : (ts : List Transition) → place_of t ts < length ts → transition_at ts (place_of t ts) ≡ t
  unfolding place_of
  place_is [] h = absurd (omega arith)
  place_is (u ∷ us) h = go (same_transition u t) refl h (place_is us)
    where
      go : (b : Bool) → same_transition u t ≡ b → cond b 0 (suc (place_of t us)) < suc (length us) → (place_of t us < length us → transition_at us (place_of t us) ≡ t)
          → transition_at (u ∷ us) (cond b 0 (suc (place_of t us))) ≡ t
      go true e g rest = same_equal u t (rw e tt)
      go false e g rest = rest (omega arith)

-- ---- how often a transition stands in a table

-- in a table with another record in a place
copies_set : (x : Transition) (ts : List Transition) (i : ℕ) (t : Transition) → i < length ts
    → copies x (set ts i t) + cond (same_transition (transition_at ts i) x) 1 0 ≡ copies x ts + cond (same_transition t x) 1 0
unfolding copies
copies_set x [] i t h = absurd (omega arith)
copies_set x (u ∷ us) zero t h = omega arith
copies_set x (u ∷ us) (suc i) t h = omega (arith, copies_set x us i t (omega arith))

-- in a table without its last record
copies_last : (x : Transition) (ts : List Transition) (k : ℕ) → length ts ≡ suc k → copies x (take k ts) + cond (same_transition (transition_at ts k) x) 1 0 ≡ copies x ts
unfolding copies
copies_last x ts k e = sym (ap (copies x) (last_behind ts k e) ∙ copies_append x (take k ts) (transition_at ts k ∷ []) ∙ ap (λ (c : ℕ). copies x (take k ts) + c) one)
  where
    one : copies x (transition_at ts k ∷ []) ≡ cond (same_transition (transition_at ts k) x) 1 0
    one = add-zero _

-- Without the record at a place, that record stands in the table once less, and every other as often as before.
pub copies_without : (x : Transition) (ts : List Transition) (i : ℕ) → i < length ts
    → copies x (without_at ts i) + cond (same_transition (transition_at ts i) x) 1 0 ≡ copies x ts
unfolding without_at
copies_without x ts i h =
    let k : ℕ = length ts - 1 in
    let last : Transition = transition_at ts k in
    let us : List Transition = set ts i last in
    let long : length us ≡ suc k = length-set ts i last ∙ omega arith in
    let stays : transition_at us k ≡ last = last_stays ts i (omega arith) in
    let put = copies_set x ts i last h in
    let cut : copies x (take k us) + cond (same_transition last x) 1 0 ≡ copies x us = rw stays at (copies_last x us k long) in
    omega (arith, put, cut)
