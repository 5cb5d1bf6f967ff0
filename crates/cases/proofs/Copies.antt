-- Laws of equal records in a table that is made record by record, and of a walk along those with one source.
use mathlib.Core.Path.{◌≡◌, refl, sym, ap, ◌∙◌}
use mathlib.Core.Logic.{◌⊎◌, inl, inr, by_cases}
use mathlib.Core.Bool.{Bool, false, cond}
use mathlib.Core.List.{List, ◌∷◌, map}
use Prim.Native.Nat.{ℕ, zero, suc, ◌+◌, ◌-◌, ◌<◌, ◌≤◌}
use native.Mathlib.Nat.{sub-zero, zero-add, eq-or-lt_of_le}
use native.Mathlib.Decide.{ℕ_discrete}
use native.Mathlib.Numerals.{add-one}
use native.Mathlib.Omega.{arith}
use borrow.Author.Tests.{ne_eqb, eq-eqb}
use lib.ListN.{take}
use Rattle.sets.specs.Lists.{numbers_from}
use Rattle.sets.proofs.Lists.{table_at}
use Rattle.cases.specs.File.{Transition}
use Rattle.cases.specs.Case.{same_transition, copies, copies_before}
use Rattle.cases.specs.internal.Links.{first_on}

-- the first i elements of a list made of a range
pub take_map_range : {B : Type 0} (f : ℕ → B) (s i m : ℕ) → i ≤ m → take i (map f (numbers_from s m)) ≡ map f (numbers_from s i)
unfolding numbers_from
take_map_range f s zero m h = refl
take_map_range f s (suc i) zero h = absurd (omega arith)
take_map_range f s (suc i) (suc m) h = ap (λ (l : List _). f s ∷ l) (take_map_range f (suc s) i m (omega arith))

module _ (record_at : ℕ → Transition) where
  -- Only the first i + 1 records matter, however many the table has.
  copies_before_lem : (i m : ℕ) → i < m → copies_before (map record_at (numbers_from 0 m)) i ≡ copies (record_at i) (map record_at (numbers_from 0 i))
  unfolding copies_before
  copies_before_lem i m h = rw (table_at record_at m i _ h, take_map_range record_at 0 i m (omega arith))

  -- how many of the records from j on and before i equal record i
  abbrev pub copies_from : ℕ → ℕ → ℕ
  copies_from i j = copies (record_at i) (map record_at (numbers_from j (i - j)))

  -- the number of copies is that from 0 on
  counted : (i m : ℕ) → i < m → copies_before (map record_at (numbers_from 0 m)) i ≡ copies_from i 0
  counted i m h = rw (sub-zero i) (copies_before_lem i m h)

  -- record j is looked at
  looked_at : (i j : ℕ) → j < i → copies_from i j ≡ cond (same_transition (record_at j) (record_at i)) 1 0 + copies_from i (j + 1)
  unfolding copies numbers_from
  looked_at i j h =
      let e : i - j ≡ suc (i - suc j) = omega arith in
      rw (e, add-one j)

  -- ---- the walk along the records with the source of record i

  abbrev source : ℕ → ℕ
  source j = (record_at j).source

  -- the first record from j on, of m, with the source of record i
  abbrev next : ℕ → ℕ → ℕ → ℕ
  next m i j = first_on source (source i) j (m - j)

  -- From j on record p is the first with the source of record i, and no record between is a copy of it.
  pub record Skipped (i j p : ℕ) : Type 0 where
    pub from : j ≤ p
    pub within : p ≤ i
    pub same_source : source p ≡ source i
    pub same_left : copies_from i j ≡ copies_from i p

  skip_one : (i j p : ℕ) → j < i → ¬ (source j ≡ source i) → Skipped i (j + 1) p → Skipped i j p
  unfolding same_transition
  skip_one i j p h d k =
      let other : same_transition (record_at j) (record_at i) ≡ false = rw (ne_eqb (source j) (source i) d) in
      let step : copies_from i j ≡ 0 + copies_from i (j + 1) = rw other at (looked_at i j h) in
      record { from = omega (arith, k.from); within = k.within; same_source = k.same_source; same_left = omega (arith, k.same_left, step) }

  -- k numbers from j on, with i among them
  skip : (i j k : ℕ) → j ≤ i → i < j + k → Skipped i j (first_on source (source i) j k)
  unfolding first_on
  skip i j zero h l = absurd (omega arith)
  skip i j (suc k) h l = by_cases (ℕ_discrete (source j) (source i))
      (λ e. rw (eq-eqb (source j) (source i) e) (record { from = omega arith; within = h; same_source = e; same_left = refl }))
      (λ d. rw (ne_eqb (source j) (source i) d) (further d (eq-or-lt_of_le {n = j} {m = i} h) (λ o. rw (add-one j) (skip i (suc j) k (omega arith) (omega arith)))))
    where
      further : ¬ (source j ≡ source i) → (j ≡ i) ⊎ (j < i) → (j < i → Skipped i (j + 1) (first_on source (source i) (suc j) k))
          → Skipped i j (first_on source (source i) (suc j) k)
      further d (inl e) rest = absurd (d (ap source e))
      further d (inr o) rest = skip_one i j _ o d (rest o)

  pub skips : (m i j : ℕ) → i < m → j ≤ i → Skipped i j (next m i j)
  skips m i j h l = skip i j (m - j) l (omega arith)

  -- What a walk to record i keeps: at record j so many copies are counted.
  pub record Walked (i j count : ℕ) : Type 0 where
    pub within : j ≤ i
    pub few : count ≤ j
    pub same_source : source j ≡ source i
    pub sum : count + copies_from i j ≡ copies_from i 0

  pub walk_start : (i p : ℕ) → Skipped i 0 p → Walked i p 0
  walk_start i p k = record { within = k.within; few = omega arith; same_source = k.same_source; sum = zero-add _ ∙ sym k.same_left }

  -- record j is counted if it is equal
  module _ {i j count count' p : ℕ} {same : Bool} (w : Walked i j count) (h : j < i) (k : Skipped i (j + 1) p) where
    pub walk_next : same ≡ same_transition (record_at j) (record_at i) → count' ≡ count + cond same 1 0 → count' ≤ count + 1 → Walked i p count'
    walk_next e f few =
        let step : copies_from i j ≡ cond same 1 0 + copies_from i (j + 1) = rw e (looked_at i j h) in
        record {
          within = k.within;
          few = omega (arith, k.from, w.few);
          same_source = k.same_source;
          sum = omega (arith, w.sum, step, k.same_left);
        }

  pub walk_end : (i j count m : ℕ) → i < m → Walked i j count → i ≤ j → count ≡ copies_before (map record_at (numbers_from 0 m)) i
  unfolding copies numbers_from
  walk_end i j count m l w h =
      let e : i - j ≡ 0 = omega arith in
      let none : copies_from i j ≡ 0 = rw e in
      omega (arith, counted i m l, w.sum, none)
