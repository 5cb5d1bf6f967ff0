-- Laws of the flags of first appearances: the flagged transitions are the distinct ones, in order, and as many.
use mathlib.Core.Path.{◌≡◌, refl, sym, ap, ◌∙◌}
use mathlib.Core.Bool.{Bool, true, false, cond}
use mathlib.Core.List.{List, [], ◌∷◌, ◌++◌, map}
use Rattle.std.proofs.Common.{below_more}
use Rattle.std.specs.List.{count_by}
use Rattle.std.proofs.lemmas.List.Sums.{sum_by-cons}
use Rattle.sets.proofs.Ranges.{by_places}
use Prim.Native.Nat.{ℕ, zero, suc, ◌+◌, ◌<◌, ◌≤◌}
use native.Mathlib.Nat.{zero-add}
use native.Mathlib.Numerals.{one-add}
use native.Mathlib.Omega.{arith}
use lib.Dec.{eqb}
use lib.ListN.{length, get_or, set, length-set, length-map, length-append, get_or-append}
use lib.Seq.{get_or-set_same, get_or-set_other}
use Rattle.sets.specs.Lists.{numbers_from, keep}
use Rattle.sets.proofs.Lists.{length_table, table_at}
use Rattle.cases.specs.File.{transition_in}
use Rattle.cases.specs.Case.{distinct, copies_before, transition_at}
use Rattle.cases.specs.internal.Checks.{transitions_in}
use Rattle.cases.specs.internal.Links.{FirstFlags}

-- functions and tests that agree on a range pick the same
same_kept : {B : Type 0} (f g : ℕ → B) (p q : ℕ → Bool) (m s k : ℕ) → s + k ≤ m → ((j : ℕ) → j < m → f j ≡ g j) → ((j : ℕ) → j < m → p j ≡ q j)
    → map f (keep p (numbers_from s k)) ≡ map g (keep q (numbers_from s k))
unfolding keep numbers_from
same_kept f g p q m s zero h e d = refl
same_kept f g p q m s (suc k) h e d =
    let rest = same_kept f g p q m (suc s) k (omega arith) e d in
    rw (d s (omega arith)) (picked (q s) rest)
  where
    picked : (b : Bool) → map f (keep p (numbers_from (suc s) k)) ≡ map g (keep q (numbers_from (suc s) k))
        → map f (cond b (s ∷ keep p (numbers_from (suc s) k)) (keep p (numbers_from (suc s) k))) ≡ map g (cond b (s ∷ keep q (numbers_from (suc s) k)) (keep q (numbers_from (suc s) k)))
    picked true r = let here = e s (omega arith) in cc
    picked false r = r

-- whether record j of m is the first of its kind
abbrev pub is_first : List ℕ → ℕ → ℕ → Bool
is_first part m j = eqb (copies_before (transitions_in part m) j) 0

-- those that are, are the distinct ones,
pub firsts_distinct : (part : List ℕ) (m : ℕ) → map (transition_in part) (keep (is_first part m) (numbers_from 0 m)) ≡ distinct (transitions_in part m)
unfolding distinct transitions_in
firsts_distinct part m =
    rw (length_table (transition_in part) m)
    (same_kept (transition_in part) (transition_at (transitions_in part m)) (is_first part m) (is_first part m) m 0 m (omega arith)
    (λ j l. sym (table_at (transition_in part) m j _ l)) (λ j l. refl))

-- and so are those that are flagged
pub flagged_distinct : (part : List ℕ) (m : ℕ) (flags : List Bool) → FirstFlags part m flags
    → map (transition_in part) (keep (λ j. get_or flags j false) (numbers_from 0 m)) ≡ distinct (transitions_in part m)
flagged_distinct part m flags h =
    same_kept (transition_in part) (transition_in part) (λ j. get_or flags j false) (is_first part m) m 0 m (omega arith)
    (λ j l. refl) h.at ∙ firsts_distinct part m

-- What the loop keeps: there are m flags, and the first j are set.
pub record SetBefore (part : List ℕ) (m j : ℕ) (flags : List Bool) : Type 0 where
  pub long : length flags ≡ m
  pub at : (k : ℕ) → k < j → get_or flags k false ≡ is_first part m k

-- one more is set
pub set_next : {part : List ℕ} {m j : ℕ} {flags : List Bool} {b : Bool} → SetBefore part m j flags → j < m → b ≡ is_first part m j
    → SetBefore part m (j + 1) (set flags j b)
set_next {part} {m} {j} {flags} {b} s h e = record {
  long = length-set flags j b ∙ s.long;
  at = below_more _ _
      (λ k l. get_or-set_other flags j k b false (λ z. omega arith) ∙ s.at k l)
      (get_or-set_same flags j b false (omega (arith, s.long)) ∙ e);
}

-- the elements for which p holds are as many as the values of p that are true
kept_counted : (p : ℕ → Bool) (is : List ℕ) → count_by (λ b. b) (map p is) ≡ length (keep p is)
unfolding keep
kept_counted p [] = refl
kept_counted p (i ∷ is) = sum_by-cons (λ b. cond b 1 0) (p i) (map p is) ∙ go (p i) (kept_counted p is)
  where
    go : (b : Bool) → count_by (λ c. c) (map p is) ≡ length (keep p is) → cond b 1 0 + count_by (λ c. c) (map p is) ≡ length (cond b (i ∷ keep p is) (keep p is))
    go true e = one-add _ ∙ ap suc e
    go false e = zero-add _ ∙ e

-- all are set
module _ {part : List ℕ} {m j : ℕ} {flags : List Bool} (s : SetBefore part m j flags) (h : m ≤ j) where
  each : (k : ℕ) → k < m → get_or flags k false ≡ is_first part m k
  each k l = s.at k (omega arith)

  pub set_all : (rest : List Bool) → FirstFlags part m (flags ++ rest)
  set_all rest = record {
    long = omega (arith, length-append flags rest, s.long);
    at = λ k l. get_or-append flags rest false k (omega (arith, s.long)) ∙ each k l;
  }

  pub set_count : count_by (λ b. b) flags ≡ length (distinct (transitions_in part m))
  unfolding distinct transitions_in
  set_count =
      rw (by_places (is_first part m) flags m false s.long each, length_table (transition_in part) m, length-map (keep (is_first part m) (numbers_from 0 m)) (transition_at (transitions_in part m)))
      (kept_counted (is_first part m) (numbers_from 0 m))
