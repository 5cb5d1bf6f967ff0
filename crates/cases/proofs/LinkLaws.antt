-- Laws of the records of a part that are linked by their source.
use mathlib.Core.Path.{◌≡◌, refl, sym, ap, subst, ◌∙◌}
use mathlib.Core.Logic.{◌⊎◌, inl, inr, by_cases}
use mathlib.Core.Bool.{cond}
use mathlib.Core.List.{List}
use Prim.Native.Nat.{ℕ, suc, ◌+◌, ◌-◌, ◌<◌, ◌≤◌}
use native.Mathlib.Nat.{eq-or-lt_of_le}
use native.Mathlib.Decide.{ℕ_discrete}
use native.Mathlib.Numerals.{add-one}
use native.Mathlib.Omega.{arith}
use borrow.Author.Tests.{ne_eqb, eq-eqb}
use lib.Dec.{eqb}
use lib.ListN.{get_or, set, replicate, length-set, length-replicate, get_or-replicate}
use lib.Seq.{get_or-set_same, get_or-set_other}
use Rattle.sets.specs.Words.{state_limit}
use Rattle.cases.specs.File.{Transition, transition_in, transition_limit}
use Rattle.cases.specs.internal.Links.{source_in, first_on, next_from, Sourced, LinkedFrom, Linked}
use Rattle.cases.proofs.Copies.{Skipped, Walked, skips}

-- none is left from m on
next_none : (part : List ℕ) (m s : ℕ) → next_from part m s m ≡ transition_limit
unfolding first_on
next_none part m s = let e : m - m ≡ 0 = omega arith in rw e

-- the record before is looked at
next_one : (part : List ℕ) (m s j : ℕ) → j < m → next_from part m s j ≡ cond (eqb (source_in part j) s) j (next_from part m s (j + 1))
unfolding first_on
next_one part m s j h = let e : m - j ≡ suc (m - suc j) = omega arith in rw (e, add-one j)

-- no record is linked, whatever number stands in the place of each record
pub linked_any : (part : List ℕ) (m x : ℕ) → LinkedFrom part m m (replicate state_limit transition_limit) (replicate transition_limit x)
linked_any part m x = record {
  states = length-replicate state_limit transition_limit;
  records = length-replicate transition_limit x;
  from_state = λ s h. get_or-replicate state_limit s transition_limit 0 h ∙ sym (next_none part m s);
  after_record = λ j h l. absurd (omega arith);
}

-- so where zeros stand there
pub linked_none : (part : List ℕ) (m : ℕ) → LinkedFrom part m m (replicate state_limit transition_limit) (replicate transition_limit 0)
linked_none part m = linked_any part m 0

-- record j is linked: it is the first of its source, and after it stands what was
module _ (part : List ℕ) (m j : ℕ) (first after : List ℕ) (sourced : Sourced part m) (h : j < m) (l : LinkedFrom part m (j + 1) first after) where
  abbrev own : ℕ
  own = source_in part j

  own_small : own < state_limit
  own_small = sourced.source j h

  linked_next : LinkedFrom part m j (set first own j) (set after j (get_or first own 0))
  linked_next = record {
    states = length-set first own j ∙ l.states;
    records = length-set after j _ ∙ l.records;
    from_state = state_is;
    after_record = after_is;
  }
    where
      state_is : (s : ℕ) → s < state_limit → get_or (set first own j) s 0 ≡ next_from part m s j
      state_is s g = by_cases (ℕ_discrete own s)
          (λ e. rw (← e) (get_or-set_same first own j 0 (omega (arith, l.states, own_small)) ∙ sym (next_one part m own j h ∙ rw (eq-eqb own own refl))))
          (λ d. get_or-set_other first own s j 0 (λ z. d (sym z)) ∙ l.from_state s g ∙ sym (next_one part m s j h ∙ rw (ne_eqb own s d)))

      after_is : (k : ℕ) → j ≤ k → k < m → get_or (set after j (get_or first own 0)) k 0 ≡ next_from part m (source_in part k) (k + 1)
      after_is k g f = by_order (eq-or-lt_of_le {n = j} {m = k} g)
        where
          by_order : (j ≡ k) ⊎ (j < k) → get_or (set after j (get_or first own 0)) k 0 ≡ next_from part m (source_in part k) (k + 1)
          by_order (inl e) = rw (← e) (get_or-set_same after j _ 0 (omega (arith, l.records, sourced.few)) ∙ l.from_state own own_small)
          by_order (inr o) = get_or-set_other after j k _ 0 (λ z. omega arith) ∙ l.after_record k (omega arith) f

-- the same in the loop's words: the record before i was read as t
pub linked_step : (part : List ℕ) (m i : ℕ) (first after : List ℕ) → Sourced part m → 0 < i → i ≤ m → LinkedFrom part m i first after
    → (t : Transition) → t ≡ transition_in part (i - 1)
    → LinkedFrom part m (i - 1) (set first t.source (i - 1)) (set after (i - 1) (get_or first t.source 0))
linked_step part m i first after sourced o h l t e =
    let back : i - 1 + 1 ≡ i = omega arith in
    rw e (linked_next part m (i - 1) first after sourced (omega arith) (rw back l))

-- all are linked
pub linked_all : {part : List ℕ} {m i : ℕ} {first after : List ℕ} → Sourced part m → LinkedFrom part m i first after → i ≤ 0 → Linked part m first after
linked_all {part} {m} {i} {first} {after} sourced l h =
    let none : i ≡ 0 = omega arith in
    record { sourced = sourced; filled = subst (λ (j : ℕ). LinkedFrom part m j first after) none l }

-- ---- the walk to record i along those with its source

module _ {part first after : List ℕ} {m i : ℕ} (linked : Linked part m first after) (inside : i < m) where
  -- it starts at the first of them
  pub first_skips : (t : Transition) → t ≡ transition_in part i → Skipped (transition_in part) i 0 (get_or first t.source 0)
  first_skips t e =
      rw (ap (λ (x : Transition). x.source) e, linked.filled.from_state (source_in part i) (linked.sourced.source i inside))
      (skips (transition_in part) m i 0 inside (omega arith))

  -- and goes on with the next
  pub next_skips : {j copies : ℕ} → Walked (transition_in part) i j copies → j < i → Skipped (transition_in part) i (j + 1) (get_or after j 0)
  next_skips {j} w h =
      rw (linked.filled.after_record j (omega arith) (omega arith), w.same_source) (skips (transition_in part) m i (j + 1) inside (omega arith))
