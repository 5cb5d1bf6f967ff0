-- The set with a transition and without one: its members, each of which stands once.
use mathlib.Core.Path.{◌≡◌, refl, sym, ap, ◌∙◌}
use mathlib.Core.Logic.{◌↔◌, ◌⊎◌, inl, inr, ⊎_elim, by_cases}
use mathlib.Core.Bool.{Bool, true, false, cond, ◌||◌, true≢false}
use mathlib.Core.List.{List, [], ◌∷◌, ◌++◌, Mem}
use Prim.Native.Nat.{ℕ, ◌+◌, ◌-◌, ◌≤◌, ◌<◌}
use native.Mathlib.Nat.{add-zero}
use native.Mathlib.Decide.{dec_lt}
use native.Mathlib.Omega.{arith}
use lib.Dec.{T, eqb}
use lib.ListN.{length, set, length-set}
use lib.Seq.{length-take-le}
use Rattle.sets.specs.Lists.{every, for_some}
use Rattle.sets.proofs.Lists.{and_both, all_of_both}
use Rattle.cases.specs.declared.Transition.{Transition}
use Rattle.cases.specs.Case.{same_transition, copies, transition_at, distinct}
use Rattle.cases.proofs.TableTrees.{holds as is_true}
use Rattle.cases.proofs.MeaningLaws.{same_equal, same_self, all_within}
use Rattle.cases.proofs.Distinct.{copies_append, copies_mem, mem_copies, mem_within, distinct_once, distinct_within}
use Rattle.records.specs.Places.{place_of, without_at}
use Rattle.records.proofs.Places.{stands_not, place_is, copies_without}
use Rattle.models.specs.Model.{holds, adding, dropping}

-- no transition stands twice
abbrev pub Once : List Transition → Type 0
Once ts = (x : Transition) → copies x ts ≤ 1

-- ---- held

module _ (t : Transition) where
  -- a transition that is held stands there, and one that stands there is held
  pub held_copies : (ts : List Transition) → holds ts t ≡ true → ¬ (copies t ts ≡ 0)
  unfolding for_some copies
  held_copies [] e z = true≢false (sym e)
  held_copies (u ∷ us) e z = go (same_transition u t) e z (held_copies us)
    where
      go : (b : Bool) → (b || holds us t) ≡ true → cond b 1 0 + copies t us ≡ 0 → (holds us t ≡ true → ¬ (copies t us ≡ 0)) → ⊥
      go true g y rest = omega arith
      go false g y rest = rest g (omega arith)

  pub new_copies : (ts : List Transition) → holds ts t ≡ false → copies t ts ≡ 0
  unfolding for_some copies
  new_copies [] e = refl
  new_copies (u ∷ us) e = go (same_transition u t) e (new_copies us)
    where
      go : (b : Bool) → (b || holds us t) ≡ false → (holds us t ≡ false → copies t us ≡ 0) → cond b 1 0 + copies t us ≡ 0
      go true g rest = absurd (true≢false g)
      go false g rest = omega (arith, rest g)

  -- its place is among the records
  pub held_place : (ts : List Transition) → holds ts t ≡ true → place_of t ts < length ts
  held_place ts e = by_cases (dec_lt (place_of t ts) (length ts)) (λ h. h) (λ d. absurd (true≢false (sym e ∙ stands_not t ts (omega arith))))

-- Held is being a member.
pub held_member : (ts : List Transition) (t : Transition) → T (holds ts t) ↔ Mem t ts
held_member ts t = (
  (λ h. copies_mem t ts (held_copies t ts (is_true (holds ts t) h))),
  λ m. go (holds ts t) refl m,
)
  where
    go : (b : Bool) → holds ts t ≡ b → Mem t ts → T b
    go true e m = tt
    go false e m = absurd (mem_copies t ts m (new_copies t ts e))

pub held_true : (ts : List Transition) (t : Transition) → T (holds ts t) → holds ts t ≡ true
held_true ts t h = is_true (holds ts t) h

-- one record of a transition
one_copy : (x t : Transition) → copies x (t ∷ []) ≡ cond (same_transition t x) 1 0
unfolding copies
one_copy x t = add-zero (cond (same_transition t x) 1 0)

-- ---- adding

module _ (ts : List Transition) (t : Transition) where
  pub adding_held : holds ts t ≡ true → adding ts t ≡ ts
  unfolding adding
  adding_held e = rw e

  pub adding_new : holds ts t ≡ false → adding ts t ≡ ts ++ (t ∷ [])
  unfolding adding
  adding_new e = rw e

  behind_copies : (x : Transition) → copies x (ts ++ (t ∷ [])) ≡ copies x ts + cond (same_transition t x) 1 0
  behind_copies x = copies_append x ts (t ∷ []) ∙ ap (λ (c : ℕ). copies x ts + c) (one_copy x t)

  new_once : Once ts → holds ts t ≡ false → Once (ts ++ (t ∷ []))
  new_once once e x = rw (behind_copies x) (go (same_transition t x) refl)
    where
      go : (b : Bool) → same_transition t x ≡ b → copies x ts + cond b 1 0 ≤ 1
      go true same = let none : copies x ts ≡ 0 = rw (same_equal t x (rw same tt)) at (new_copies t ts e) in omega arith
      go false same = omega (arith, once x)

  pub adding_once : Once ts → Once (adding ts t)
  adding_once once = go (holds ts t) refl
    where
      go : (b : Bool) → holds ts t ≡ b → Once (adding ts t)
      go true e = rw (adding_held e) once
      go false e = rw (adding_new e) (new_once once e)

  adding_copies : (x : Transition) → copies x (adding ts t) ≡ copies x ts + cond (holds ts t) 0 (cond (same_transition t x) 1 0)
  adding_copies x = go (holds ts t) refl
    where
      go : (b : Bool) → holds ts t ≡ b → copies x (adding ts t) ≡ copies x ts + cond b 0 (cond (same_transition t x) 1 0)
      go true e = rw (adding_held e) (sym (add-zero (copies x ts)))
      go false e = rw (adding_new e) (behind_copies x)

  -- Its members are the transition and those that were held.
  pub adding_member : (x : Transition) → Mem x (adding ts t) ↔ ((x ≡ t) ⊎ Mem x ts)
  adding_member x = (
    (λ m. there (same_transition t x) refl m),
    λ c. ⊎_elim (λ e. copies_mem x (adding ts t) (rw e itself)) (λ m. copies_mem x (adding ts t) (λ z. mem_copies x ts m (omega (arith, adding_copies x)))) c,
  )
    where
      there : (same : Bool) → same_transition t x ≡ same → Mem x (adding ts t) → (x ≡ t) ⊎ Mem x ts
      there true e m = inl (sym (same_equal t x (rw e tt)))
      there false e m = inr (copies_mem x ts (λ z. mem_copies x (adding ts t) m (adding_copies x ∙ rw (e, z) (none (holds ts t)))))
        where
          none : (b : Bool) → ◌≡◌ {A = ℕ} (0 + cond b 0 0) 0
          none true = refl
          none false = refl

      itself : ¬ (copies t (adding ts t) ≡ 0)
      itself z = go (holds ts t) refl
        where
          go : (b : Bool) → holds ts t ≡ b → ⊥
          go true e = held_copies t ts e (omega (arith, adding_copies t))
          go false e = let one : ◌≡◌ {A = ℕ} (cond (holds ts t) 0 (cond (same_transition t t) 1 0)) 1 = rw (e, is_true (same_transition t t) (same_self t)) in omega (arith, adding_copies t)

-- ---- dropping

module _ (ts : List Transition) (t : Transition) (e : holds ts t ≡ true) where
  dropping_copies : (x : Transition) → copies x (dropping ts t) + cond (same_transition t x) 1 0 ≡ copies x ts
  unfolding dropping
  dropping_copies x = rw (place_is t ts (held_place t ts e)) at (copies_without x ts (place_of t ts) (held_place t ts e))

  pub dropping_once : Once ts → Once (dropping ts t)
  dropping_once once x = omega (arith, dropping_copies x, once x)

  pub dropping_long : length (dropping ts t) + 1 ≡ length ts
  unfolding dropping without_at
  dropping_long =
      let i : ℕ = place_of t ts in
      let h = held_place t ts e in
      let us : List Transition = set ts i (transition_at ts (length ts - 1)) in
      let long : length us ≡ length ts = length-set ts i _ in
      omega (arith, length-take-le (length ts - 1) us (omega arith))

  -- a member was held
  dropping_there : (x : Transition) → Mem x (dropping ts t) → Mem x ts
  dropping_there x m = copies_mem x ts (λ z. mem_copies x (dropping ts t) m (omega (arith, dropping_copies x)))

  -- Its members are those that were held, but for the transition.
  pub dropping_member : Once ts → (x : Transition) → Mem x (dropping ts t) ↔ (¬ (x ≡ t) × Mem x ts)
  dropping_member once x = (
    (λ m. ((λ q. mem_copies x (dropping ts t) m (rw q gone)), dropping_there x m)),
    λ c. copies_mem x (dropping ts t) (λ z. mem_copies x ts c.1 (stays (same_transition t x) refl c.0 z)),
  )
    where
      gone : copies t (dropping ts t) ≡ 0
      gone = let same : ◌≡◌ {A = ℕ} (cond (same_transition t t) 1 0) 1 = rw (is_true (same_transition t t) (same_self t)) in omega (arith, dropping_copies t, once t)

      stays : (b : Bool) → same_transition t x ≡ b → ¬ (x ≡ t) → copies x (dropping ts t) ≡ 0 → copies x ts ≡ 0
      stays true s d z = absurd (d (sym (same_equal t x (rw s tt))))
      stays false s d z = sym (dropping_copies x) ∙ rw (s, z) refl

  -- What holds of all transitions of the set holds of those that are left.
  pub dropping_all : (p : Transition → Bool) → T (every p ts) → T (every p (dropping ts t))
  dropping_all p h = all_within ts (dropping ts t) (mem_within (dropping ts t) ts dropping_there) p p (λ x g. g) h

-- what holds of all of a set, and of one more
pub adding_all : (ts : List Transition) (t : Transition) (p : Transition → Bool) → T (every p ts) → T (p t) → T (every p (ts ++ (t ∷ [])))
unfolding every
adding_all ts t p h g = rw (all_of_both p ts (t ∷ [])) (and_both (every p ts) (every p (t ∷ [])) h (and_both (p t) true g tt))

-- ---- the distinct transitions of a table

pub distinct_few_copies : (ts : List Transition) → Once (distinct ts)
distinct_few_copies ts x = rw (distinct_once x ts) (go (eqb (copies x ts) 0))
  where
    go : (b : Bool) → cond b 0 1 ≤ 1
    go true = omega arith
    go false = omega arith

pub distinct_every : (ts : List Transition) (p : Transition → Bool) → T (every p ts) → T (every p (distinct ts))
distinct_every ts p h = all_within ts (distinct ts) (distinct_within ts) p p (λ x g. g) h
