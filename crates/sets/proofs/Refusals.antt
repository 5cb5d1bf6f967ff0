-- Laws of the first condition that holds, and of what is answered by it. They speak of numbers as members of a list, never of their order.
use mathlib.Core.Path.{◌≡◌, refl, sym, ap, ◌∙◌}
use mathlib.Core.Logic.{◌↔◌}
use mathlib.Core.Bool.{Bool, true, false, not}
use mathlib.Core.List.{[], ◌∷◌, ◌++◌, Memᴰ}
use Prim.Native.Nat.{ℕ, zero, suc, ◌≤◌}
use native.Mathlib.Decide.{ℕ_discrete}
use borrow.Author.Tests.{eq-eqb}
use lib.Dec.{T, T_not, eqb, leb, leb→le}
use Rattle.sets.specs.Lists.{every}
use Rattle.sets.specs.Refusals.{between, Conditions, numbers_of, first_of, NoneHolds, FirstHolds, Outcome, refused, by_refusal, outcome_by}
use Rattle.sets.proofs.Lists.{and_left, and_right}

-- a number that is tested to be in a range
pub bounds : (low high x : ℕ) → T (between low high x) → (low ≤ x) × (x ≤ high)
bounds low high x t = (leb→le low x (and_left (leb low x) (leb x high) t), leb→le x high (and_right (leb low x) (leb x high) t))

-- k is the number of none of them; the checker finds this by computing
abbrev pub Without : ℕ → Conditions → Type 0
Without k cs = T (every (λ c. not (eqb c.0 k)) cs)

without_first : (k n : ℕ) (c : Bool) (cs : Conditions) → Without k ((n, c) ∷ cs) → ¬ (n ≡ k)
unfolding every
without_first k n c cs t e = T_not (eqb n k) (and_left (not (eqb n k)) _ t) (rw (eq-eqb n k e) tt)

without_rest : (k n : ℕ) (c : Bool) (cs : Conditions) → Without k ((n, c) ∷ cs) → Without k cs
unfolding every
without_rest k n c cs t = and_right (not (eqb n k)) _ t

pub absent : (k : ℕ) (cs : Conditions) → Without k cs → ¬ Memᴰ k (numbers_of cs)
absent k [] t m = elim m [ ]
absent k ((n, c) ∷ cs) t (Memᴰ.head e) = without_first k n c cs t (sym e)
absent k ((n, c) ∷ cs) t (Memᴰ.tail m) = absent k cs (without_rest k n c cs t) m

-- ---- one by one, as code looks at them

pub none_holds : 0 ≡ first_of []
unfolding first_of
none_holds = refl

module _ (n : ℕ) (c : Bool) (cs : Conditions) where
  pub holds_here : c ≡ true → n ≡ first_of ((n, c) ∷ cs)
  unfolding first_of
  holds_here h = rw h refl

  pub holds_later : {k : ℕ} → c ≡ false → k ≡ first_of cs → k ≡ first_of ((n, c) ∷ cs)
  unfolding first_of
  holds_later h g = rw h g

  -- if none holds, the first does not, and none of the rest
  pub none_here : ¬ (n ≡ 0) → first_of ((n, c) ∷ cs) ≡ 0 → (c ≡ false) × (first_of cs ≡ 0)
  unfolding first_of
  none_here = go c
    where
      go : (c : Bool) → ¬ (n ≡ 0) → first_of ((n, c) ∷ cs) ≡ 0 → (c ≡ false) × (first_of cs ≡ 0)
      go true d h = absurd (d h)
      go false d h = (refl, h)

-- ---- two lists

-- if none of the first conditions holds, the first of the others that holds counts
pub none_of_first : (cs ds : Conditions) → Without 0 cs → first_of cs ≡ 0 → first_of (cs ++ ds) ≡ first_of ds
unfolding first_of
none_of_first [] ds t h = refl
none_of_first ((n, true) ∷ cs) ds t h = absurd (without_first 0 n true cs t h)
none_of_first ((n, false) ∷ cs) ds t h = none_of_first cs ds (without_rest 0 n false cs t) h

-- if one of the first conditions holds, it counts
pub one_of_first : (cs ds : Conditions) → ¬ (first_of cs ≡ 0) → first_of (cs ++ ds) ≡ first_of cs
unfolding first_of
one_of_first [] ds d = absurd (d refl)
one_of_first ((n, true) ∷ cs) ds d = refl
one_of_first ((n, false) ∷ cs) ds d = one_of_first cs ds d

-- ---- the number that is answered

-- a number that none of them has is not answered
pub apart : (k : ℕ) (cs : Conditions) → ¬ (0 ≡ k) → Without k cs → ¬ (first_of cs ≡ k)
unfolding first_of
apart k [] d t e = d e
apart k ((n, true) ∷ cs) d t e = without_first k n true cs t e
apart k ((n, false) ∷ cs) d t e = apart k cs d (without_rest k n false cs t) e

-- a number of a list that is answered is that of a condition of it
pub member : (cs : Conditions) → ¬ (first_of cs ≡ 0) → Memᴰ (first_of cs) (numbers_of cs)
unfolding first_of
member [] d = absurd (d refl)
member ((n, true) ∷ cs) d = Memᴰ.head refl
member ((n, false) ∷ cs) d = Memᴰ.tail (member cs d)

-- its condition holds, and none before it
pub first_holds : (cs : Conditions) → ¬ (first_of cs ≡ 0) → FirstHolds cs (first_of cs)
unfolding first_of every
first_holds [] d = absurd (d refl)
first_holds ((n, true) ∷ cs) d = record { before = []; after = cs; are = refl; none = tt }
first_holds ((n, false) ∷ cs) d =
    let x = first_holds cs d in
    record { before = (n, false) ∷ x.before; after = x.after; are = ap (λ (l : Conditions). (n, false) ∷ l) x.are; none = x.none }

-- so the first that holds is answered
pub first_answered : (cs : Conditions) (k : ℕ) → FirstHolds cs k → first_of cs ≡ k
unfolding first_of every
first_answered cs k x = rw x.are (go x.before x.none)
  where
    go : (before : Conditions) → NoneHolds before → first_of (before ++ ((k, true) ∷ x.after)) ≡ k
    go [] n = refl
    go ((m, true) ∷ before) n = absurd n
    go ((m, false) ∷ before) n = go before n

-- 0 is answered if none holds, and only then
pub none_first : (cs : Conditions) → Without 0 cs → first_of cs ≡ 0 ↔ NoneHolds cs
unfolding first_of every
none_first [] t = (λ e. tt, λ n. refl)
none_first ((n, true) ∷ cs) t = (λ e. absurd (without_first 0 n true cs t e), λ x. absurd x)
none_first ((n, false) ∷ cs) t = none_first cs (without_rest 0 n false cs t)

-- Of a number that is answered by conditions: it is 0 or that of one of them, the first that holds; where none has the number 0, 0 says that none holds.
module _ (cs : Conditions) {n : ℕ} (e : n ≡ first_of cs) where
  pub answered_member : ¬ (n ≡ 0) → Memᴰ n (numbers_of cs)
  answered_member d = rw e (member cs (λ z. d (e ∙ z)))

  pub answered_first : (k : ℕ) → ¬ (k ≡ 0) → n ≡ k ↔ FirstHolds cs k
  answered_first k d = (λ h. let z = sym e ∙ h in rw z at (first_holds cs (λ y. d (sym z ∙ y))), λ f. e ∙ first_answered cs k f)

  pub answered_none : Without 0 cs → n ≡ 0 ↔ NoneHolds cs
  answered_none t = rw e (none_first cs t)

-- k is answered if its condition holds and none before it, where no other has its number
module _ (cs : Conditions) (k : ℕ) (c : Bool) (ds : Conditions) (some : ¬ (0 ≡ k)) where
  pub reached : Without 0 cs → Without k cs → Without k ds → first_of (cs ++ ((k, c) ∷ ds)) ≡ k ↔ (first_of cs ≡ 0) × (c ≡ true)
  unfolding first_of
  reached z t u = (by, λ x. none_of_first cs ((k, c) ∷ ds) z x.0 ∙ sym (holds_here k c ds x.1))
    where
      here : (b : Bool) → first_of ((k, b) ∷ ds) ≡ k → b ≡ true
      here true e = refl
      here false e = absurd (apart k ds some u e)

      by : first_of (cs ++ ((k, c) ∷ ds)) ≡ k → (first_of cs ≡ 0) × (c ≡ true)
      by e = go (ℕ_discrete (first_of cs) 0)
        where
          go : Dec (first_of cs ≡ 0) → (first_of cs ≡ 0) × (c ≡ true)
          go (yes x) = (x, here c (sym (none_of_first cs ((k, c) ∷ ds) z x) ∙ e))
          go (no d) = absurd (apart k cs some t (sym (one_of_first cs ((k, c) ∷ ds) d) ∙ e))

-- none of them, and not the one behind them
pub none_reached : (cs : Conditions) (k : ℕ) (c : Bool) → ¬ (k ≡ 0) → Without 0 cs → first_of (cs ++ ((k, c) ∷ [])) ≡ 0 ↔ (first_of cs ≡ 0) × (c ≡ false)
none_reached cs k c some z = (by, λ x. none_of_first cs ((k, c) ∷ []) z x.0 ∙ sym (holds_later k c [] x.1 none_holds))
  where
    by : first_of (cs ++ ((k, c) ∷ [])) ≡ 0 → (first_of cs ≡ 0) × (c ≡ false)
    by e = go (ℕ_discrete (first_of cs) 0)
      where
        go : Dec (first_of cs ≡ 0) → (first_of cs ≡ 0) × (c ≡ false)
        go (yes x) = (x, (none_here k c [] some (sym (none_of_first cs ((k, c) ∷ []) z x) ∙ e)).0)
        go (no d) = absurd (d (sym (one_of_first cs ((k, c) ∷ []) d) ∙ e))

-- ---- what is answered by it

pub refusing : {A : Type 0} (k : ℕ) (success refusal : A) → ¬ (k ≡ 0) → by_refusal k success refusal ≡ refusal
refusing zero a b n = absurd (n refl)
refusing (suc k) a b n = refl

module _ (cs : Conditions) (report : Outcome) where
  pub reports : first_of cs ≡ 0 → outcome_by cs report ≡ report
  unfolding outcome_by
  reports z = ap (λ (k : ℕ). by_refusal k report (refused k)) z

  pub refuses : ¬ (first_of cs ≡ 0) → outcome_by cs report ≡ refused (first_of cs)
  unfolding outcome_by
  refuses d = refusing (first_of cs) report (refused (first_of cs)) d

  -- the number that is answered
  pub number_is : report.refusal ≡ 0 → (outcome_by cs report).refusal ≡ first_of cs
  number_is z = go (ℕ_discrete (first_of cs) 0)
    where
      go : Dec (first_of cs ≡ 0) → (outcome_by cs report).refusal ≡ first_of cs
      go (yes x) = ap (λ (o : Outcome). o.refusal) (reports x) ∙ z ∙ sym x
      go (no d) = ap (λ (o : Outcome). o.refusal) (refuses d)
