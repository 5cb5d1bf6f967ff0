-- Direct's rule: it has an outcome, which is one and is what the function works out; that is the formula's meaning, within a bound of rounds.
use mathlib.Core.Path.{◌≡◌, refl, sym, ap, ap₂, subst, ◌∙◌}
use mathlib.Core.Bool.{Bool}
use mathlib.Core.List.{List}
use Prim.Native.Nat.{ℕ, zero, suc, ◌+◌, ◌≤◌}
use native.Mathlib.Nat.{add-zero, add-suc, pow-le-pow_right, mul-le-mul_left}
use native.Mathlib.Numerals.{one-add}
use native.Mathlib.Omega.{arith}
use lib.ListN.{length, length-replicate}
use Rattle.sets.specs.States.{States, Subset, start, Valuation, update, Sized}
use Rattle.sets.specs.Loop.{itself}
use Rattle.sets.specs.computed.Iteration.{Worked}
use Rattle.sets.proofs.FixedPoint.{step_set, loop_one, loop_map, cost, stops}
use Rattle.solver.specs.Solution.{powers}
use Rattle.sets.proofs.Valuation.{update_sized, update_mono}
use Rattle.solver.proofs.Solving.{powers_suc}
use Rattle.cases.specs.Formula.{Formula, False, True, And, Or, Box, Diamond, Variable, Fix}
use Rattle.cases.specs.internal.Scope.{binders}
use Rattle.cases.specs.declared.Transition.{Transition}
use Rattle.cases.specs.Meaning.{set_of, box_in, diamond_in, intersection, union}
use Rattle.cases.specs.computed.Meanings.{meaning}
use Rattle.cases.proofs.MeaningLaws.{body_of, meaning_sized, meaning_mono}
use Rattle.routes.specs.Direct.{FromTwo, FromOne, Direct}
use Rattle.routes.specs.computed.Worked.{worked}
use Rattle.routes.proofs.RepeatedLaws.{repeated_same}

-- ---- outcomes from those of the operands

-- two outcomes give one
both : {P Q : States → ℕ → Type 0} (op : States → States → States) (x y : Worked) → P x.0 x.1 → Q y.0 y.1
    → FromTwo P Q op (op x.0 y.0) (x.1 + y.1)
both op x y d e = record { left = x.0; right = y.0; before = x.1; after = y.1; first = d; second = e; set = refl; sum = refl }

-- a rule with one outcome at most
abbrev One : (States → ℕ → Type 0) → Type 0
One P = (v w : States) (r q : ℕ) → P v r → P w q → (v ≡ w) × (r ≡ q)

-- a given set with no round is one outcome, and operands with one outcome each give one
one_equal : (x : States) → One (λ v r. (v ≡ x) × (r ≡ 0))
one_equal x v w r q d e = (d.0 ∙ sym e.0, d.1 ∙ sym e.1)

one_from : {P : States → ℕ → Type 0} (op : States → States) → One P → One (FromOne P op)
one_from op h v w r q d e =
    let x = h d.operand e.operand r q d.first e.first in
    (d.set ∙ ap op x.0 ∙ sym e.set, x.1)

one_join : {P Q : States → ℕ → Type 0} (op : States → States → States) → One P → One Q → One (FromTwo P Q op)
one_join op h k v w r q d e =
    let x = h d.left e.left d.before e.before d.first e.first in
    let y = k d.right e.right d.after e.after d.second e.second in
    (d.set ∙ ap₂ op x.0 y.0 ∙ sym e.set, omega (arith, d.sum, e.sum, x.1, y.1))

-- a turn that holds the set itself, where working out has one outcome
one_itself : {F : States → States → ℕ → Type 0} → ((u : States) → One (F u)) → (v a b x y : States) (r q : ℕ)
    → itself F v a x r → itself F v b y q → (a ≡ b) × (x ≡ y) × (r ≡ q)
one_itself h v a b x y r q d e = let m = h v x y r q d.1 e.1 in (d.0 ∙ sym e.0, m.0, m.1)

-- ---- the bound's sums of powers

-- They grow with the number of powers,
pub powers_mono : (m d e : ℕ) → d ≤ e → powers m d ≤ powers m e
unfolding powers
powers_mono m zero e h = omega arith
powers_mono m (suc d) zero h = absurd (omega arith)
powers_mono m (suc d) (suc e) h = rw (powers_suc m d, powers_suc m e) (mul-le-mul_left m (omega (arith, powers_mono m d e (omega arith))))

-- and two of them are at most that of all powers.
powers_add : (n d e : ℕ) → powers (suc n) d + powers (suc n) e ≤ powers (suc n) (d + e)
unfolding powers
powers_add n d zero = rw (add-zero d) (omega arith)
powers_add n d (suc e) =
    rw (add-suc d e) (omega (arith, powers_add n d e, pow-le-pow_right {n = suc n} (omega arith) {i = suc e} {j = suc (d + e)} (omega arith)))

module _ (n : ℕ) (ts : List Transition) where
  -- The rule has one outcome.
  pub direct_one : (a : Formula) (ρ : Valuation) (v w : States) (r q : ℕ) → Direct n ts a ρ v r → Direct n ts a ρ w q → (v ≡ w) × (r ≡ q)
  unfolding Direct
  direct_one False ρ = one_equal _
  direct_one True ρ = one_equal _
  direct_one (And a b) ρ = one_join (intersection n) (direct_one a ρ) (direct_one b ρ)
  direct_one (Or a b) ρ = one_join (union n) (direct_one a ρ) (direct_one b ρ)
  direct_one (Box α a) ρ = one_from (λ x. set_of n (box_in n ts α x)) (direct_one a ρ)
  direct_one (Diamond α a) ρ = one_from (λ x. set_of n (diamond_in n ts α x)) (direct_one a ρ)
  direct_one (Variable i) ρ = one_equal (ρ i)
  direct_one (Fix sign i a) ρ = λ v w r q. loop_one (one_itself (λ u. direct_one a (update ρ i u)))

  -- ---- what is worked out

  -- It is the formula's meaning.
  pub worked_meaning : (a : Formula) (ρ : Valuation) → (worked n ts a ρ).0 ≡ meaning n ts a ρ
  unfolding worked meaning
  worked_meaning False ρ = refl
  worked_meaning True ρ = refl
  worked_meaning (And a b) ρ = ap₂ (intersection n) (worked_meaning a ρ) (worked_meaning b ρ)
  worked_meaning (Or a b) ρ = ap₂ (union n) (worked_meaning a ρ) (worked_meaning b ρ)
  worked_meaning (Box α a) ρ = ap (λ (x : States). set_of n (box_in n ts α x)) (worked_meaning a ρ)
  worked_meaning (Diamond α a) ρ = ap (λ (x : States). set_of n (diamond_in n ts α x)) (worked_meaning a ρ)
  worked_meaning (Variable i) ρ = refl
  worked_meaning (Fix sign i a) ρ =
      repeated_same (λ v. Unit {0}) (λ v. worked n ts a (update ρ i v)) (body_of n ts i a ρ) (λ v u. u) (λ v u. worked_meaning a (update ρ i v)) (suc n) (start n sign) tt

  -- So it has n states,
  pub worked_sized : (a : Formula) (ρ : Valuation) → Sized n ρ → length (worked n ts a ρ).0 ≡ n
  worked_sized a ρ z = ap length (worked_meaning a ρ) ∙ meaning_sized n ts a ρ z

  -- and grows with the valuation.
  worked_mono : (a : Formula) (ρ σ : Valuation) → Sized n ρ → Sized n σ → ((k : ℕ) → Subset (ρ k) (σ k))
      → Subset (worked n ts a ρ).0 (worked n ts a σ).0
  worked_mono a ρ σ y z h = rw (worked_meaning a ρ, worked_meaning a σ) (meaning_mono n ts a ρ σ y z h)

  -- The rounds are at most m + m ^ 2 + .. + m ^ d, for d binders and m = n + 1.
  pub worked_bound : (a : Formula) (ρ : Valuation) → (worked n ts a ρ).1 ≤ powers (suc n) (binders a)
  unfolding worked binders
  worked_bound False ρ = omega arith
  worked_bound True ρ = omega arith
  worked_bound (And a b) ρ = omega (arith, worked_bound a ρ, worked_bound b ρ, powers_add n (binders a) (binders b))
  worked_bound (Or a b) ρ = omega (arith, worked_bound a ρ, worked_bound b ρ, powers_add n (binders a) (binders b))
  worked_bound (Box α a) ρ = worked_bound a ρ
  worked_bound (Diamond α a) ρ = worked_bound a ρ
  worked_bound (Variable i) ρ = omega arith
  worked_bound (Fix sign i a) ρ =
      rw (one-add (binders a), powers_suc (suc n) (binders a))
      (cost (λ v. worked n ts a (update ρ i v)) (powers (suc n) (binders a)) (λ v. worked_bound a (update ρ i v)) (suc n) (start n sign))

  -- ---- the rule's outcome

  -- a binder's loop, where the body's outcome is known for every set of n states
  fix_exists : (sign : Bool) (i : ℕ) (a : Formula) (ρ : Valuation) → Sized n ρ
      → ((u : States) → length u ≡ n → Direct n ts a (update ρ i u) (worked n ts a (update ρ i u)).0 (worked n ts a (update ρ i u)).1)
      → Direct n ts (Fix sign i a) ρ (worked n ts (Fix sign i a) ρ).0 (worked n ts (Fix sign i a) ρ).1
  unfolding Direct worked
  fix_exists sign i a ρ z body =
      loop_map n (λ v u w r o e. ap length (sym (step_set e.1)) ∙ sized v o)
      (λ v u w r o e. (e.0, subst (λ (x : Worked). Direct n ts a (update ρ i v) x.0 x.1) e.1 (body v o))) (length-replicate n sign)
      (stops n sign (λ v. worked n ts a (update ρ i v)) sized
      (λ v w o l h. worked_mono a (update ρ i v) (update ρ i w) (update_sized ρ i v z o) (update_sized ρ i w z l) (update_mono ρ ρ i v w (λ k s t. t) h))
      (λ v. v))
    where
      sized : (v : States) → length v ≡ n → length (worked n ts a (update ρ i v)).0 ≡ n
      sized v o = worked_sized a (update ρ i v) (update_sized ρ i v z o)

  -- The rule gives what is worked out, in sets and in rounds.
  pub direct_exists : (a : Formula) (ρ : Valuation) → Sized n ρ → Direct n ts a ρ (worked n ts a ρ).0 (worked n ts a ρ).1
  unfolding Direct worked
  direct_exists False ρ z = (refl, refl)
  direct_exists True ρ z = (refl, refl)
  direct_exists (And a b) ρ z = both (intersection n) (worked n ts a ρ) (worked n ts b ρ) (direct_exists a ρ z) (direct_exists b ρ z)
  direct_exists (Or a b) ρ z = both (union n) (worked n ts a ρ) (worked n ts b ρ) (direct_exists a ρ z) (direct_exists b ρ z)
  direct_exists (Box α a) ρ z = record { operand = _; first = direct_exists a ρ z; set = refl }
  direct_exists (Diamond α a) ρ z = record { operand = _; first = direct_exists a ρ z; set = refl }
  direct_exists (Variable i) ρ z = (refl, refl)
  direct_exists (Fix sign i a) ρ z = fix_exists sign i a ρ z (λ u o. direct_exists a (update ρ i u) (update_sized ρ i u z o))

  -- So each outcome has n states.
  pub direct_sized : (a : Formula) (ρ : Valuation) → Sized n ρ → (v : States) (r : ℕ) → Direct n ts a ρ v r → length v ≡ n
  direct_sized a ρ z v r d = ap length (direct_one a ρ v _ r _ d (direct_exists a ρ z)).0 ∙ worked_sized a ρ z
