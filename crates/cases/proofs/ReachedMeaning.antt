-- What a formula means in a state depends on the states only that can be reached from it.
use mathlib.Core.Path.{◌≡◌, refl, sym, ap₂, subst, ◌∙◌}
use mathlib.Core.Logic.{◌↔◌}
use mathlib.Core.Bool.{Bool, not, true, false, ◌&&◌, ◌||◌}
use mathlib.Core.List.{List, Mem}
use Prim.Native.Nat.{ℕ, suc}
use lib.Dec.{T, eqb, eqb→eq, T_not}
use Rattle.sets.specs.States.{States, has, start, Valuation, update}
use Rattle.sets.proofs.Lists.{table_at, or_either, and_left, and_right, and_both, implies_antisym}
use Rattle.sets.proofs.Members.{member_some, some_member, every_member, member_every}
use Rattle.sets.proofs.FixedPoint.{repeated_related}
use Rattle.sets.proofs.Valuation.{update_kept}
use Rattle.cases.specs.Action.{Action}
use Rattle.cases.specs.Formula.{Formula, False, True, And, Or, Box, Diamond, Variable, Fix}
use Rattle.cases.specs.File.{Transition}
use Rattle.cases.specs.Case.{Case}
use Rattle.cases.specs.Meaning.{set_of, from, box_in, diamond_in, MeansIn}
use Rattle.cases.specs.Reach.{Reachable, further, SameFromReachable}
use Rattle.cases.specs.computed.Meanings.{meaning}
use Rattle.cases.proofs.MeaningLaws.{body_of, means_unique}
use Rattle.cases.specs.internal.Search.{Bounded}
use Rattle.cases.proofs.Reaching.{reached_below}

-- From state s the two lists have the same transitions, and these end in states of which the two sets have the same.
record AlikeFrom (ts us : List Transition) (x y : States) (s : ℕ) : Type 0 where
  pub same : (t : Transition) → t.source ≡ s → Mem t ts ↔ Mem t us
  pub ends : (t : Transition) → t.source ≡ s → Mem t ts → has x t.target ≡ has y t.target

turned : {ts us : List Transition} {x y : States} {s : ℕ} → AlikeFrom ts us x y s → AlikeFrom us ts y x s
turned a = record { same = λ t e. ((a.same t e).1, (a.same t e).0); ends = λ t e m. sym (a.ends t e ((a.same t e).1 m)) }

module _ (n : ℕ) (α : Action) (s : ℕ) where
  -- the source of a transition from s with an accepted label
  source_is : (t : Transition) → T (from s α t) → t.source ≡ s
  source_is t f = eqb→eq t.source s (and_left (eqb t.source s) _ f)

  -- So a box holds there for both or for none,
  box_kept : (ts us : List Transition) (x y : States) → AlikeFrom ts us x y s → T (box_in n ts α x s) → T (box_in n us α y s)
  box_kept ts us x y a h = member_every (λ t. not (from s α t) || has y t.target) us (λ t m. by t m (from s α t) refl)
    where
      by : (t : Transition) → Mem t us → (b : Bool) → from s α t ≡ b → T (not b || has y t.target)
      by t m false e = tt
      by t m true e =
          let f : T (from s α t) = subst T (sym e) tt in
          let m' = (a.same t (source_is t f)).1 m in
          let ends = every_member (λ t. not (from s α t) || has x t.target) ts h t m' in
          subst T (a.ends t (source_is t f) m') (or_either (not (from s α t)) (has x t.target) (λ z. absurd (T_not (from s α t) z f)) (λ z. z) ends)

  box_alike : (ts us : List Transition) (x y : States) → AlikeFrom ts us x y s → box_in n ts α x s ≡ box_in n us α y s
  box_alike ts us x y a = implies_antisym _ _ (box_kept ts us x y a) (box_kept us ts y x (turned a))

  -- and so does a diamond.
  diamond_kept : (ts us : List Transition) (x y : States) → AlikeFrom ts us x y s → T (diamond_in n ts α x s) → T (diamond_in n us α y s)
  diamond_kept ts us x y a h =
      let (t, m, k) = some_member (λ t. from s α t && has x t.target) ts h in
      let f : T (from s α t) = and_left (from s α t) _ k in
      member_some (λ t. from s α t && has y t.target) t us ((a.same t (source_is t f)).0 m)
      (and_both (from s α t) _ f (subst T (a.ends t (source_is t f) m) (and_right (from s α t) _ k)))

  diamond_alike : (ts us : List Transition) (x y : States) → AlikeFrom ts us x y s → diamond_in n ts α x s ≡ diamond_in n us α y s
  diamond_alike ts us x y a = implies_antisym _ _ (diamond_kept ts us x y a) (diamond_kept us ts y x (turned a))

-- ---- two cases with the same transitions from the states that can be reached
module _ {c c' : Case} (same : SameFromReachable c c') (bounded : Bounded c) where
  abbrev n : ℕ
  n = c.states

  abbrev ts : List Transition
  ts = c.transitions

  abbrev us : List Transition
  us = c'.transitions

  -- sets that have the same of those states
  abbrev pub Agree : States → States → Type 0
  Agree v w = (s : ℕ) → Reachable c s → has v s ≡ has w s

  -- So do the ends of the transitions from such a state.
  alike_from : (x y : States) → Agree x y → (s : ℕ) → Reachable c s → AlikeFrom ts us x y s
  alike_from x y g s r =
      let source : (t : Transition) → t.source ≡ s → Reachable c t.source = λ t e. subst (Reachable c) (sym e) r in
      record { same = λ t e. same.transitions t (source t e); ends = λ t e m. g t.target (further (source t e) m) }

  -- Sets of the states with a property agree where the properties do.
  agree_by : (f g : ℕ → Bool) → ((s : ℕ) → Reachable c s → f s ≡ g s) → Agree (set_of n f) (set_of n g)
  agree_by f g h s r = let low = reached_below c bounded r in table_at f n s false low ∙ h s r ∙ sym (table_at g n s false low)

  -- So meanings agree.
  meaning_agrees : (a : Formula) (ρ σ : Valuation) → ((i : ℕ) → Agree (ρ i) (σ i)) → Agree (meaning n ts a ρ) (meaning n us a σ)
  unfolding meaning
  meaning_agrees False ρ σ h = λ s r. refl
  meaning_agrees True ρ σ h = λ s r. refl
  meaning_agrees (And a b) ρ σ h = agree_by _ _ (λ s r. ap₂ ◌&&◌ (meaning_agrees a ρ σ h s r) (meaning_agrees b ρ σ h s r))
  meaning_agrees (Or a b) ρ σ h = agree_by _ _ (λ s r. ap₂ ◌||◌ (meaning_agrees a ρ σ h s r) (meaning_agrees b ρ σ h s r))
  meaning_agrees (Box α a) ρ σ h = agree_by _ _ (λ s r. box_alike n α s ts us _ _ (alike_from _ _ (meaning_agrees a ρ σ h) s r))
  meaning_agrees (Diamond α a) ρ σ h = agree_by _ _ (λ s r. diamond_alike n α s ts us _ _ (alike_from _ _ (meaning_agrees a ρ σ h) s r))
  meaning_agrees (Variable i) ρ σ h = h i
  meaning_agrees (Fix sign i a) ρ σ h =
      repeated_related Agree (body_of n ts i a ρ) (body_of n us i a σ) (λ v w g. meaning_agrees a (update ρ i v) (update σ i w) (update_kept Agree ρ σ i v w h g))
      (suc n) (start n sign) (start n sign) (λ s r. refl)

  -- What the formula means agrees in the states that can be reached.
  pub means_agrees : (ρ : Valuation) (v w : States) → MeansIn c ρ v → MeansIn c' ρ w → (s : ℕ) → Reachable c s → has v s ≡ has w s
  means_agrees ρ v w (sized, m) (sized', m') s r =
      let first = means_unique n ts c.formula ρ sized v m in
      let other = means_unique c'.states us c'.formula ρ sized' w m' in
      rw (first, other, ← same.states, ← same.formula) (meaning_agrees c.formula ρ ρ (λ i s r. refl) s r)
