-- The meaning of a formula: it exists, it is one, and it grows with the valuation. It depends on the free variables only, and on the
-- transitions only through which there are.
use mathlib.Core.Path.{◌≡◌, refl, sym, ap, ap₂, subst, ◌∙◌}
use mathlib.Core.Bool.{Bool, true, false, not, cond, ◌&&◌, ◌||◌}
use mathlib.Core.List.{List, [], ◌∷◌, map}
use Prim.Native.Nat.{ℕ, zero, suc, ◌<◌}
use native.Mathlib.Omega.{arith}
use borrow.Author.Tests.{eq-eqb}
use lib.Dec.{T, eqb, eqb→eq, eqb_refl, T_not, not_T}
use lib.ListN.{length, get_or, take, replicate, length-replicate}
use Rattle.sets.specs.Lists.{numbers_from, every, for_some}
use Rattle.sets.specs.States.{States, has, Subset, start, Extremal, Valuation, update, Sized}
use Rattle.sets.specs.computed.Iteration.{Worked, repeated}
use Rattle.sets.proofs.Lists.{length_map_range, and_left, and_right, and_both, or_left, or_right, Implies, kept_implies}
use Rattle.sets.proofs.Order.{before_eq, subset_antisym, extremal_map, extremal_one}
use Rattle.sets.proofs.FixedPoint.{repeated_keeps, extremal, fixed_mono}
use Rattle.sets.proofs.Valuation.{update_sized, update_mono}
use Rattle.cases.specs.Action.{Action}
use Rattle.cases.specs.Formula.{Formula, False, True, And, Or, Box, Diamond, Variable, Fix}
use Rattle.cases.specs.internal.Scope.{free, Within}
use Rattle.cases.specs.File.{Transition}
use Rattle.cases.specs.Case.{same_transition}
use Rattle.cases.specs.Meaning.{set_of, from, box_in, diamond_in, Means}
use Rattle.cases.specs.computed.Meanings.{meaning}

-- ---- any and all

-- the contrary of an implication
contrary : (a b : Bool) → Implies a b → Implies (not b) (not a)
contrary a b h t = not_T a (λ s. T_not b t (h s))

-- all have p if none has not
pub all_not : {A : Type 0} (p : A → Bool) (xs : List A) → every p xs ≡ not (for_some (λ x. not (p x)) xs)
unfolding every for_some
all_not p [] = refl
all_not p (x ∷ xs) = go (p x) (all_not p xs)
  where
    go : (b : Bool) → every p xs ≡ not (for_some (λ y. not (p y)) xs) → (b && every p xs) ≡ not (not b || for_some (λ y. not (p y)) xs)
    go true e = e
    go false e = refl

-- an element with p makes any true
pub any_at : {A : Type 0} (p : A → Bool) (d : A) (xs : List A) (j : ℕ) → j < length xs → T (p (get_or xs j d)) → T (for_some p xs)
unfolding for_some
any_at p d [] j h t = absurd (omega arith)
any_at p d (x ∷ xs) zero h t = or_left (p x) (for_some p xs) t
any_at p d (x ∷ xs) (suc j) h t = or_right (p x) (for_some p xs) (any_at p d xs j (omega arith) t)

-- Element i has p, and none before it has.
pub record First {A : Type 0} (p : A → Bool) (d : A) (xs : List A) : Type 0 where
  pub index : ℕ
  pub below : index < length xs
  pub holds : T (p (get_or xs index d))
  pub new : T (not (for_some p (take index xs)))

-- where any is true there is a first element with p
pub any_first : {A : Type 0} (p : A → Bool) (d : A) (xs : List A) → T (for_some p xs) → First p d xs
unfolding for_some
any_first p d [] t = absurd t
any_first p d (x ∷ xs) t = go (p x) refl t (any_first p d xs)
  where
    go : (b : Bool) → p x ≡ b → T (b || for_some p xs) → (T (for_some p xs) → First p d xs) → First p d (x ∷ xs)
    go true e u next = record { index = 0; below = omega arith; holds = subst T (sym e) tt; new = tt }
    go false e u next =
        let f = next u in
        record { index = suc f.index; below = omega (arith, f.below); holds = f.holds; new = rw e f.new }

-- ---- members of a list of transitions

-- each list has its own members
pub within_refl : (ts : List Transition) → Within ts ts
within_refl ts t h = h

-- a transition from its parts
abbrev transition : ℕ → ℕ → ℕ → Transition
transition s l e = record { source = s; label = l; target = e }

-- same_transition says true of equal records only, and of each and itself
pub same_equal : (t u : Transition) → T (same_transition t u) → t ≡ u
unfolding same_transition
same_equal t u h =
    let g = and_left (eqb t.source u.source && eqb t.label u.label) (eqb t.target u.target) h in
    let a : t.source ≡ u.source = eqb→eq t.source u.source (and_left (eqb t.source u.source) (eqb t.label u.label) g) in
    let b : t.label ≡ u.label = eqb→eq t.label u.label (and_right (eqb t.source u.source) (eqb t.label u.label) g) in
    let c : t.target ≡ u.target = eqb→eq t.target u.target (and_right (eqb t.source u.source && eqb t.label u.label) (eqb t.target u.target) h) in
    let e : transition t.source t.label t.target ≡ transition u.source u.label u.target = cc in
    e

pub same_self : (t : Transition) → T (same_transition t t)
unfolding same_transition
same_self t = rw (eq-eqb t.source t.source refl, eq-eqb t.label t.label refl, eq-eqb t.target t.target refl) tt

-- a member with p makes any true
member_any : (p : Transition → Bool) (t : Transition) → T (p t) → (ts : List Transition) → T (for_some (same_transition t) ts) → T (for_some p ts)
member_any p t h ts m =
    let f = any_first (same_transition t) t ts m in
    any_at p t ts f.index f.below (subst (λ u. T (p u)) (same_equal t (get_or ts f.index t) f.holds) h)

-- So any grows with the property and the members; all grows with the property, and with fewer members.
pub any_within : (ts us : List Transition) → Within ts us → (p q : Transition → Bool) → ((t : Transition) → Implies (p t) (q t)) → Implies (for_some p ts) (for_some q us)
any_within ts us w p q h m =
    let d : Transition = transition 0 0 0 in
    let f = any_first p d ts m in
    let t : Transition = get_or ts f.index d in
    member_any q t (h t f.holds) us (w t (any_at (same_transition t) d ts f.index f.below (same_self t)))

pub all_within : (ts us : List Transition) → Within us ts → (p q : Transition → Bool) → ((t : Transition) → Implies (p t) (q t)) → Implies (every p ts) (every q us)
all_within ts us w p q h =
    rw (all_not p ts, all_not q us)
    (contrary (for_some (λ t. not (q t)) us) (for_some (λ t. not (p t)) ts)
    (any_within us ts w (λ t. not (q t)) (λ t. not (p t)) (λ t. contrary (p t) (q t) (h t))))

-- ---- the meaning as a function

module _ (n : ℕ) (ts : List Transition) where
  -- one turn at the binder of variable i
  abbrev pub body_of : ℕ → Formula → Valuation → States → Worked
  body_of i a ρ v = (meaning n ts a (update ρ i v), 0)

-- The meaning has n states.
pub meaning_sized : (n : ℕ) (ts : List Transition) (a : Formula) (ρ : Valuation) → Sized n ρ → length (meaning n ts a ρ) ≡ n
unfolding meaning
meaning_sized n ts False ρ r = length-replicate n false
meaning_sized n ts True ρ r = length-replicate n true
meaning_sized n ts (And a b) ρ r = length_map_range _ 0 n
meaning_sized n ts (Or a b) ρ r = length_map_range _ 0 n
meaning_sized n ts (Box α a) ρ r = length_map_range _ 0 n
meaning_sized n ts (Diamond α a) ρ r = length_map_range _ 0 n
meaning_sized n ts (Variable i) ρ r = r i
meaning_sized n ts (Fix sign i a) ρ r =
    repeated_keeps (λ v. length v ≡ n) (body_of n ts i a ρ) (λ v o. meaning_sized n ts a (update ρ i v) (update_sized ρ i v r o)) (suc n) (start n sign) (length-replicate n sign)

-- ---- the meaning grows

-- a set of the states with a property grows with the property
map_mono : {A : Type 0} (f g : A → Bool) → ((x : A) → Implies (f x) (g x)) → (xs : List A) → Subset (map f xs) (map g xs)
map_mono f g h [] s t = t
map_mono f g h (x ∷ xs) zero t = h x t
map_mono f g h (x ∷ xs) (suc s) t = map_mono f g h xs s t

-- Sets joined state by state grow with both.
join_mono : (n : ℕ) (op : Bool → Bool → Bool) → ((a b c d : Bool) → Implies a c → Implies b d → Implies (op a b) (op c d))
    → (x y v w : States) → Subset x v → Subset y w → Subset (set_of n (λ s. op (has x s) (has y s))) (set_of n (λ s. op (has v s) (has w s)))
join_mono n op mono x y v w g h =
    map_mono (λ s. op (has x s) (has y s)) (λ s. op (has v s) (has w s)) (λ s. mono (has x s) (has y s) (has v s) (has w s) (g s) (h s)) (numbers_from 0 n)

-- Box and diamond grow with the set, and look only at which transitions there are.
module _ (n : ℕ) (ts us : List Transition) (there : Within ts us) (back : Within us ts) (α : Action) (x y : States) (h : Subset x y) where
  pub box_mono : Subset (set_of n (box_in n ts α x)) (set_of n (box_in n us α y))
  box_mono = map_mono (box_in n ts α x) (box_in n us α y) (λ s.
      all_within ts us back (λ t. not (from s α t) || has x t.target) (λ t. not (from s α t) || has y t.target) (λ t.
      kept_implies.or (not (from s α t)) (has x t.target) (not (from s α t)) (has y t.target) (λ g. g) (h t.target))) (numbers_from 0 n)

  pub diamond_mono : Subset (set_of n (diamond_in n ts α x)) (set_of n (diamond_in n us α y))
  diamond_mono = map_mono (diamond_in n ts α x) (diamond_in n us α y) (λ s.
      any_within ts us there (λ t. from s α t && has x t.target) (λ t. from s α t && has y t.target) (λ t.
      kept_implies.and (from s α t) (has x t.target) (from s α t) (has y t.target) (λ g. g) (h t.target))) (numbers_from 0 n)

-- The sets of the free variables of a grow from ρ to σ.
abbrev pub Below : Formula → Valuation → Valuation → Type 0
Below a ρ σ = (i : ℕ) → T (free i a) → Subset (ρ i) (σ i)

-- at a binder the variable's set may grow too
update_below : (sign : Bool) (i : ℕ) (a : Formula) (ρ σ : Valuation) → Below (Fix sign i a) ρ σ → (v w : States) → Subset v w → Below a (update ρ i v) (update σ i w)
unfolding free update
update_below sign i a ρ σ h v w g j t = go (eqb j i) (λ u. h j (and_both (not (eqb j i)) (free j a) u t))
  where
    go : (b : Bool) → (T (not b) → Subset (ρ j) (σ j)) → Subset (cond b v (ρ j)) (cond b w (σ j))
    go true k = g
    go false k = k tt

-- The meaning grows with the sets of the free variables, and looks only at which transitions there are.
pub meaning_below : (n : ℕ) (a : Formula) (ts us : List Transition) → Within ts us → Within us ts
    → (ρ σ : Valuation) → Sized n ρ → Sized n σ → Below a ρ σ → Subset (meaning n ts a ρ) (meaning n us a σ)
unfolding meaning free
meaning_below n False ts us there back ρ σ r q h = λ s t. t
meaning_below n True ts us there back ρ σ r q h = λ s t. t
meaning_below n (And a b) ts us there back ρ σ r q h =
    join_mono n ◌&&◌ kept_implies.and (meaning n ts a ρ) (meaning n ts b ρ) (meaning n us a σ) (meaning n us b σ)
    (meaning_below n a ts us there back ρ σ r q (λ i t. h i (or_left (free i a) (free i b) t)))
    (meaning_below n b ts us there back ρ σ r q (λ i t. h i (or_right (free i a) (free i b) t)))
meaning_below n (Or a b) ts us there back ρ σ r q h =
    join_mono n ◌||◌ kept_implies.or (meaning n ts a ρ) (meaning n ts b ρ) (meaning n us a σ) (meaning n us b σ)
    (meaning_below n a ts us there back ρ σ r q (λ i t. h i (or_left (free i a) (free i b) t)))
    (meaning_below n b ts us there back ρ σ r q (λ i t. h i (or_right (free i a) (free i b) t)))
meaning_below n (Box α a) ts us there back ρ σ r q h =
    box_mono n ts us there back α (meaning n ts a ρ) (meaning n us a σ) (meaning_below n a ts us there back ρ σ r q h)
meaning_below n (Diamond α a) ts us there back ρ σ r q h =
    diamond_mono n ts us there back α (meaning n ts a ρ) (meaning n us a σ) (meaning_below n a ts us there back ρ σ r q h)
meaning_below n (Variable i) ts us there back ρ σ r q h = h i (eqb_refl i)
meaning_below n (Fix sign i a) ts us there back ρ σ r q h =
    fixed_mono n (body_of n ts i a ρ) (body_of n us i a σ)
    (λ v o. meaning_sized n ts a (update ρ i v) (update_sized ρ i v r o))
    (λ v w o l g. meaning_below n a ts ts (within_refl ts) (within_refl ts) (update ρ i v) (update ρ i w) (update_sized ρ i v r o) (update_sized ρ i w r l)
    (update_below sign i a ρ ρ (λ j t s u. u) v w g))
    (λ v o. meaning_sized n us a (update σ i v) (update_sized σ i v q o))
    (λ v w o l g. meaning_below n a us us (within_refl us) (within_refl us) (update σ i v) (update σ i w) (update_sized σ i v q o) (update_sized σ i w q l)
    (update_below sign i a σ σ (λ j t s u. u) v w g))
    (λ v o. meaning_below n a ts us there back (update ρ i v) (update σ i v) (update_sized ρ i v r o) (update_sized σ i v q o)
    (update_below sign i a ρ σ h v v (λ s u. u)))
    sign

-- The meaning grows with the valuation.
pub meaning_mono : (n : ℕ) (ts : List Transition) (a : Formula) (ρ σ : Valuation) → Sized n ρ → Sized n σ
    → ((k : ℕ) → Subset (ρ k) (σ k)) → Subset (meaning n ts a ρ) (meaning n ts a σ)
meaning_mono n ts a ρ σ r q h = meaning_below n a ts ts (within_refl ts) (within_refl ts) ρ σ r q (λ i t. h i)

-- ---- what the meaning depends on

-- Equal members, and equal sets of the free variables: equal meanings.
pub meaning_same : (n : ℕ) (a : Formula) (ts us : List Transition) → Within ts us → Within us ts
    → (ρ σ : Valuation) → Sized n ρ → Sized n σ → ((i : ℕ) → T (free i a) → ρ i ≡ σ i) → meaning n ts a ρ ≡ meaning n us a σ
meaning_same n a ts us there back ρ σ r q h =
    subset_antisym (meaning n ts a ρ) (meaning n us a σ) (meaning_sized n ts a ρ r ∙ sym (meaning_sized n us a σ q))
    (meaning_below n a ts us there back ρ σ r q (λ i t. before_eq false (h i t)))
    (meaning_below n a us ts back there σ ρ q r (λ i t. before_eq false (sym (h i t))))

-- The meaning depends on the free variables only.
pub means_scope : (n : ℕ) (ts : List Transition) (a : Formula) (ρ σ : Valuation) → Sized n ρ → Sized n σ
    → ((i : ℕ) → T (free i a) → ρ i ≡ σ i) → meaning n ts a ρ ≡ meaning n ts a σ
means_scope n ts a = meaning_same n a ts ts (within_refl ts) (within_refl ts)

-- It depends on the transitions only through which there are.
pub means_members : (n : ℕ) (ts us : List Transition) → Within ts us → Within us ts
    → (a : Formula) (ρ : Valuation) → Sized n ρ → meaning n ts a ρ ≡ meaning n us a ρ
means_members n ts us there back a ρ r = meaning_same n a ts us there back ρ ρ r r (λ i t. refl)

-- ---- the meaning is what the definition says

-- w is the only set with the property P.
pub record Only (P : States → Type 0) (w : States) : Type 0 where
  pub holds : P w
  pub one : (v : States) → P v → v ≡ w

-- what is equal to a set, or worked out from one or two sets that are the only ones
only_equal : (x : States) → Only (λ v. v ≡ x) x
only_equal x = record { holds = refl; one = λ v e. e }

only_from : {P : States → Type 0} {x : States} (f : States → States) → Only P x → Only (λ v. (y : States) × P y × (v ≡ f y)) (f x)
only_from {x = x} f p = record { holds = (x, p.holds, refl); one = λ v m. m.2 ∙ ap f (p.one m.0 m.1) }

only_join : {P Q : States → Type 0} {x y : States} (f : States → States → States) → Only P x → Only Q y
    → Only (λ v. (u : States) × (w : States) × P u × Q w × (v ≡ f u w)) (f x y)
only_join {x = x} {y = y} f p q = record {
  holds = (x, y, p.holds, q.holds, refl);
  one = λ v m. m.4 ∙ ap₂ f (p.one m.0 m.2) (q.one m.1 m.3);
}

module _ (n : ℕ) (ts : List Transition) where
  -- a binder's set, where the body's meaning is known for every set: the iteration stops at the least or greatest fixed point
  only_fix : (sign : Bool) (i : ℕ) (a : Formula) (ρ : Valuation) → Sized n ρ
      → ((u : States) → length u ≡ n → Only (Means n ts a (update ρ i u)) (meaning n ts a (update ρ i u)))
      → Only (Extremal n sign (λ u. Means n ts a (update ρ i u) u)) (repeated (suc n) (body_of n ts i a ρ) (start n sign)).0
  only_fix sign i a ρ r body = record { holds = least; one = λ v m. extremal_one m least }
    where
      least : Extremal n sign (λ u. Means n ts a (update ρ i u) u) (repeated (suc n) (body_of n ts i a ρ) (start n sign)).0
      least = extremal_map
          (λ u o e. subst (Means n ts a (update ρ i u)) e (body u o).holds)
          (λ u o m. sym ((body u o).one u m))
          (extremal n sign (body_of n ts i a ρ)
          (λ v o. meaning_sized n ts a (update ρ i v) (update_sized ρ i v r o))
          (λ v w o l g. meaning_mono n ts a (update ρ i v) (update ρ i w) (update_sized ρ i v r o) (update_sized ρ i w r l) (update_mono ρ ρ i v w (λ k s t. t) g)))

  -- Each formula means its meaning, and nothing else.
  pub means_only : (a : Formula) (ρ : Valuation) → Sized n ρ → Only (Means n ts a ρ) (meaning n ts a ρ)
  unfolding Means meaning
  means_only False ρ r = only_equal (replicate n false)
  means_only True ρ r = only_equal (replicate n true)
  means_only (And a b) ρ r = only_join (λ x y. set_of n (λ s. has x s && has y s)) (means_only a ρ r) (means_only b ρ r)
  means_only (Or a b) ρ r = only_join (λ x y. set_of n (λ s. has x s || has y s)) (means_only a ρ r) (means_only b ρ r)
  means_only (Box α a) ρ r = only_from (λ x. set_of n (box_in n ts α x)) (means_only a ρ r)
  means_only (Diamond α a) ρ r = only_from (λ x. set_of n (diamond_in n ts α x)) (means_only a ρ r)
  means_only (Variable i) ρ r = only_equal (ρ i)
  means_only (Fix sign i a) ρ r = only_fix sign i a ρ r (λ u o. means_only a (update ρ i u) (update_sized ρ i u r o))

  -- The meaning exists,
  pub means_exists : (a : Formula) (ρ : Valuation) → Sized n ρ → Means n ts a ρ (meaning n ts a ρ)
  means_exists a ρ r = (means_only a ρ r).holds

  -- is one,
  pub means_unique : (a : Formula) (ρ : Valuation) → Sized n ρ → (v : States) → Means n ts a ρ v → v ≡ meaning n ts a ρ
  means_unique a ρ r = (means_only a ρ r).one

  -- and has n states.
  pub means_sized : (a : Formula) (ρ : Valuation) → Sized n ρ → (v : States) → Means n ts a ρ v → length v ≡ n
  means_sized a ρ r v m = ap length (means_unique a ρ r v m) ∙ meaning_sized n ts a ρ r
