-- A formula whose variables lie in the scopes of their binders, translated, has each variable's number among its binders.
use mathlib.Core.Path.{◌≡◌, refl, sym, ap₂, subst, ◌∙◌}
use mathlib.Core.Bool.{Bool, true, false, cond, ◌&&◌, ◌||◌}
use mathlib.Core.List.{List, [], ◌∷◌, map}
use Prim.Native.Nat.{ℕ, ◌+◌}
use native.Mathlib.Numerals.{add-one}
use lib.Dec.{T, eqb, eqb→eq, eqb-suc-suc}
use Rattle.sets.specs.Lists.{every, for_some}
use Rattle.sets.proofs.Lists.{and_left, and_right, and_both}
use Rattle.cases.specs.Formula.{Formula, False, True, And, Or, Box, Diamond, Variable, Fix}
use Rattle.cases.proofs.Scopes.{scoped}
use Rattle.cases.proofs.TableTrees.{holds}
use Rattle.translate.specs.Whole.{raise, binds_first, whole, binder_nodes}
use Rattle.translate.proofs.AllLaws.{all_first, all_second, among_all}
use Rattle.translate.proofs.Rules.{closed}

-- whether a number is in a list
abbrev among : List ℕ → ℕ → Bool
among js j = for_some (eqb j) js

-- what is in a list whose numbers are all in js is in js
among_trans : (i : ℕ) (around js : List ℕ) → T (among around i) → T (every (among js) around) → T (among js i)
unfolding for_some every
among_trans i [] js t u = absurd t
among_trans i (j ∷ around) js t u =
    go (eqb i j) (λ s. eqb→eq i j s) t (λ s. among_trans i around js s (and_right (among js j) (every (among js) around) u))
  where
    go : (b : Bool) → (T b → i ≡ j) → T (b || among around i) → (T (among around i) → T (among js i)) → T (among js i)
    go true e t h = subst (λ (k : ℕ). T (among js k)) (sym (e tt)) (and_left (among js j) (every (among js) around) u)
    go false e t h = h t

-- a formula that is scoped, where the binders around it and its own are all in js
closed_from : (js : List ℕ) (a : Formula) (around : List ℕ) → T (scoped around a) → T (every (among js) around) → T (every (among js) (binder_nodes a))
    → T (closed js a)
unfolding scoped closed binder_nodes every
closed_from js False around t u v = tt
closed_from js True around t u v = tt
closed_from js (And a b) around t u v =
    and_both (closed js a) (closed js b)
    (closed_from js a around (and_left (scoped around a) (scoped around b) t) u (all_first (among js) (binder_nodes a) (binder_nodes b) v))
    (closed_from js b around (and_right (scoped around a) (scoped around b) t) u (all_second (among js) (binder_nodes a) (binder_nodes b) v))
closed_from js (Or a b) around t u v =
    and_both (closed js a) (closed js b)
    (closed_from js a around (and_left (scoped around a) (scoped around b) t) u (all_first (among js) (binder_nodes a) (binder_nodes b) v))
    (closed_from js b around (and_right (scoped around a) (scoped around b) t) u (all_second (among js) (binder_nodes a) (binder_nodes b) v))
closed_from js (Box α a) around t u v = closed_from js a around t u v
closed_from js (Diamond α a) around t u v = closed_from js a around t u v
closed_from js (Variable i) around t u v = among_trans i around js t u
closed_from js (Fix sign i a) around t u v =
    closed_from js a (i ∷ around) t
    (and_both (among js i) (every (among js) around) (and_left (among js i) (every (among js) (binder_nodes a)) v) u)
    (and_right (among js i) (every (among js) (binder_nodes a)) v)

-- raising keeps what is in a list
among_raise : (i : ℕ) (around : List ℕ) → among (map (λ j. j + 1) around) (i + 1) ≡ among around i
unfolding for_some
among_raise i [] = refl
among_raise i (j ∷ around) =
    let one : eqb (i + 1) (j + 1) ≡ eqb i j = rw (add-one i, add-one j) (eqb-suc-suc i j) in
    ap₂ ◌||◌ one (among_raise i around)

-- and scopes
scoped_raise : (a : Formula) (around : List ℕ) → scoped (map (λ j. j + 1) around) (raise a) ≡ scoped around a
unfolding scoped raise
scoped_raise False around = refl
scoped_raise True around = refl
scoped_raise (And a b) around = ap₂ ◌&&◌ (scoped_raise a around) (scoped_raise b around)
scoped_raise (Or a b) around = ap₂ ◌&&◌ (scoped_raise a around) (scoped_raise b around)
scoped_raise (Box α a) around = scoped_raise a around
scoped_raise (Diamond α a) around = scoped_raise a around
scoped_raise (Variable i) around = among_raise i around
scoped_raise (Fix sign i a) around = scoped_raise a (i ∷ around)

-- the formula that is translated
pub closed_whole : (a : Formula) → scoped [] a ≡ true → closed (binder_nodes (whole a)) (whole a) ≡ true
unfolding whole binder_nodes closed every
closed_whole a s = holds _ (go (binds_first a))
  where
    go : (b : Bool) → T (closed (binder_nodes (cond b a (Fix true 0 (raise a)))) (cond b a (Fix true 0 (raise a))))
    go true = closed_from (binder_nodes a) a [] (subst T (sym s) tt) tt (among_all (binder_nodes a))
    go false =
        let js : List ℕ = 0 ∷ binder_nodes (raise a) in
        closed_from js (raise a) [] (subst T (sym (scoped_raise a [] ∙ s)) tt) tt (and_right (among js 0) (every (among js) (binder_nodes (raise a))) (among_all js))
