-- The distinct transitions of a table: each record of the table once, in order of first appearance.
use mathlib.Core.Path.{Path, ◌≡◌, refl, sym, ap, subst, ◌∙◌}
use mathlib.Core.Logic.{◌↔◌, by_cases, ∥∥₁_elim}
use mathlib.Core.HLevel.{⊥_prop}
use mathlib.Core.Bool.{Bool, true, false, cond, ◌&&◌, ◌||◌}
use mathlib.Core.List.{List, [], ◌∷◌, ◌++◌, map, append-nil, Mem, Memᴰ, mem-cons_of_mem, Nodup, Nodup-nil, Nodup-cons}
use mathlib.Core.List.Perm
use mathlib.Core.List.{Perm, Permᴰ, perm_ext_iff_of_Nodup}
use Prim.Native.Nat.{ℕ, zero, suc, ◌+◌, ◌<◌, ◌≤◌}
use native.Mathlib.Nat.{zero-add, add-zero, add_assoc}
use native.Mathlib.Numerals.{add-one}
use native.Mathlib.Decide.{ℕ_discrete}
use native.Mathlib.Omega.{arith}
use borrow.Author.Tests.{eq-eqb, ne_eqb}
use lib.Dec.{T, eqb}
use lib.ListN.{length, take, length-append}
use lib.Seq.{append_snoc, get_or-append_seam, take-append_seam}
use Rattle.sets.specs.Lists.{numbers_from, for_some, keep}
use Rattle.sets.proofs.Lists.{or_left, or_right}
use Rattle.cases.specs.File.{Transition}
use Rattle.cases.specs.Case.{same_transition, copies, transition_at, copies_before, distinct, fresh}
use Rattle.cases.specs.internal.Scope.{Within}
use Rattle.cases.proofs.TableTrees.{holds}
use Rattle.cases.proofs.MeaningLaws.{same_equal, same_self}

-- as many elements as a list has at most are kept of it
pub length_keep : {A : Type 0} (p : A → Bool) (xs : List A) → length (keep p xs) ≤ length xs
unfolding keep
length_keep p [] = omega arith
length_keep p (x ∷ xs) = go (p x) (length_keep p xs)
  where
    go : (b : Bool) → length (keep p xs) ≤ length xs → length (cond b (x ∷ keep p xs) (keep p xs)) ≤ suc (length xs)
    go true h = omega arith
    go false h = omega arith

length_snoc : {A : Type 0} (xs : List A) (x : A) → length (xs ++ (x ∷ [])) ≡ suc (length xs)
length_snoc xs x = length-append xs (x ∷ []) ∙ add-one (length xs)

-- those of the k records from i on that have no equal record before them
abbrev firsts : List Transition → ℕ → ℕ → List Transition
firsts ts i k = map (transition_at ts) (keep (λ j. eqb (copies_before ts j) 0) (numbers_from i k))

firsts_next : (ts : List Transition) (i k : ℕ) (t : Transition) (seen : List Transition) → transition_at ts i ≡ t → take i ts ≡ seen
    → firsts ts i (suc k) ≡ cond (eqb (copies t seen) 0) (t ∷ firsts ts (suc i) k) (firsts ts (suc i) k)
unfolding numbers_from keep copies_before
firsts_next ts i k t seen p q = rw (p, q) (go (eqb (copies t seen) 0))
  where
    js : List ℕ
    js = keep (λ j. eqb (copies_before ts j) 0) (numbers_from (suc i) k)

    go : (b : Bool) → map (transition_at ts) (cond b (i ∷ js) js) ≡ cond b (t ∷ firsts ts (suc i) k) (firsts ts (suc i) k)
    go true = rw p
    go false = refl

-- Those that follow the records `seen` are fresh after them.
firsts_fresh : (ts seen : List Transition) → firsts (seen ++ ts) (length seen) (length ts) ≡ fresh seen ts
unfolding numbers_from keep fresh
firsts_fresh [] seen = refl
firsts_fresh (t ∷ ts) seen =
    let more : firsts (seen ++ (t ∷ ts)) (suc (length seen)) (length ts) ≡ fresh (seen ++ (t ∷ [])) ts =
    rw (append_snoc seen t ts, length_snoc seen t) at (firsts_fresh ts (seen ++ (t ∷ []))) in
    firsts_next (seen ++ (t ∷ ts)) (length seen) (length ts) t seen (get_or-append_seam seen t ts _) (take-append_seam seen (t ∷ ts)) ∙ rw more

distinct_fresh : (ts : List Transition) → distinct ts ≡ fresh [] ts
unfolding distinct
distinct_fresh ts = firsts_fresh ts []

-- What is fresh of two lists together is fresh of the first, and of the second after it.
fresh_append : (us seen ws : List Transition) → fresh seen (us ++ ws) ≡ fresh seen us ++ fresh (seen ++ us) ws
unfolding fresh
fresh_append [] seen ws = rw append-nil
fresh_append (u ∷ us) seen ws = rw (fresh_append us (seen ++ (u ∷ [])) ws, append_snoc seen u us) (go (eqb (copies u seen) 0))
  where
    go : (b : Bool) → cond b (u ∷ (fresh (seen ++ (u ∷ [])) us ++ fresh (seen ++ (u ∷ us)) ws)) (fresh (seen ++ (u ∷ [])) us ++ fresh (seen ++ (u ∷ us)) ws)
        ≡ cond b (u ∷ fresh (seen ++ (u ∷ [])) us) (fresh (seen ++ (u ∷ [])) us) ++ fresh (seen ++ (u ∷ us)) ws
    go true = refl
    go false = refl

-- copies in two lists together
pub copies_append : (x : Transition) (us ws : List Transition) → copies x (us ++ ws) ≡ copies x us + copies x ws
unfolding copies
copies_append x [] ws = sym (zero-add _)
copies_append x (u ∷ us) ws = rw (copies_append x us ws) (sym (add_assoc _ _ _))

-- Further copies leave it so that two lists have both none of a record, or both some.
none_add : (a b c : ℕ) → eqb a 0 ≡ eqb b 0 → eqb (a + c) 0 ≡ eqb (b + c) 0
none_add a b zero e = rw (add-zero a, add-zero b) e
none_add a b (suc c) e = ne_eqb (a + suc c) 0 (λ q. omega arith) ∙ sym (ne_eqb (b + suc c) 0 (λ q. omega arith))

-- What is fresh depends only on which records have been seen.
fresh_same : (ts xs ys : List Transition) → ((x : Transition) → eqb (copies x xs) 0 ≡ eqb (copies x ys) 0) → fresh xs ts ≡ fresh ys ts
unfolding fresh
fresh_same [] xs ys h = refl
fresh_same (t ∷ ts) xs ys h = rw (h t, fresh_same ts (xs ++ (t ∷ [])) (ys ++ (t ∷ [])) more)
  where
    more : (x : Transition) → eqb (copies x (xs ++ (t ∷ []))) 0 ≡ eqb (copies x (ys ++ (t ∷ []))) 0
    more x = rw (copies_append x xs (t ∷ []), copies_append x ys (t ∷ [])) (none_add (copies x xs) (copies x ys) _ (h x))

-- a record that has been seen, seen again
seen_again : (us : List Transition) (t : Transition) → 0 < copies t us → (x : Transition) → eqb (copies x (us ++ (t ∷ []))) 0 ≡ eqb (copies x us) 0
unfolding copies
seen_again us t h x = rw (copies_append x us (t ∷ [])) (go (same_transition t x) refl)
  where
    go : (b : Bool) → same_transition t x ≡ b → eqb (copies x us + (cond b 1 0 + 0)) 0 ≡ eqb (copies x us) 0
    go true e =
        let l : 0 < copies x us = rw (same_equal t x (rw e tt)) at h in
        ne_eqb (copies x us + (1 + 0)) 0 (λ q. omega arith) ∙ sym (ne_eqb (copies x us) 0 (λ q. omega arith))
    go false e = rw (add-zero (copies x us))

-- A recorded copy of a transition adds none: it may be left out.
pub copy_none : (us : List Transition) (t : Transition) (vs : List Transition) → 0 < copies t us → distinct (us ++ (t ∷ vs)) ≡ distinct (us ++ vs)
unfolding fresh
copy_none us t vs h =
    let e : eqb (copies t us) 0 ≡ false = ne_eqb (copies t us) 0 (λ q. omega arith) in
    let step : fresh us (t ∷ vs) ≡ fresh us vs = rw e (fresh_same vs (us ++ (t ∷ [])) us (seen_again us t h)) in
    distinct_fresh (us ++ (t ∷ vs)) ∙ fresh_append us [] (t ∷ vs) ∙ ap (λ (ws : List Transition). fresh [] us ++ ws) step
    ∙ sym (distinct_fresh (us ++ vs) ∙ fresh_append us [] vs)

-- Transitions that differ in label are two, whatever their ends.
pub labels_apart : (us : List Transition) (t u : Transition) (vs : List Transition) → ¬ (t.label ≡ u.label) → copies t us ≡ 0 → copies u us ≡ 0
    → distinct (us ++ (t ∷ u ∷ vs)) ≡ distinct us ++ (t ∷ u ∷ fresh (us ++ (t ∷ []) ++ (u ∷ [])) vs)
unfolding fresh copies same_transition
labels_apart us t u vs h p q =
    let first : eqb (copies t us) 0 ≡ true = eq-eqb (copies t us) 0 p in
    let apart : eqb t.label u.label ≡ false = ne_eqb t.label u.label h in
    let other : same_transition t u ≡ false = rw apart (and_false (eqb t.source u.source) (eqb t.target u.target)) in
    let none : copies u (us ++ (t ∷ [])) ≡ 0 = copies_append u us (t ∷ []) ∙ rw (q, other) refl in
    let second : eqb (copies u (us ++ (t ∷ []))) 0 ≡ true = eq-eqb (copies u (us ++ (t ∷ []))) 0 none in
    let both : fresh us (t ∷ u ∷ vs) ≡ t ∷ u ∷ fresh (us ++ (t ∷ []) ++ (u ∷ [])) vs = rw (first, second) in
    distinct_fresh (us ++ (t ∷ u ∷ vs)) ∙ fresh_append us [] (t ∷ u ∷ vs) ∙ rw (both, distinct_fresh us) refl
  where
    and_false : (a b : Bool) → (a && false && b) ≡ false
    and_false true b = refl
    and_false false b = refl

-- ---- how many they are

fresh_few : (ts seen : List Transition) → length (fresh seen ts) ≤ length ts
unfolding fresh
fresh_few [] seen = omega arith
fresh_few (t ∷ ts) seen = go (eqb (copies t seen) 0) (fresh_few ts (seen ++ (t ∷ [])))
  where
    go : (b : Bool) → length (fresh (seen ++ (t ∷ [])) ts) ≤ length ts → length (cond b (t ∷ fresh (seen ++ (t ∷ [])) ts) (fresh (seen ++ (t ∷ [])) ts)) ≤ suc (length ts)
    go true h = omega arith
    go false h = omega arith

-- at most as many transitions are distinct as there are
pub length_distinct : (ts : List Transition) → length (distinct ts) ≤ length ts
length_distinct ts = rw (distinct_fresh ts) (fresh_few ts [])

-- ---- how often a record stands among the distinct ones

module _ (x t : Transition) (rest : List Transition) where
  -- another record than x adds no copy of x
  passed : (b : Bool) → same_transition t x ≡ false → copies x (cond b (t ∷ rest) rest) ≡ copies x rest
  unfolding copies
  passed true e = rw e (zero-add (copies x rest))
  passed false e = refl

  -- x itself adds one where it is added
  added : (b : Bool) → same_transition t x ≡ true → copies x rest ≡ 0 → copies x (cond b (t ∷ rest) rest) ≡ cond b 1 0
  unfolding copies
  added true e z = rw (e, z)
  added false e z = z

-- Once if it stands in the table and was not seen before it, and otherwise not at all.
fresh_once : (x : Transition) (ts seen : List Transition) → copies x (fresh seen ts) ≡ cond (eqb (copies x seen) 0) (cond (eqb (copies x ts) 0) 0 1) 0
unfolding fresh copies
fresh_once x [] seen = go (eqb (copies x seen) 0)
  where
    go : (b : Bool) → Path ℕ 0 (cond b 0 0)
    go true = refl
    go false = refl
fresh_once x (t ∷ ts) seen = by (fresh (seen ++ (t ∷ [])) ts) (same_transition t x) refl (rw (copies_append x seen (t ∷ [])) at (fresh_once x ts (seen ++ (t ∷ []))))
  where
    by : (rest : List Transition) (same : Bool) → same_transition t x ≡ same
        → copies x rest ≡ cond (eqb (copies x seen + (cond (same_transition t x) 1 0 + 0)) 0) (cond (eqb (copies x ts) 0) 0 1) 0
        → copies x (cond (eqb (copies t seen) 0) (t ∷ rest) rest) ≡ cond (eqb (copies x seen) 0) (cond (eqb (cond (same_transition t x) 1 0 + copies x ts) 0) 0 1) 0
    by rest true e h =
        let is : t ≡ x = same_equal t x (rw e tt) in
        let some : eqb (copies x seen + (1 + 0)) 0 ≡ false = ne_eqb (copies x seen + (1 + 0)) 0 (λ q. omega arith) in
        let more : eqb (1 + copies x ts) 0 ≡ false = ne_eqb (1 + copies x ts) 0 (λ q. omega arith) in
        added x t rest (eqb (copies t seen) 0) e (rw (e, some) at h) ∙ rw (e, more, is)
    by rest false e h =
        let same_seen : copies x seen + (0 + 0) ≡ copies x seen = omega arith in
        passed x t rest (eqb (copies t seen) 0) e ∙ rw (e, same_seen) at h ∙ rw (e, zero-add (copies x ts))

pub distinct_once : (x : Transition) (ts : List Transition) → copies x (distinct ts) ≡ cond (eqb (copies x ts) 0) 0 1
unfolding copies
distinct_once x ts = rw (distinct_fresh ts) (fresh_once x ts [])

-- ---- members, no copies, another order

-- a member is a record that stands there at least once
member_copies : {x : Transition} {ts : List Transition} → Memᴰ x ts → 0 < copies x ts
unfolding copies
member_copies {x} (Memᴰ.head {x = y} {xs = ys} e) =
    let same : same_transition y x ≡ true = rw e (holds (same_transition y y) (same_self y)) in
    rw same (omega arith)
member_copies {x} (Memᴰ.tail {x = y} {xs = ys} m) = omega (arith, member_copies m)

pub mem_copies : (x : Transition) (ts : List Transition) → Mem x ts → ¬ (copies x ts ≡ 0)
mem_copies x ts m z = ∥∥₁_elim m ⊥_prop (λ d. omega (arith, member_copies d))

pub copies_mem : (x : Transition) (ts : List Transition) → ¬ (copies x ts ≡ 0) → Mem x ts
unfolding copies
copies_mem x [] d = absurd (d refl)
copies_mem x (t ∷ ts) d = go (same_transition t x) refl (copies_mem x ts)
  where
    go : (b : Bool) → same_transition t x ≡ b → (¬ (copies x ts ≡ 0) → Mem x ts) → Mem x (t ∷ ts)
    go true e rest = ∣ Memᴰ.head (sym (same_equal t x (rw e tt))) ∣₁
    go false e rest = mem-cons_of_mem t (rest (λ z. d (rw (e, z) refl)))

-- a table in which no record stands twice
pub few_nodup : (ts : List Transition) → ((x : Transition) → copies x ts ≤ 1) → Nodup ts
unfolding copies
few_nodup [] h = Nodup-nil
few_nodup (t ∷ ts) h = Nodup-cons.1 (
  (λ m. mem_copies t ts m (let twice : 1 + copies t ts ≤ 1 = rw (holds (same_transition t t) (same_self t)) at (h t) in omega arith)),
  few_nodup ts (λ x. omega (arith, h x)),
)

at_most : (b : Bool) → cond b 0 1 ≤ 1
at_most true = omega arith
at_most false = omega arith

-- No distinct transition stands twice.
pub distinct_nodup : (ts : List Transition) → Nodup (distinct ts)
distinct_nodup ts = few_nodup (distinct ts) (λ x. rw (distinct_once x ts) (at_most (eqb (copies x ts) 0)))

-- The members of a table are those of its distinct transitions.
stands : (x : Transition) (ts : List Transition) → ¬ (copies x ts ≡ 0) → ¬ (copies x (distinct ts) ≡ 0)
stands x ts d z = let one : copies x (distinct ts) ≡ 1 = distinct_once x ts ∙ rw (ne_eqb (copies x ts) 0 d) in omega arith

stood : (x : Transition) (ts : List Transition) → ¬ (copies x (distinct ts) ≡ 0) → ¬ (copies x ts ≡ 0)
stood x ts d z = d (distinct_once x ts ∙ rw (eq-eqb (copies x ts) 0 z))

pub distinct_mem : (x : Transition) (ts : List Transition) → Mem x (distinct ts) ↔ Mem x ts
distinct_mem x ts = (
  (λ m. copies_mem x ts (stood x ts (mem_copies x (distinct ts) m))),
  λ m. copies_mem x (distinct ts) (stands x ts (mem_copies x ts m)),
)

-- the same where a member is found by testing
some_copies : (x : Transition) (ts : List Transition) → T (for_some (same_transition x) ts) → ¬ (copies x ts ≡ 0)
unfolding for_some copies
some_copies x [] h z = elim h [ ]
some_copies x (t ∷ ts) h z = go (same_transition x t) refl h (some_copies x ts)
  where
    go : (b : Bool) → same_transition x t ≡ b → T (b || for_some (same_transition x) ts) → (T (for_some (same_transition x) ts) → ¬ (copies x ts ≡ 0)) → ⊥
    go true e g rest = let same : same_transition t x ≡ true = rw (same_equal x t (rw e tt)) (holds (same_transition t t) (same_self t)) in omega (arith, rw same at z)
    go false e g rest = rest g (omega arith)

copies_some : (x : Transition) (ts : List Transition) → ¬ (copies x ts ≡ 0) → T (for_some (same_transition x) ts)
unfolding for_some copies
copies_some x [] d = absurd (d refl)
copies_some x (t ∷ ts) d = go (same_transition t x) refl (copies_some x ts)
  where
    go : (b : Bool) → same_transition t x ≡ b → (¬ (copies x ts ≡ 0) → T (for_some (same_transition x) ts)) → T (same_transition x t || for_some (same_transition x) ts)
    go true e rest = or_left (same_transition x t) _ (rw (same_equal t x (rw e tt)) (same_self x))
    go false e rest = or_right (same_transition x t) _ (rest (λ z. d (rw (e, z) refl)))

-- A list is within another where each of its members is a member of the other.
pub mem_within : (ts us : List Transition) → ((x : Transition) → Mem x ts → Mem x us) → Within ts us
mem_within ts us h x m = copies_some x us (mem_copies x us (h x (copies_mem x ts (some_copies x ts m))))

pub within_distinct : (ts : List Transition) → Within ts (distinct ts)
within_distinct ts t m = copies_some t (distinct ts) (stands t ts (some_copies t ts m))

pub distinct_within : (ts : List Transition) → Within (distinct ts) ts
distinct_within ts t m = copies_some t ts (stood t ts (some_copies t (distinct ts) m))

-- another order has as many records
permuted_length : {ts us : List Transition} → Permᴰ ts us → length ts ≡ length us
permuted_length Permᴰ.nil = refl
permuted_length (Permᴰ.cons e p) = ap suc (permuted_length p)
permuted_length (Permᴰ.swap e f) = refl
permuted_length (Permᴰ.trans p q) = permuted_length p ∙ permuted_length q

pub perm_length : (ts us : List Transition) → Perm ts us → length ts ≡ length us
perm_length ts us p = by_cases (ℕ_discrete (length ts) (length us)) (λ e. e) (λ d. absurd (∥∥₁_elim p ⊥_prop (λ q. d (permuted_length q))))

-- and as many distinct ones
pub perm_distinct : (ts us : List Transition) → Perm ts us → length (distinct ts) ≡ length (distinct us)
perm_distinct ts us p = perm_length (distinct ts) (distinct us)
    ((perm_ext_iff_of_Nodup (distinct_nodup ts) (distinct_nodup us)).1
    (λ x.
    let both = Perm.mem_iff {a = x} p in (
      (λ m. (distinct_mem x us).1 (both.0 ((distinct_mem x ts).0 m))),
      λ m. (distinct_mem x ts).1 (both.1 ((distinct_mem x us).0 m)),
    )))

-- As many distinct ones as records: then all are, so that no record has a copy.
fresh_all : (ts seen : List Transition) → length (fresh seen ts) ≡ length ts → fresh seen ts ≡ ts
unfolding fresh
fresh_all [] seen e = refl
fresh_all (t ∷ ts) seen e = go (eqb (copies t seen) 0) (fresh_all ts (seen ++ (t ∷ []))) (fresh_few ts (seen ++ (t ∷ []))) e
  where
    go : (b : Bool) → (length (fresh (seen ++ (t ∷ [])) ts) ≡ length ts → fresh (seen ++ (t ∷ [])) ts ≡ ts) → length (fresh (seen ++ (t ∷ [])) ts) ≤ length ts
        → length (cond b (t ∷ fresh (seen ++ (t ∷ [])) ts) (fresh (seen ++ (t ∷ [])) ts)) ≡ suc (length ts)
        → cond b (t ∷ fresh (seen ++ (t ∷ [])) ts) (fresh (seen ++ (t ∷ [])) ts) ≡ t ∷ ts
    go true rest few f = ap (λ (us : List Transition). t ∷ us) (rest (omega arith))
    go false rest few f = absurd (omega arith)

pub distinct_all : (ts : List Transition) → length ts ≡ length (distinct ts) ↔ Nodup ts
distinct_all ts = (
  (λ e. let all : distinct ts ≡ ts = distinct_fresh ts ∙ fresh_all ts [] (sym (e ∙ ap length (distinct_fresh ts))) in subst Nodup all (distinct_nodup ts)),
  λ d. perm_length ts (distinct ts) ((perm_ext_iff_of_Nodup d (distinct_nodup ts)).1 (λ x. ((distinct_mem x ts).1, (distinct_mem x ts).0))),
)
