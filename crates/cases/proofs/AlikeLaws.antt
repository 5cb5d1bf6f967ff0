-- Which labels are alike: multisets of names, and cases that differ only in their label records.
use mathlib.Core.Path.{◌≡◌, refl, sym, ap, fun_ext, ◌∙◌}
use mathlib.Core.Bool.{Bool, true, false, cond, ◌&&◌}
use mathlib.Core.Logic.{◌↔◌, by_cases}
use mathlib.Core.List.Perm
use mathlib.Core.List.{List, [], ◌∷◌, ◌++◌, map, Perm, count, count-cons_self, count-cons_of_ne, perm_iff_count}
use Prim.Native.Nat.{ℕ, zero, suc, ◌+◌, ◌<◌, ◌≤◌}
use native.Mathlib.Bridge.{to_ℕ, from_ℕ, to_ℕ-from_ℕ}
use native.Mathlib.Decide.{ℕ_discrete}
use native.Mathlib.Omega.{arith}
use borrow.Author.Tests.{eq-eqb, ne_eqb, not-false}
use lib.Dec.{T, eqb, leb, ltb→lt, leb→le, eqb→eq}
use lib.ListN.{length, drop}
use Rattle.sets.specs.Lists.{numbers_from, every}
use Rattle.sets.proofs.Lists.{and_left, and_right, all_true, all_mono, length_table, table_at, implies_antisym}
use Rattle.cases.specs.Action.{Action, accepts}
use Rattle.cases.specs.Formula.{Formula}
use Rattle.cases.specs.Prefix.{Node, arity_in, action_arities, whole_formulas, leaf, top_or, trees, place_action, action_at, formula_at}
use Rattle.cases.specs.File.{Transition, node_in, has_label_table, version, header_of, label_table, action_table, formula_table}
use Rattle.cases.specs.Labels.{occurrences, same_names, label_names, alike, alike_labels}
use Rattle.cases.specs.Case.{Case, case_action, case_of, SameTables}
use Rattle.cases.specs.Conditions.{node_at, action_ok, bad_actions, Accepted}
use Rattle.cases.proofs.Accepting.{passed}
use Rattle.cases.proofs.TableTrees.{held, each_action_kind, action_table_lem, action_at_lem}

-- ---- the same multiset

-- of both lists as many as of one and of the other
both_lists : (k : ℕ) (xs ys : List ℕ) → occurrences k (xs ++ ys) ≡ occurrences k xs + occurrences k ys
unfolding occurrences
both_lists k [] ys = omega arith
both_lists k (x ∷ xs) ys = omega (arith, both_lists k xs ys)

-- what holds of every element holds of one that stands there
standing : (p : ℕ → Bool) (k : ℕ) (xs : List ℕ) → T (every p xs) → ¬ (occurrences k xs ≡ 0) → T (p k)
unfolding occurrences every
standing p k [] h d = absurd (d refl)
standing p k (x ∷ xs) h d = by_cases (ℕ_discrete x k)
    (λ e. rw e at (and_left (p x) (every p xs) h))
    (λ n. standing p k xs (and_right (p x) (every p xs) h) (λ z. d (rw (ne_eqb x k n) (omega arith))))

-- The test of names says: for every name, equally many.
pub same_names_lem : (xs ys : List ℕ) → T (same_names xs ys) ↔ ((k : ℕ) → occurrences k xs ≡ occurrences k ys)
unfolding same_names
same_names_lem xs ys = (
  (λ h k. by_cases (ℕ_discrete (occurrences k (xs ++ ys)) 0)
      (λ z. omega (arith, both_lists k xs ys))
      (λ n. eqb→eq _ _ (standing _ k (xs ++ ys) h n))),
  λ f. all_mono (λ k. true) (λ k. eqb (occurrences k xs) (occurrences k ys)) (λ k t. rw (eq-eqb _ _ (f k)) tt) (xs ++ ys) (all_true (xs ++ ys)),
)

-- as many as the library counts, whose numbers are not native ones
counted : (k : ℕ) (xs : List ℕ) → from_ℕ (count ℕ_discrete k xs) ≡ occurrences k xs
unfolding occurrences
counted k [] = refl
counted k (x ∷ xs) = by_cases (ℕ_discrete x k)
    (λ e. rw (e, eq-eqb k k refl) (ap from_ℕ (count-cons_self ℕ_discrete k xs) ∙ omega (arith, counted k xs)))
    (λ n. rw (ne_eqb x k n) (ap from_ℕ (count-cons_of_ne ℕ_discrete n xs) ∙ omega (arith, counted k xs)))

-- It is Sat with permutations: the one list is the other in some order.
pub names_by_permutation : (xs ys : List ℕ) → T (same_names xs ys) ↔ Perm xs ys
names_by_permutation xs ys = (
  (λ h. (perm_iff_count ℕ_discrete {l₁ = xs} {l₂ = ys}).1 (λ k.
      sym (to_ℕ-from_ℕ _) ∙ ap to_ℕ (counted k xs ∙ (same_names_lem xs ys).0 h k ∙ sym (counted k ys)) ∙ to_ℕ-from_ℕ _)),
  λ p. (same_names_lem xs ys).1 (λ k. sym (counted k xs) ∙ ap from_ℕ ((perm_iff_count ℕ_discrete {l₁ = xs} {l₂ = ys}).0 p k) ∙ counted k ys),
)

-- So the order of names does not matter,
pub names_permuted : (xs xs' ys ys' : List ℕ) → Perm xs xs' → Perm ys ys' → same_names xs ys ≡ same_names xs' ys'
names_permuted xs xs' ys ys' p q = implies_antisym (same_names xs ys) (same_names xs' ys')
    (λ h. (names_by_permutation xs' ys').1 (Perm.trans (Perm.symm p) (Perm.trans ((names_by_permutation xs ys).0 h) q)))
    (λ h. (names_by_permutation xs ys).1 (Perm.trans p (Perm.trans ((names_by_permutation xs' ys').0 h) (Perm.symm q))))

-- and each list has its own names.
pub names_self : (xs : List ℕ) → T (same_names xs xs)
names_self xs = (same_names_lem xs xs).1 (λ k. refl)

-- ---- cases that differ only in their label records

-- lists of what two functions give for the same numbers
map_below : {A : Type 0} (f g : ℕ → A) (i k : ℕ) → ((x : ℕ) → x < i + k → f x ≡ g x) → map f (numbers_from i k) ≡ map g (numbers_from i k)
unfolding numbers_from
map_below f g i zero h = refl
map_below f g i (suc k) h = rw (h i (omega arith), map_below f g (suc i) k (λ x l. h x (omega arith)))

-- a test of all nodes is one of those from node j on
every_drop : {A : Type 0} (p : A → Bool) (j : ℕ) (xs : List A) → T (every p xs) → T (every p (drop j xs))
unfolding every
every_drop p zero xs h = h
every_drop p (suc j) [] h = tt
every_drop p (suc j) (x ∷ xs) h = every_drop p j xs (and_right (p x) (every p xs) h)

-- Action formulas over l labels are the same where the sets of alike labels are.
module _ (f g : ℕ → List Bool) (l : ℕ) (same : (j : ℕ) → j < l → f j ≡ g j) where
  place_same : (i arg k : ℕ) → k ≤ 6 → T (action_ok l (record { kind = k; arg = arg }))
      → place_action f i (record { kind = k; arg = arg }) ≡ place_action g i (record { kind = k; arg = arg })
  place_same i arg =
      each_action_kind (λ k. T (action_ok l (record { kind = k; arg = arg })) → place_action f i (record { kind = k; arg = arg }) ≡ place_action g i (record { kind = k; arg = arg }))
      (λ t. refl) (λ t. refl) (λ t. ap (λ (v : List Bool). leaf (Action.Label v)) (same arg (ltb→lt arg l t))) (λ t. refl) (λ t. refl) (λ t. refl) (λ t. refl)

  trees_same : (i : ℕ) (t : List Node) → T (every (action_ok l) t) → trees (place_action f) i t ≡ trees (place_action g) i t
  unfolding trees every
  trees_same i [] h = refl
  trees_same i (x ∷ t) h =
      let ok = and_left (action_ok l x) (every (action_ok l) t) h in
      rw (trees_same (suc i) t (and_right (action_ok l x) (every (action_ok l) t) h), place_same i x.arg x.kind (leb→le _ _ (and_left (leb x.kind 6) _ ok)) ok)

  action_same : (t : List Node) → T (every (action_ok l) t) → (j : ℕ) → action_at f t j ≡ action_at g t j
  unfolding action_at
  action_same t h j = ap (top_or Action.False) (trees_same j (drop j t) (every_drop (action_ok l) j t h))

-- a case by its parts
case_by : {n n' l l' i i' : ℕ} {ts ts' : List Transition} {a a' : Formula} → n ≡ n' → l ≡ l' → i ≡ i' → ts ≡ ts' → a ≡ a'
    → ◌≡◌ {A = Case} (record { states = n; labels = l; initial = i; transitions = ts; formula = a }) (record { states = n'; labels = l'; initial = i'; transitions = ts'; formula = a' })
case_by n l i t a = rw (n, l, i, t, a)

module _ (b b' : List ℕ) (accepted : Accepted b) (tables : SameTables b b')
    (alike_same : (j x : ℕ) → j < (header_of b).labels → x < (header_of b).labels → alike (header_of b) (label_table b) j x ≡ alike (header_of b') (label_table b') j x) where
  labels_same : (j : ℕ) → j < (header_of b).labels → alike_labels (header_of b) (label_table b) j ≡ alike_labels (header_of b') (label_table b') j
  unfolding alike_labels
  labels_same j h =
      map_below _ _ 0 (header_of b).labels (λ x k. alike_same j x h (omega arith))
      ∙ ap (λ (l : ℕ). map (alike (header_of b') (label_table b') j) (numbers_from 0 l)) tables.labels

  actions_fit : T (every (action_ok (header_of b).labels) (action_table b))
  unfolding bad_actions
  actions_fit =
      let oks = every (action_ok (header_of b).labels) (action_table b) in
      let fits = whole_formulas 0 (map (arity_in action_arities) (action_table b)) in
      and_left oks fits (held (oks && fits) (not-false (oks && fits) (passed b accepted).actions))

  actions_same : case_action b ≡ case_action b'
  actions_same = fun_ext (λ j.
      action_same _ _ (header_of b).labels labels_same (action_table b) actions_fit j
      ∙ ap (λ (t : List Node). action_at (alike_labels (header_of b') (label_table b')) t j) tables.actions)

  -- Where the same labels are alike, it is the same case: one formula, one meaning, one equation file.
  pub case_same : case_of b ≡ case_of b'
  unfolding case_of
  case_same =
      case_by tables.states tables.labels tables.initial tables.transitions
      (ap (λ (a : ℕ → Action). formula_at a (formula_table b) 0) actions_same ∙ ap (λ (t : List Node). formula_at (case_action b') t 0) tables.formula)

-- Permuting the names of label records changes nothing.
pub permuted_case : (b b' : List ℕ) → Accepted b → SameTables b b' → version b ≡ version b'
    → ((j : ℕ) → Perm (label_names (label_table b) j) (label_names (label_table b') j)) → case_of b ≡ case_of b'
unfolding alike
permuted_case b b' accepted tables versions p = case_same b b' accepted tables (λ j x h k.
    rw (← versions) (ap (λ (r : Bool). cond (has_label_table (version b)) r (eqb j x)) (names_permuted _ _ _ _ (p j) (p x))))

-- A case with label records that are all different as multisets is the case without them.
pub different_case : (b b' : List ℕ) → Accepted b → SameTables b b' → version b ≡ 2 → version b' ≡ 1
    → ((j x : ℕ) → j < (header_of b).labels → x < (header_of b).labels → T (same_names (label_names (label_table b) j) (label_names (label_table b) x)) → j ≡ x)
    → case_of b ≡ case_of b'
unfolding alike
different_case b b' accepted tables two one d = case_same b b' accepted tables (λ j x h k.
    rw (eq-eqb (version b) 2 two, ne_eqb (version b') 2 (λ e. omega arith)) (implies_antisym _ (eqb j x)
    (λ s. let e = d j x h k s in rw (eq-eqb j x e) tt)
    (λ s. rw (← eqb→eq j x s) (names_self (label_names (label_table b) j)))))

-- ---- what a label node accepts

-- as many action nodes as the header says
length_actions : (b : List ℕ) → length (action_table b) ≡ (header_of b).actions
unfolding action_table
length_actions b = length_table (node_in (drop (header_of b).actions_at b)) (header_of b).actions

module _ (b : List ℕ) (accepted : Accepted b) (j : ℕ) (inside : j < (header_of b).actions) (label : (node_at (action_table b) j).kind ≡ 2) (x : ℕ)
    (below : x < (header_of b).labels) where
  -- the labels that are alike to its own
  accepts_alike : accepts (case_action b j) x ≡ alike (header_of b) (label_table b) (node_at (action_table b) j).arg x
  unfolding accepts alike_labels
  accepts_alike =
      ap (λ (α : Action). accepts α x) (action_at_lem _ (action_table b) (action_table_lem b (passed b accepted).actions) j 2 (rw (length_actions b) inside) label)
      ∙ table_at (alike (header_of b) (label_table b) (node_at (action_table b) j).arg) (header_of b).labels x false below

  -- In version 1 it accepts its own label only,
  pub accepts_own : version b ≡ 1 → T (accepts (case_action b j) x) ↔ ((node_at (action_table b) j).arg ≡ x)
  unfolding alike
  accepts_own one = rw (accepts_alike, ne_eqb (version b) 2 (λ e. omega arith)) (eqb→eq _ x, λ e. rw (eq-eqb _ x e) tt)

  -- in version 2 each label whose names are the same multiset as its own label's: for every name, equally many,
  module _ (two : version b ≡ 2) where
    accepts_same : accepts (case_action b j) x ≡ same_names (label_names (label_table b) (node_at (action_table b) j).arg) (label_names (label_table b) x)
    unfolding alike
    accepts_same = rw (accepts_alike, eq-eqb (version b) 2 two) refl

    pub accepts_names : T (accepts (case_action b j) x)
        ↔ ((k : ℕ) → occurrences k (label_names (label_table b) (node_at (action_table b) j).arg) ≡ occurrences k (label_names (label_table b) x))
    accepts_names = rw accepts_same (same_names_lem _ (label_names (label_table b) x))

    -- which is Sat: its own label's names in some order.
    pub accepts_permuted : T (accepts (case_action b j) x) ↔ Perm (label_names (label_table b) (node_at (action_table b) j).arg) (label_names (label_table b) x)
    accepts_permuted = rw accepts_same (names_by_permutation _ (label_names (label_table b) x))
