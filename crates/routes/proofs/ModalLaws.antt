-- Boxes and diamonds on sets in words: one transition, the states that have one which leads there, and what they are to the meaning.
use mathlib.Core.Path.{◌≡◌, refl, sym, ap, ap₂, fun_ext, ◌∙◌}
use mathlib.Core.Bool.{Bool, true, false, not, cond, ◌&&◌, ◌||◌, and_assoc}
use mathlib.Core.List.{List, [], ◌∷◌, ◌++◌, map, map-map}
use Prim.Native.Nat.{ℕ, zero, suc, ◌+◌, ◌<◌}
use native.Mathlib.Omega.{arith}
use native.Mathlib.Decide.{ℕ_discrete}
use borrow.Author.Tests.{eq-eqb, ne_eqb}
use lib.Dec.{T, eqb, ltb, ltb→lt}
use lib.ListN.{length, get_or, set, length-set}
use lib.Seq.{ext_get_or, get_or-set_same, get_or-set_other}
use Rattle.sets.specs.Lists.{numbers_from, every, for_some}
use Rattle.sets.specs.States.{States, has, start}
use Rattle.sets.specs.Words.{words, marked, word_count, state_limit}
use Rattle.sets.proofs.Lists.{length_table, table_at, get_or_map, and_left, and_right, and_false, all_at}
use Rattle.sets.proofs.Words.{marked_words}
use Rattle.cases.specs.Action.{Action, accepts}
use Rattle.cases.specs.internal.Masks.{mask_of}
use Rattle.cases.specs.declared.Transition.{Transition}
use Rattle.cases.specs.File.{transition_in, label_limit}
use Rattle.cases.specs.internal.Checks.{transitions_in}
use Rattle.cases.specs.Conditions.{transition_ok}
use Rattle.cases.specs.Meaning.{set_of, from, box_in, diamond_in}
use Rattle.cases.proofs.TableTrees.{held}
use Rattle.cases.proofs.MeaningLaws.{all_not}
use Rattle.translate.proofs.ShapeLaws.{mask_bit, map_range_more}
use Rattle.routes.specs.internal.Parts.{Records}
use Rattle.routes.specs.internal.Evaluating.{transitions_of}
use Rattle.routes.specs.declared.evaluator.Evaluator.{Evaluator}

-- ---- one transition

-- the transition has an accepted label, and its target is in the set
abbrev pub leads_to : Action → States → Transition → Bool
leads_to α v t = accepts α t.label && has v t.target

-- bit x of the labels says whether label x is accepted
pub accepts_is : {labels : ℕ} (α : Action) → labels ≡ mask_of α → {x : ℕ} → x < label_limit → accepts α x ≡ marked (labels ∷ []) x
accepts_is α e {x} low = sym (mask_bit α x low) ∙ ap (λ (k : ℕ). marked (k ∷ []) x) (sym e)

-- bit x of a set's words says whether state x is in it
pub has_is : {held : List ℕ} (v : States) → held ≡ words word_count v → {x : ℕ} → x < state_limit → has v x ≡ marked held x
has_is v e {x} low = sym (marked_words word_count v x low) ∙ ap (λ (ws : List ℕ). marked ws x) (sym e)

-- a transition whose ends are states and whose label is a label
pub record InRange (n : ℕ) (t : Transition) : Type 0 where
  pub state : t.source < n
  pub source : t.source < state_limit
  pub label : t.label < label_limit
  pub target : t.target < state_limit

-- transition i of an evaluator's case is one
pub in_range : (ev : Evaluator) {i : ℕ} {t : Transition} → i < ev.case.transitions.count → t ≡ transition_in ev.case.transitions.part.now i
    → InRange ev.case.header.states t
unfolding transitions_in
in_range ev {i} {t} h e =
    let r = ev.case.parts.model in
    let n : ℕ = ev.case.header.states in
    let l : ℕ = ev.case.header.labels in
    let ts : List Transition = transitions_of ev in
    let low : i < ev.case.header.transitions = rw (← ev.case.transition_count) h in
    let read : get_or ts i t ≡ t = table_at (transition_in ev.case.transitions.part.now) _ i t low ∙ sym e in
    let ok : T (transition_ok n l t) =
    rw read at (all_at (transition_ok n l) ts i t (omega (arith, length_table (transition_in ev.case.transitions.part.now) ev.case.header.transitions, low)) (held _ r.ok)) in
    let ends : T (ltb t.source n && ltb t.label l) = and_left (ltb t.source n && ltb t.label l) (ltb t.target n) ok in
    let source : t.source < n = ltb→lt _ _ (and_left (ltb t.source n) (ltb t.label l) ends) in
    let label : t.label < l = ltb→lt _ _ (and_right (ltb t.source n) (ltb t.label l) ends) in
    let target : t.target < n = ltb→lt _ _ (and_right (ltb t.source n && ltb t.label l) (ltb t.target n) ok) in
    record {
      state = source;
      source = omega (arith, source, r.few_states);
      label = omega (arith, label, r.few_labels);
      target = omega (arith, target, r.few_states);
    }

-- ---- the states with a transition that leads there

-- those of n states
abbrev pub sources_of : ℕ → Action → States → List Transition → States
sources_of n α v ts = set_of n (diamond_in n ts α v)

-- any of one element more
any_more : {A : Type 0} (p : A → Bool) (xs : List A) (x : A) → for_some p (xs ++ (x ∷ [])) ≡ (p x || for_some p xs)
unfolding for_some
any_more p [] x = refl
any_more p (y ∷ xs) x = ap (λ b. p y || b) (any_more p xs x) ∙ swap (p y) (p x)
  where
    swap : (a b : Bool) → (a || (b || for_some p xs)) ≡ (b || (a || for_some p xs))
    swap true true = refl
    swap true false = refl
    swap false b = refl

-- a set with state a, if b
set_if : (n : ℕ) (f : ℕ → Bool) (a : ℕ) → a < n → (b : Bool) → set_of n (λ s. (eqb a s && b) || f s) ≡ cond b (set (set_of n f) a true) (set_of n f)
set_if n f a h false = ap (λ (g : ℕ → Bool). set_of n g) (fun_ext λ s. ap (λ b. b || f s) (and_false (eqb a s) false refl))
set_if n f a h true =
    ext_get_or false (set_of n with_a) (set (set_of n f) a true) (length_table with_a n ∙ sym (length-set (set_of n f) a true ∙ length_table f n)) λ s k.
    let below : s < n = omega (arith, length_table with_a n) in
    table_at with_a n s false below ∙ at s below (ℕ_discrete s a)
  where
    with_a : ℕ → Bool
    with_a s = (eqb a s && true) || f s

    at : (s : ℕ) → s < n → Dec (s ≡ a) → with_a s ≡ has (set (set_of n f) a true) s
    at s k (yes e) = rw (e, eq-eqb a a refl, get_or-set_same (set_of n f) a true false (omega (arith, length_table f n)))
    at s k (no d) = rw (ne_eqb a s (λ e. d (sym e)), get_or-set_other (set_of n f) a s true false d, table_at f n s false k)

-- the set of a property that no state has is empty
none_has : (i k : ℕ) → start k false ≡ map (λ s. false) (numbers_from i k)
unfolding numbers_from
none_has i zero = refl
none_has i (suc k) = ap (λ (w : States). false ∷ w) (none_has (suc i) k)

module _ (n : ℕ) (α : Action) (v : States) where
  -- they are of n states
  pub sources_length : (ts : List Transition) → length (sources_of n α v ts) ≡ n
  sources_length ts = length_table (diamond_in n ts α v) n

  -- no transition
  pub sources_none : (part : List ℕ) → start n false ≡ sources_of n α v (transitions_in part 0)
  unfolding for_some transitions_in numbers_from
  sources_none part = none_has 0 n

  -- one transition more
  pub sources_next : (part : List ℕ) (i : ℕ) (t : Transition) → t ≡ transition_in part i → t.source < n
      → sources_of n α v (transitions_in part (i + 1))
      ≡ cond (leads_to α v t) (set (sources_of n α v (transitions_in part i)) t.source true) (sources_of n α v (transitions_in part i))
  unfolding transitions_in
  sources_next part i t e h =
      rw (map_range_more (transition_in part) i, ← e)
      (ap (λ (f : ℕ → Bool). set_of n f) (fun_ext λ s.
      any_more (λ u. from s α u && has v u.target) ts t
      ∙ ap (λ b. b || diamond_in n ts α v s) (and_assoc (eqb t.source s) (accepts α t.label) (has v t.target)))
      ∙ set_if n (diamond_in n ts α v) t.source h (leads_to α v t))
    where
      ts : List Transition
      ts = transitions_in part i

-- ---- a box by a diamond

-- Any of a list is of what is equal on each element with a property that all have.
any_same : {A : Type 0} (ok p q : A → Bool) → ((x : A) → T (ok x) → p x ≡ q x) → (xs : List A) → T (every ok xs) → for_some p xs ≡ for_some q xs
unfolding every for_some
any_same ok p q same [] t = refl
any_same ok p q same (x ∷ xs) t =
    ap₂ (λ a b. a || b) (same x (and_left (ok x) (every ok xs) t)) (any_same ok p q same xs (and_right (ok x) (every ok xs) t))

-- A box holds where the diamond of the complement does not.
pub box_by_diamond : {part : List ℕ} {m n l : ℕ} → Records part m n l → (α : Action) (v : States) → length v ≡ n
    → set_of n (box_in n (transitions_in part m) α v) ≡ map not (sources_of n α (map not v) (transitions_in part m))
box_by_diamond {part} {m} {n} {l} r α v sized =
    ap (λ (f : ℕ → Bool). set_of n f) (fun_ext λ s.
    all_not (λ t. not (from s α t) || has v t.target) ts
    ∙ ap not (any_same (transition_ok n l) _ _ (λ t ok. out t (target_low t ok) (from s α t)) ts (held _ r.ok)))
    ∙ sym (map-map not (diamond_in n ts α (map not v)) (numbers_from 0 n))
  where
    ts : List Transition
    ts = transitions_in part m

    target_low : (t : Transition) → T (transition_ok n l t) → t.target < length v
    target_low t ok = rw sized (ltb→lt _ _ (and_right (ltb t.source n && ltb t.label l) (ltb t.target n) ok))

    out : (t : Transition) → t.target < length v → (a : Bool) → not (not a || has v t.target) ≡ (a && has (map not v) t.target)
    out t low true = sym (get_or_map not v t.target false false low)
    out t low false = refl
