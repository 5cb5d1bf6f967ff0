-- The states of a case that can be reached: the function gives them, and they are the least set that holds the initial state and is closed.
use mathlib.Core.Logic.{by_cases}
use mathlib.Core.Path.{◌≡◌, refl, sym, ap₂, subst, fun_ext, ◌∙◌}
use mathlib.Core.Bool.{Bool, false, ◌&&◌, ◌||◌}
use mathlib.Core.List.{List, ◌++◌, Mem}
use Prim.Native.Nat.{ℕ, suc, ◌<◌}
use native.Mathlib.Omega.{arith}
use native.Mathlib.Decide.{dec_lt, ℕ_discrete}
use lib.Dec.{T, eqb, eqb→eq, eqb_refl, ltb, ltb→lt}
use lib.ListN.{length, length-replicate, get_or-eq_default}
use Rattle.sets.specs.Lists.{for_some}
use Rattle.sets.specs.States.{States, has, Subset, start, Extremal}
use Rattle.sets.specs.computed.Iteration.{Worked, repeated}
use Rattle.sets.proofs.Lists.{length_table, table_at, or_left, or_right, or_either, implies_antisym, and_left, and_right, and_both}
use Rattle.sets.proofs.Members.{member_some, some_member, every_member}
use Rattle.sets.proofs.Order.{subset_antisym, empty}
use Rattle.sets.proofs.FixedPoint.{repeated_keeps, beyond, extremal}
use Rattle.cases.specs.File.{Transition, header_of, transition_table}
use Rattle.cases.specs.Case.{Case, case_of, copies, SameTransitionSet}
use Rattle.cases.specs.Conditions.{transition_ok, Accepted}
use Rattle.cases.specs.Meaning.{set_of}
use Rattle.cases.specs.Reach.{here, further, Reachable, ReachableStates, Closed, with_more, SameFromReachable}
use Rattle.cases.specs.internal.Search.{Bounded}
use Rattle.cases.specs.computed.Reached.{led_to, search_turn, reachable}
use Rattle.cases.proofs.Distinct.{copies_append, copies_mem, mem_copies}
use Rattle.cases.proofs.TableTrees.{held}
use Rattle.cases.proofs.Accepting.{passed}
use Rattle.cases.proofs.Tallies.{model_holds}

-- The set of the states below n with a property has those states, and no others.
module _ (n : ℕ) (f : ℕ → Bool) where
  pub set_of_has : (s : ℕ) → s < n → T (f s) → T (has (set_of n f) s)
  set_of_has s h t = rw (table_at f n s false h) t

  pub has_set_of : (s : ℕ) → T (has (set_of n f) s) → (s < n) × T (f s)
  has_set_of s t = go (dec_lt s n)
    where
      go : Dec (s < n) → (s < n) × T (f s)
      go (yes h) = (h, rw (table_at f n s false h) at t)
      go (no d) = absurd (rw (get_or-eq_default (set_of n f) false {n = s} (omega (arith, length_table f n))) at t)

-- a state of a set is below its length
pub has_below : (v : States) (s : ℕ) → T (has v s) → s < length v
has_below v s t = go (dec_lt s (length v))
  where
    go : Dec (s < length v) → s < length v
    go (yes h) = h
    go (no d) = absurd (rw (get_or-eq_default v false {n = s} (omega arith)) at t)

module _ (c : Case) where
  abbrev n : ℕ
  n = c.states

  abbrev turn : States → States
  turn v = (search_turn c v).0

  -- a state of a turn: the initial one, or one that a transition leads to
  turned : (v : States) (s : ℕ) → T (has (turn v) s) → {A : Type 0} → (s ≡ c.initial → A) → ((t : Transition) → Mem t c.transitions → T (has v t.source) → t.target ≡ s → A) → A
  turned v s t f g =
      or_either (eqb s c.initial) (led_to c.transitions v s) (λ e. f (eqb→eq s c.initial e))
      (λ l. let (x, m, h) = some_member (λ t. has v t.source && eqb t.target s) c.transitions l in
      g x m (and_left (has v x.source) _ h) (eqb→eq x.target s (and_right (has v x.source) _ h)))
      (has_set_of n _ s t).1

  turn_sized : (v : States) → length v ≡ n → length (turn v) ≡ n
  turn_sized v o = length_table _ n

  -- what is found of a case is reached
  pub found_reached : (s : ℕ) → T (has (reachable c) s) → Reachable c s
  unfolding reachable
  found_reached = repeated_keeps (λ v. (s : ℕ) → T (has v s) → Reachable c s) (search_turn c)
      (λ v p s t. turned v s t (λ e. subst (Reachable c) (sym e) here) (λ x m h e. subst (Reachable c) e (further (p x.source h) m)))
      (suc n) (start n false) (λ s t. absurd (empty n s t))

  -- They are a set of n states.
  pub reachable_sized : length (reachable c) ≡ n
  unfolding reachable
  reachable_sized = repeated_keeps (λ v. length v ≡ n) (search_turn c) turn_sized (suc n) (start n false) (length-replicate n false)

  module _ (bounded : Bounded c) where
    -- a turn from a set enters what is initial, and what a transition from it leads to
    entered_first : (v : States) → T (has (turn v) c.initial)
    entered_first v = set_of_has n _ c.initial bounded.initial (or_left (eqb c.initial c.initial) _ (eqb_refl c.initial))

    entered_next : (v : States) (t : Transition) → Mem t c.transitions → T (has v t.source) → T (has (turn v) t.target)
    entered_next v t m h =
        set_of_has n _ t.target (bounded.target t m)
        (or_right (eqb t.target c.initial) _ (member_some (λ x. has v x.source && eqb x.target t.target) t c.transitions m (and_both _ _ h (eqb_refl t.target))))

    turn_mono : (v w : States) → length v ≡ n → length w ≡ n → Subset v w → Subset (turn v) (turn w)
    turn_mono v w o q h s t =
        turned v s t (λ e. subst (λ x. T (has (turn w) x)) (sym e) (entered_first w))
        (λ x m g e. subst (λ y. T (has (turn w) y)) e (entered_next w x m (h x.source g)))

    -- A set is closed exactly if a turn stays in it.
    closed_turn : (u : States) → Closed c u → Subset (turn u) u
    closed_turn u k s t = turned u s t (λ e. subst (λ x. T (has u x)) (sym e) k.initial) (λ x m g e. subst (λ y. T (has u y)) e (k.target x m g))

    turn_closed : (u : States) → turn u ≡ u → Closed c u
    turn_closed u e = record {
      initial = subst (λ v. T (has v c.initial)) e (entered_first u);
      target = λ t m h. subst (λ v. T (has v t.target)) e (entered_next u t m h);
    }

    -- The function gives the least closed set,
    pub reachable_least : Extremal n false (Closed c) (reachable c)
    unfolding reachable
    reachable_least =
        let x = extremal n false (search_turn c) turn_sized turn_mono in record {
          sized = x.sized;
          holds = turn_closed (reachable c) x.holds;
          first = λ u o k. beyond n false (search_turn c) turn_sized turn_mono u o (closed_turn u k);
        }

    -- and so the states that are reached.
    pub reached_found : {s : ℕ} → Reachable c s → T (has (reachable c) s)
    reached_found here = reachable_least.holds.initial
    reached_found (further {t = t} r m) = reachable_least.holds.target t m (reached_found r)

    pub reachable_states : ReachableStates c (reachable c)
    reachable_states = record { sized = reachable_least.sized; exactly = λ s. (found_reached s, reached_found) }

    -- They are among the states of the case.
    pub reached_below : {s : ℕ} → Reachable c s → s < n
    reached_below here = bounded.initial
    reached_below (further {t = t} r m) = bounded.target t m

    -- There is one set of them.
    pub reachable_one : (v : States) → ReachableStates c v → v ≡ reachable c
    reachable_one v r =
        subset_antisym v (reachable c) (r.sized ∙ sym reachable_least.sized)
        (λ s t. reached_found ((r.exactly s).0 t)) (λ s t. (r.exactly s).1 (found_reached s t))

-- Cases with the same set of transitions have the same states that can be reached.
module _ {c c' : Case} (same : SameTransitionSet c c') where
  led_alike : (v : States) (s : ℕ) → led_to c.transitions v s ≡ led_to c'.transitions v s
  led_alike v s =
      let leads : Transition → Bool = λ t. has v t.source && eqb t.target s in
      let moved = λ (ts us : List Transition) (there : (t : Transition) → Mem t ts → Mem t us) (h : T (for_some leads ts)).
      let (t, m, k) = some_member leads ts h in
      member_some leads t us (there t m) k in
      implies_antisym _ _ (moved c.transitions c'.transitions (λ t. (same.transitions t).0)) (moved c'.transitions c.transitions (λ t. (same.transitions t).1))

  turn_alike : (v : States) → search_turn c v ≡ search_turn c' v
  turn_alike v =
      let states : (s : ℕ) → (eqb s c.initial || led_to c.transitions v s) ≡ (eqb s c'.initial || led_to c'.transitions v s) = λ s. rw (same.initial, led_alike v s) in
      ap₂ (λ (n : ℕ) (f : ℕ → Bool). (set_of n f, 0)) same.states (fun_ext states)

  pub reachable_alike : reachable c ≡ reachable c'
  unfolding reachable
  reachable_alike = ap₂ (λ (f : States → Worked) (n : ℕ). (repeated (suc n) f (start n false)).0) (fun_ext turn_alike) same.states

-- Cases with the same transitions from the states that can be reached can reach the same states.
module _ {c c' : Case} (same : SameFromReachable c c') where
  pub still_reached : {s : ℕ} → Reachable c s → Reachable c' s
  still_reached here = rw (sym same.initial) here
  still_reached (further {t = t} r m) = further (still_reached r) ((same.transitions t r).0 m)

  pub reached_before : {s : ℕ} → Reachable c' s → Reachable c s
  reached_before here = rw same.initial here
  reached_before (further {t = t} r m) = let p = reached_before r in further p ((same.transitions t p).1 m)

  -- It does not matter which of the two is the first.
  pub same_turned : SameFromReachable c' c
  same_turned = record {
    states = sym same.states;
    initial = sym same.initial;
    formula = sym same.formula;
    transitions = λ t r. let both = same.transitions t (reached_before r) in (both.1, both.0);
  }

-- Transitions from states that cannot be reached may be added.
pub unreached_added : (c : Case) (us : List Transition) → ((t : Transition) → Mem t us → ¬ Reachable c t.source) → SameFromReachable c (with_more c us)
unreached_added c us d = record {
  states = refl;
  initial = refl;
  formula = refl;
  transitions = λ t r. (
    (λ m. copies_mem t (c.transitions ++ us) (λ z. mem_copies t c.transitions m (omega (arith, z, copies_append t c.transitions us)))),
    λ m. copies_mem t c.transitions (λ none. mem_copies t (c.transitions ++ us) m
        (omega (arith, none, by_cases (ℕ_discrete (copies t us) 0) (λ z. z) (λ some. absurd (d t (copies_mem t us some) r)), copies_append t c.transitions us))),
  );
}

-- An accepted case has its initial state and its targets among its states.
pub accepted_bounded : (b : List ℕ) → Accepted b → Bounded (case_of b)
unfolding case_of
accepted_bounded b ok =
    let (initial, oks) = model_holds b (passed b ok).model in
    record { initial = initial; target = λ t m. by t (every_member (transition_ok (header_of b).states (header_of b).labels) (transition_table b) (held _ oks) t m) }
  where
    by : (t : Transition) → T (transition_ok (header_of b).states (header_of b).labels t) → t.target < (header_of b).states
    by t h = ltb→lt t.target (header_of b).states (and_right (ltb t.source (header_of b).states && ltb t.label (header_of b).labels) _ h)
