-- Laws of a search for the states that can be reached: what is found grows, state by state.
use mathlib.Core.Path.{◌≡◌, refl, sym, ap, subst, ◌∙◌}
use mathlib.Core.Logic.{◌⊎◌, inl, inr, by_cases}
use mathlib.Core.Bool.{Bool, true, false, not, ◌||◌}
use mathlib.Core.List.{List, [], ◌∷◌, Mem}
use Prim.Native.Nat.{ℕ, zero, suc, ◌+◌, ◌-◌, ◌*◌, ◌<◌, ◌≤◌}
use native.Mathlib.Decide.{dec_lt, ℕ_discrete}
use native.Mathlib.Omega.{arith}
use lib.Dec.{T, T_not}
use mir.Val.{Fits}
use mir.Syntax.{w64}
use borrow.Author.Tests.{eq-eqb, ne_eqb}
use lib.ListN.{length, get_or, set, length-set, length-replicate}
use lib.Seq.{get_or-set_same, get_or-set_other}
use Rattle.std.proofs.lemmas.List.{set-get_or}
use Rattle.sets.specs.States.{States, has, Subset, size, start}
use Rattle.sets.specs.Words.{words, marked, word_count, state_limit}
use Rattle.sets.proofs.Words.{marked_words}
use Rattle.sets.proofs.Lists.{or_either, all_from, length_table, table_at}
use Rattle.sets.proofs.Members.{member_at, every_member}
use Rattle.sets.proofs.Order.{size_none, size_length, extremal_one, empty}
use Rattle.cases.specs.File.{Header, Transition, header_of, transition_in, transition_limit}
use Rattle.cases.specs.Case.{Case, case_of}
use Rattle.cases.specs.Conditions.{Accepted}
use Rattle.cases.specs.Reach.{Closed}
use Rattle.cases.specs.computed.Reached.{reachable}
use Rattle.cases.specs.internal.Checks.{transition_part, transitions_in}
use Rattle.cases.specs.internal.Links.{source_in, first_on, next_from, Linked}
use Rattle.cases.specs.declared.reach.Search.{Search}
use Rattle.cases.proofs.Accepting.{passed}
use Rattle.cases.proofs.Tallies.{table_case}
use Rattle.cases.specs.internal.Search.{target_in, Bounded, FoundStates, Grown, TargetsBelow, Widened}
use Rattle.cases.proofs.Reaching.{has_below, reachable_least, accepted_bounded}

-- ---- a set with one state more

module _ (v : States) (s : ℕ) (inside : s < length v) where
  abbrev pub more : States
  more = set v s true

  pub more_itself : T (has more s)
  more_itself = rw (get_or-set_same v s true false inside) tt

  pub more_keeps : Subset v more
  more_keeps x t = by_cases (ℕ_discrete x s) (λ e. rw e more_itself) (λ d. rw (get_or-set_other v s x true false d) t)

  pub more_only : (x : ℕ) → T (has more x) → (x ≡ s) ⊎ T (has v x)
  more_only x t = by_cases (ℕ_discrete x s) inl (λ d. inr (rw (get_or-set_other v s x true false d) at t))

-- one that it has is no more
pub more_same : (v : States) (s : ℕ) → has v s ≡ true → set v s true ≡ v
more_same v s e = rw e at (set-get_or v s false)

-- and a new one is one more
pub more_size : (v : States) (s : ℕ) → s < length v → has v s ≡ false → size (set v s true) ≡ size v + 1
unfolding size
more_size [] s h e = absurd (omega arith)
more_size (b ∷ v) zero h e = rw e (omega arith)
more_size (b ∷ v) (suc s) h e = omega (arith, more_size v s (omega arith) e)

-- ---- one state is found

-- What has grown twice has grown.
pub grown_twice : {a b c : Search} → Grown a b → Grown b c → Grown a c
grown_twice g k = record { more = omega (arith, g.more, k.more); same = λ i h. k.same i (omega (arith, g.more)) ∙ g.same i h }

pub grown_none : {a : Search} → Grown a a
grown_none = record { more = omega arith; same = λ i h. refl }

module _ {search : Search} {v : States} (f : FoundStates search v) {s : ℕ} (inside : s < length v) where
  -- the test says whether the set has it
  tested : marked search.found s ≡ has v s
  tested = rw f.held (marked_words word_count v s (omega (arith, f.few)))

  -- again: nothing changes
  pub found_again : marked search.found s ≡ true → FoundStates search (set v s true) × Grown search search
  found_again e = (rw (more_same v s (sym tested ∙ e)) f, grown_none)

  -- for the first time: there is a place for it
  module _ (e : marked search.found s ≡ false) where
    fresh : has v s ≡ false
    fresh = sym tested ∙ e

    pub place_left : search.count < state_limit
    place_left = omega (arith, f.many, f.few, more_size v s inside fresh, size_length (set v s true), length-set v s true)

    -- and it stands there
    module _ (long : length search.order ≡ state_limit) {found : List ℕ} (put : found ≡ words word_count (set v s true)) where
      abbrev next : Search
      next = record { found = found; order = set search.order search.count s; count = search.count + 1 }

      kept : (i : ℕ) → i < search.count → get_or (set search.order search.count s) i 0 ≡ get_or search.order i 0
      kept i h = get_or-set_other search.order search.count i s 0 (λ z. omega arith)

      last : get_or (set search.order search.count s) search.count 0 ≡ s
      last = get_or-set_same search.order search.count s 0 (omega (arith, long, place_left))

      pub found_new : FoundStates next (set v s true) × Grown search next
      found_new = (
        record {
          few = omega (arith, f.few, length-set v s true);
          held = put;
          many = omega (arith, f.many, more_size v s inside fresh);
          placed = λ x t. elim (more_only v s inside x t) [
            | inl e ↦ (search.count, omega arith, last ∙ sym e)
            | inr t ↦ let (i, h, is) = f.placed x t in (i, omega arith, kept i h ∙ is)
          ];
          found_at = λ i h. by_cases (ℕ_discrete i search.count)
              (λ e. rw (e, last) (more_itself v s inside))
              (λ d. let low : i < search.count = omega arith in rw (kept i low) (more_keeps v s inside _ (f.found_at i low)));
        },
        record { more = omega arith; same = kept },
      )

-- ---- the targets of all transitions from a state

module _ (f : ℕ → ℕ) (s : ℕ) where
  first_here : (j k : ℕ) → f j ≡ s → first_on f s j (suc k) ≡ j
  unfolding first_on
  first_here j k e = rw (eq-eqb (f j) s e)

  first_later : (j k : ℕ) → ¬ (f j ≡ s) → first_on f s j (suc k) ≡ first_on f s (suc j) k
  unfolding first_on
  first_later j k d = rw (ne_eqb (f j) s d)

  -- The first number from j on, of k, where f is s, is one where there is any,
  first_on_is : (j k : ℕ) → j + k ≤ transition_limit → first_on f s j k < j + k → f (first_on f s j k) ≡ s
  unfolding first_on
  first_on_is j zero few h = absurd (omega arith)
  first_on_is j (suc k) few h = by_cases (ℕ_discrete (f j) s)
      (λ e. rw (first_here j k e) e)
      (λ d. rw (first_later j k d) (first_on_is (suc j) k (omega arith) (omega (arith, h, first_later j k d))))

  -- it does not stand before j,
  first_on_from : (j k : ℕ) → j + k ≤ transition_limit → j ≤ first_on f s j k
  unfolding first_on
  first_on_from j zero few = omega arith
  first_on_from j (suc k) few = by_cases (ℕ_discrete (f j) s)
      (λ e. omega (arith, first_here j k e))
      (λ d. omega (arith, first_later j k d, first_on_from (suc j) k (omega arith)))

  -- and f is not s from j on before it.
  first_on_skips : (j k x : ℕ) → j ≤ x → x < j + k → x < first_on f s j k → ¬ (f x ≡ s)
  first_on_skips j zero x from below h e = absurd (omega arith)
  first_on_skips j (suc k) x from below h e = by_cases (ℕ_discrete (f j) s)
      (λ here. omega (arith, from, h, first_here j k here))
      (λ d. by_cases (ℕ_discrete j x) (λ is. d (ap f is ∙ e)) (λ n. first_on_skips (suc j) k x (omega arith) (omega arith) (omega (arith, h, first_later j k d)) e))

-- p is the first of m records from j on that has the source s, or none of them is left.
pub record Next (part : List ℕ) (m s j p : ℕ) : Type 0 where
  pub from : j ≤ p
  pub source : p < m → source_in part p ≡ s
  pub skipped : (x : ℕ) → j ≤ x → x < p → x < m → ¬ (source_in part x ≡ s)

next_is : (part : List ℕ) (m s j : ℕ) → m ≤ transition_limit → j ≤ m → Next part m s j (next_from part m s j)
next_is part m s j few low =
    let sum : j + (m - j) ≡ m = omega arith in
    record {
      from = first_on_from (source_in part) s j (m - j) (omega arith);
      source = λ h. first_on_is (source_in part) s j (m - j) (omega arith) (omega arith);
      skipped = λ x f b l. first_on_skips (source_in part) s j (m - j) x f (omega arith) b;
    }

module _ {part first after : List ℕ} {m s : ℕ} (linked : Linked part m first after) where
  -- A walk along the links starts at the first record of a state,
  pub next_first : s < state_limit → Next part m s 0 (get_or first s 0)
  next_first h = rw (linked.filled.from_state s h) (next_is part m s 0 linked.sourced.few (omega arith))

  -- and goes on behind each with the next.
  pub next_after : {j : ℕ} → j < m → source_in part j ≡ s → Next part m s (j + 1) (get_or after j 0)
  next_after {j} h e = rw (linked.filled.after_record j (omega arith) h, e) (next_is part m s (j + 1) linked.sourced.few (omega arith))

-- Before the first record nothing is added to a set;
pub widen_none : {part : List ℕ} {m s p : ℕ} (v : States) → Next part m s 0 p → Widened part m p s v v
widen_none v n = record {
  sized = refl;
  keeps = λ x t. t;
  targets = λ j l h e. absurd (n.skipped j (omega arith) h l e);
  only = λ x t. inl t;
}

-- at a record its target is, and up to the next one nothing more.
module _ {part : List ℕ} {m s j p : ℕ} {v w : States} (wide : Widened part m j s v w) (inside : j < m) (own : source_in part j ≡ s)
    (low : target_in part j < length w) (n : Next part m s (j + 1) p) where
  abbrev w' : States
  w' = set w (target_in part j) true

  pub widen_next : Widened part m p s v w'
  widen_next = record {
    sized = length-set w (target_in part j) true ∙ wide.sized;
    keeps = λ x t. more_keeps w (target_in part j) low x (wide.keeps x t);
    targets = λ k l h e. by k l h e (dec_lt k j);
    only = λ x t. elim (more_only w (target_in part j) low x t) [
      | inl e ↦ inr (j, inside, omega (arith, n.from), own, sym e)
      | inr t ↦ elim (wide.only x t) [
        | inl u ↦ inl u
        | inr (k, l, b, from, is) ↦ inr (k, l, omega (arith, b, n.from), from, is)
      ]
    ];
  }
    where
      by : (k : ℕ) → k < m → k < p → source_in part k ≡ s → Dec (k < j) → T (has w' (target_in part k))
      by k l h e (yes b) = more_keeps w (target_in part j) low _ (wide.targets k l b e)
      by k l h e (no d) = by_cases (ℕ_discrete k j)
          (λ is. rw is (more_itself w (target_in part j) low))
          (λ other. absurd (n.skipped k (omega arith) h l e))

-- With the last record it has all targets.
pub widen_all : {part : List ℕ} {m j s : ℕ} {v w : States} → Widened part m j s v w → m ≤ j → Widened part m m s v w
widen_all wide h = record { sized = wide.sized; keeps = wide.keeps; targets = λ k l b e. wide.targets k l (omega arith) e; only = λ x t. elim (wide.only x t) [ inl u ↦ inl u | inr (k, l, b, from, is) ↦ inr (k, l, l, from, is) ] }

-- ---- the whole search, of a case

-- at first nothing is found
pub found_none : (n : ℕ) {found order : List ℕ} → n ≤ state_limit → found ≡ words word_count (start n false)
    → FoundStates (record { found = found; order = order; count = 0 }) (start n false)
found_none n few e = record {
  few = omega (arith, length-replicate n false);
  held = e;
  many = sym (size_none n);
  placed = λ x t. absurd (empty n x t);
  found_at = λ i h. absurd (omega arith);
}

-- What the search keeps: v is found, it lies in each closed set, and the transitions from the first states of the order end in it.
pub record Searched (c : Case) (part : List ℕ) (m : ℕ) (search : Search) (done : ℕ) (v : States) : Type 0 where
  pub found : FoundStates search v
  pub sized : length v ≡ c.states
  pub initial : T (has v c.initial)
  pub least : (u : States) → Closed c u → Subset v u
  pub followed : (i : ℕ) → i < done → (j : ℕ) → j < m → source_in part j ≡ get_or search.order i 0 → T (has v (target_in part j))

-- The part holds the transitions of the case, which are between its states.
pub record Model (c : Case) (part : List ℕ) (m : ℕ) : Type 0 where
  pub bounded : Bounded c
  pub few : c.states ≤ state_limit
  pub are : c.transitions ≡ transitions_in part m

module _ {c : Case} {part : List ℕ} {m : ℕ} (model : Model c part m) where
  -- Then the initial state is found, whose transitions were not followed yet.
  pub initial_below : c.initial < length (start c.states false)
  initial_below = omega (arith, model.bounded.initial, length-replicate c.states false)

  abbrev first : States
  first = set (start c.states false) c.initial true

  pub searched_first : {search : Search} → FoundStates search first → Searched c part m search 0 first
  searched_first f = record {
    found = f;
    sized = length-set (start c.states false) c.initial true ∙ length-replicate c.states false;
    initial = more_itself (start c.states false) c.initial initial_below;
    least = λ u k x t. elim (more_only (start c.states false) c.initial initial_below x t) [
      | inl e ↦ rw e k.initial
      | inr t ↦ absurd (empty c.states x t)
    ];
    followed = λ i h. absurd (omega arith);
  }

  -- record j is a transition of the case
  record_member : (j : ℕ) → j < m → Mem (transition_in part j) c.transitions
  unfolding transitions_in
  record_member j h =
      let t = transition_in part j in
      rw model.are (subst (λ (x : Transition). Mem x (transitions_in part m)) (table_at (transition_in part) m j t h)
      (member_at (transitions_in part m) j t (rw (length_table (transition_in part) m) h)))

  -- so it ends in a state of the case
  pub targets_below : {search : Search} {done : ℕ} {v : States} → Searched c part m search done v → TargetsBelow part m v
  targets_below s j h = rw s.sized (model.bounded.target (transition_in part j) (record_member j h))

  module _ {search : Search} {done : ℕ} {v : States} (s : Searched c part m search done v) where
    -- The next state of the order is taken up.
    module _ (h : done < search.count) where
      pub taken_below : get_or search.order done 0 < length v
      taken_below = has_below v _ (s.found.found_at done h)

      pub done_below : done < state_limit
      done_below = omega (arith, h, s.found.many, size_length v, s.found.few)

      module _ {search' : Search} {w : States} (found : FoundStates search' w) (grown : Grown search search') (wide : Widened part m m (get_or search.order done 0) v w) where
        pub searched_next : Searched c part m search' (done + 1) w
        searched_next = record {
          found = found;
          sized = wide.sized ∙ s.sized;
          initial = wide.keeps c.initial s.initial;
          least = λ u k x t. elim (wide.only x t) [
            | inl t ↦ s.least u k x t
            | inr (j, l, b, from, is) ↦ subst (λ (y : ℕ). T (has u y)) is
                (k.target (transition_in part j) (record_member j l) (subst (λ (y : ℕ). T (has u y)) (sym from) (s.least u k _ (s.found.found_at done h))))
          ];
          followed = λ i l j g e. by_cases (ℕ_discrete i done)
              (λ is. wide.targets j g g (e ∙ ap (λ (i : ℕ). get_or search'.order i 0) is ∙ grown.same done h))
              (λ d. wide.keeps _ (s.followed i (omega arith) j g (e ∙ grown.same i (omega arith))));
        }

    -- Where none is left, the set is closed, and so it is the least that is.
    module _ (h : search.count ≤ done) where
      followed_all : (t : Transition) → Mem t c.transitions → T (not (has v t.source) || has v t.target)
      unfolding transitions_in
      followed_all = every_member ends c.transitions (rw model.are (all_from ends (transitions_in part m) d each))
        where
          ends : Transition → Bool
          ends t = not (has v t.source) || has v t.target

          d : Transition
          d = transition_in part 0

          holds : (j : ℕ) → j < m → (b : Bool) → has v (source_in part j) ≡ b → T (not b || has v (target_in part j))
          holds j l false e = tt
          holds j l true e =
              let (i, low, is) = s.found.placed (source_in part j) (rw e tt) in
              s.followed i (omega arith) j l (sym is)

          each : (j : ℕ) → j < length (transitions_in part m) → T (ends (get_or (transitions_in part m) j d))
          each j l =
              let low : j < m = omega (arith, length_table (transition_in part) m) in
              rw (table_at (transition_in part) m j d low) (holds j low (has v (source_in part j)) refl)

      closed : Closed c v
      closed = record { initial = s.initial; target = λ t m h. or_either (not (has v t.source)) (has v t.target) (λ z. absurd (T_not (has v t.source) z h)) (λ z. z) (followed_all t m) }

      pub searched_all : search.found ≡ words word_count (reachable c)
      searched_all =
          s.found.held ∙ ap (words word_count) (extremal_one (record { sized = s.sized; holds = closed; first = λ u o k. s.least u k }) (reachable_least c model.bounded))

-- an accepted case, and its table
pub accepted_model : (b : List ℕ) → Accepted b → {h : Header} → h ≡ header_of b → {part : List ℕ} {count : ℕ} → part ≡ transition_part b → count ≡ h.transitions
    → (h.initial ≡ (case_of b).initial) × Model (case_of b) part count
unfolding case_of
accepted_model b ok read is many =
    (ap (λ (h : Header). h.initial) read, record { bounded = accepted_bounded b ok; few = (passed b ok).lies.counts.few_states; are = table_case b ok read is many })

-- a place in the order, in bytes
pub place_fits : {k : ℕ} → k < state_limit → Fits w64 (k * 2)
place_fits h = record { fits = omega arith }
