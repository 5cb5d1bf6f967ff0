-- The promises of both routes, of whatever keeps their contracts: Ran and EquationRan of specs/Route.antt. b is the case file, any list of
-- bytes; l is what is lent, as it is before the call; o is the outcome of what a call answers, t the tally beside it, and marks', file' and work'
-- are what it leaves.
-- Numbers have no bound.
use mathlib.Core.Path.{◌≡◌, refl, sym, ap, subst, ◌∙◌}
use mathlib.Core.Logic.{◌↔◌, ◌⊎◌, inl, inr, by_cases}
use mathlib.Core.List.{List, [], ◌∷◌, ◌++◌, map, Memᴰ, Nodup, Perm, Mem}
use mathlib.Core.Bool.{Bool, true, false, ◌&&◌}
use Prim.Native.Nat.{ℕ, suc, ◌≤◌, ◌<◌}
use native.Mathlib.Omega.{arith}
use native.Mathlib.Decide.{ℕ_discrete}
use borrow.Author.Tests.{ltb-true, lt-ltb}
use lib.Dec.{T}
use lib.ListN.{length, take, drop}
use Rattle.sets.specs.Lists.{every, numbers_from, keep}
use Rattle.sets.specs.States.{States, has, size, Extremal, Valuation, Sized, all_empty}
use Rattle.sets.specs.Words.{bit, words, marked, ones_of, both_words, marked_below, Marks, word_count, state_limit}
use Rattle.sets.specs.Refusals.{first_of, numbers_of, NoneHolds, FirstHolds, refused, by_refusal, Outcome, GivesMarks, Spent}
use Rattle.sets.proofs.Refusals.{apart, absent, member, refusing, answered_member, answered_first, answered_none}
use Rattle.sets.proofs.Words.{take_words, shows}
use Rattle.sets.proofs.Ones.{marks_size, both_size, same_size}
use Rattle.sets.proofs.Lists.{length_table, and_left, and_right, and_both, implies_antisym}
use Rattle.sets.proofs.Order.{size_some, size_subset}
use Rattle.solver.specs.Cells.{Values}
use Rattle.solver.specs.File.{sizes_of, cells}
use Rattle.solver.specs.Solution.{powers, StandardSolution}
use Rattle.solver.specs.Outcome.{solve_refusal, Scratch}
use Rattle.solver.proofs.Starts.{own_values}
use Rattle.translate.proofs.Promises.{well_formed}
use Rattle.cases.specs.declared.Transition.{Transition}
use Rattle.cases.specs.File.{version, header_of, label_table}
use Rattle.cases.specs.Labels.{same_names, label_names}
use Rattle.cases.specs.Case.{Case, case_of, SameTables, SameTransitionSet}
use Rattle.cases.proofs.AlikeLaws.{different_case, permuted_case}
use Rattle.cases.specs.declared.Tally.{Tally}
use Rattle.cases.specs.Tally.{tallied, no_tally}
use Rattle.cases.proofs.Tallies.{tally_accepted, tally_refused, tallied_order}
use Rattle.cases.proofs.Distinct.{length_distinct, distinct_all}
use Rattle.cases.specs.Conditions.{layout_conditions, model_conditions, formula_conditions, case_conditions, case_refusal, Accepted}
use Rattle.cases.specs.Meaning.{intersection, MeansIn}
use Rattle.cases.specs.Reach.{here, Reachable, ReachableStates, Closed, with_more, SameFromReachable}
use Rattle.cases.specs.computed.Reached.{reachable}
use Rattle.cases.specs.internal.Search.{Bounded}
use Rattle.cases.proofs.Reaching.{has_below, set_of_has, has_set_of, found_reached, reached_found, reached_below, still_reached, reached_before, reachable_least, reachable_states, reachable_one, accepted_bounded, same_turned, unreached_added}
use Rattle.cases.proofs.ReachedMeaning.{means_agrees}
use Rattle.cases.proofs.MeaningLaws.{means_sized}
use Rattle.translate.specs.Bytes.{file_of}
use Rattle.translate.specs.Translating.{file, translate_refusal, file_after}
use Rattle.translate.proofs.Translations.{unrefused}
use Rattle.routes.specs.Route.{Route, direct, equation, Lent, OwnRounds, run_of, exceeds, run_conditions, route_conditions, Enough, run_report, work_after, RanBy, Ran, EquationRan}
use Rattle.routes.specs.Price.{round_price, solved_price, run_price}
use Rattle.routes.proofs.Prices.{solved_costs, spent_costs, unpaid}
use Rattle.routes.proofs.RouteLaws.{translate_then_solve, case_refused, case_accepted, number_ran, reported, written, refused_with, kept, given, spent_over, spent_accepted, spent_number, gives_number}
use Rattle.routes.proofs.DirectAnswers.{ran_first}
use Rattle.routes.proofs.Members.{means_same, run_same, ran_same}
use Rattle.routes.proofs.Outcomes.{none_sized, few_states, run_in, meaning_of, one_meaning, own_exists, own_one, runs_alike, run_means, run_sized, run_bound}

-- ---- Demand 3, of an accepted case with enough memory
module _ (b : List ℕ) (accepted : Accepted b) where
  -- The formula has a meaning, and no other.
  pub meaning_exists : (ρ : Valuation) → Sized (case_of b).states ρ → (v : States) × MeansIn (case_of b) ρ v
  meaning_exists ρ s = (_, (s, meaning_of b ρ s))

  pub meaning_unique : (ρ σ : Valuation) (v w : States) → MeansIn (case_of b) ρ v → MeansIn (case_of b) σ w → v ≡ w
  meaning_unique ρ σ v w x y = one_meaning b accepted ρ σ x.0 y.0 v w x.1 y.1

  -- There is a set of the states that can be reached, and no other; it is the least set that holds the initial state and is closed under transitions.
  reaches : Bounded (case_of b)
  reaches = accepted_bounded b accepted

  reached_exist : ReachableStates (case_of b) (reachable (case_of b))
  reached_exist = reachable_states (case_of b) reaches

  pub reachable_exists : (w : States) × ReachableStates (case_of b) w
  reachable_exists = (reachable (case_of b), reached_exist)

  pub reachable_unique : (w w' : States) → ReachableStates (case_of b) w → ReachableStates (case_of b) w' → w ≡ w'
  reachable_unique w w' r r' = reachable_one (case_of b) reaches w r ∙ sym (reachable_one (case_of b) reaches w' r')

  pub reachable_first : (w : States) → ReachableStates (case_of b) w → Extremal (case_of b).states false (Closed (case_of b)) w
  reachable_first w r = subst (Extremal (case_of b).states false (Closed (case_of b))) (sym (reachable_one (case_of b) reaches w r)) (reachable_least (case_of b) reaches)

  -- A route has own rounds, and one number of them.
  pub rounds_exist : (R : Route) → (r : ℕ) × OwnRounds R (case_of b) r
  rounds_exist R = ((run_of R (case_of b)).1, own_exists b accepted R)

  pub rounds_unique : (R : Route) (r q : ℕ) → OwnRounds R (case_of b) r → OwnRounds R (case_of b) q → r ≡ q
  rounds_unique R r q o p = own_one b accepted R r o ∙ sym (own_one b accepted R q p)

  -- Condition 14 holds exactly if they exceed the limit.
  pub exceeds_iff : (R : Route) (r : ℕ) → OwnRounds R (case_of b) r → (limit : ℕ) → exceeds R (case_of b) limit ≡ true ↔ limit < r
  unfolding exceeds
  exceeds_iff R r o limit = rw (own_one b accepted R r o) (ltb-true limit (run_of R (case_of b)).1, lt-ltb limit (run_of R (case_of b)).1)

  module _ {R : Route} {l : Lent} {limit : ℕ} {o : Outcome} {t : Tally} {marks' : List ℕ} (ran : Ran R b l limit o t marks')
      (enough : Enough R (case_of b) l) (r : ℕ) (own : OwnRounds R (case_of b) r) where
    -- (a) A route is spent exactly if its own rounds exceed the limit.
    pub spent_iff : Spent o ↔ limit < r
    spent_iff = rw (own_one b accepted R r own, number_ran ran.by) (spent_number R b l limit accepted enough)

    -- (b) Otherwise it gives marks, and reports exactly those rounds, with the verdict of the formula's meaning v, and with the count of those of its
    -- states that can be reached, of which w is the set.
    pub gives_iff : GivesMarks o ↔ r ≤ limit
    gives_iff = rw (own_one b accepted R r own, number_ran ran.by) (gives_number R b l limit accepted enough)

    pub reports : r ≤ limit → (ρ : Valuation) (v w : States) → MeansIn (case_of b) ρ v → ReachableStates (case_of b) w → o ≡ run_report (case_of b) v w r
    reports h ρ v w m reached =
        rw (run_means b accepted R ρ m.0 v m.1, reachable_one (case_of b) reaches w reached, own_one b accepted R r own)
        (reported ran.by (gives_iff.1 h))

-- a bit that is 1
one_bit : (x : Bool) → bit x ≡ 1 → T x
one_bit true e = tt
one_bit false e = absurd (omega arith)

-- (c) Where a route gives marks, a state is marked exactly if it lies in the formula's meaning, no bit from n up is 1, and the words behind
-- are as lent.
module _ {R : Route} {b : List ℕ} {l : Lent} {limit : ℕ} {o : Outcome} {t : Tally} {marks' : List ℕ} (ran : Ran R b l limit o t marks') where
  accepted_run : GivesMarks o → Accepted b
  accepted_run g = (given R b l limit (sym (number_ran ran.by) ∙ g)).0

  shown : GivesMarks o → Marks (case_of b).states (run_of R (case_of b)).0 l.marks marks'
  shown g = shows (run_of R (case_of b)).0 l.marks marks' (written ran.by g) (run_sized b (accepted_run g) R)

  pub marks_mean : GivesMarks o → (ρ : Valuation) (v : States) → MeansIn (case_of b) ρ v → Marks (case_of b).states v l.marks marks'
  marks_mean g ρ v m =
      rw (written ran.by g, ← run_means b (accepted_run g) R ρ m.0 v m.1) (shows v l.marks _ refl (means_sized _ _ _ ρ m.0 v m.1))

  -- (d) Any two runs that give marks, by either route and at whatever limits and lent memory, are alike in marks, verdict and count.
  pub alike : {R' : Route} {l' : Lent} {limit' : ℕ} {o' : Outcome} {t' : Tally} {marks'' : List ℕ} → Ran R' b l' limit' o' t' marks'' → GivesMarks o → GivesMarks o'
      → (take word_count marks' ≡ take word_count marks'') × (o.verdict ≡ o'.verdict) × (o.count ≡ o'.count)
  alike {R'} ran' g g' =
      let same = runs_alike b (accepted_run g) R R' in (
        rw (written ran.by g, written ran'.by g', take_words word_count (run_of R (case_of b)).0, take_words word_count (run_of R' (case_of b)).0, same),
        rw (reported ran.by g, reported ran'.by g', same),
        rw (reported ran.by g, reported ran'.by g', same),
      )

  -- (e) What gives marks at a limit gives the same marks and report at each larger one, with whatever memory that is enough.
  pub larger : {l' : Lent} {more : ℕ} {o' : Outcome} {t' : Tally} {marks'' : List ℕ} → Ran R b l' more o' t' marks'' → Enough R (case_of b) l' → limit ≤ more → GivesMarks o
      → (o' ≡ o) × (marks'' ≡ take word_count marks' ++ drop word_count l'.marks)
  larger {l'} {more} {o'} ran' enough h g =
      let (ok, _, low) = given R b l limit (sym (number_ran ran.by) ∙ g) in
      let g' : GivesMarks o' = number_ran ran'.by ∙ (gives_number R b l' more ok enough).1 (omega arith) in
      let words_are = ap (take word_count) (written ran.by g) ∙ take_words word_count (run_of R (case_of b)).0 _ in
      (reported ran'.by g' ∙ sym (reported ran.by g), written ran'.by g' ∙ ap (λ (ws : List ℕ). ws ++ drop word_count l'.marks) (sym words_are))

  -- (f) A limit of m + m ^ 2 + .. + m ^ d, for m = n + 1 and the d blocks of the equation file, is never spent.
  pub never_spent : powers (suc (case_of b).states) (sizes_of (file b)).blocks ≤ limit → ¬ Spent o
  never_spent h s =
      let z = sym (number_ran ran.by) ∙ s in
      omega (arith, spent_over R b l limit z, run_bound b (spent_accepted R b l limit z) R)

  -- ---- Demand 1, of any bytes

  -- One answer: the report of a set, of the states that can be reached and of rounds, or one number of the conditions, with zeros for verdict, count
  -- and rounds.
  pub one_answer : ((v w : States) × (r : ℕ) × ReachableStates (case_of b) w × (o ≡ run_report (case_of b) v w r))
      ⊎ ((k : ℕ) × Memᴰ k (numbers_of (route_conditions R b l limit)) × (o ≡ refused k))
  one_answer = by_cases (ℕ_discrete o.refusal 0)
      (λ g. inl ((run_of R (case_of b)).0, reachable (case_of b), (run_of R (case_of b)).1, reached_exist b (accepted_run g), reported ran.by g))
      (λ d. inr (_, answered_member _ (number_ran ran.by) d, refused_with ran.by d ∙ ap refused (sym (number_ran ran.by))))

  -- The number is that of the first condition that holds, of the case's own, then 13, then 14; a report says that none does.
  pub first_condition : (k : ℕ) → ¬ (k ≡ 0) → o.refusal ≡ k ↔ FirstHolds (route_conditions R b l limit) k
  first_condition = answered_first (route_conditions R b l limit) (number_ran ran.by)

  pub no_condition : GivesMarks o ↔ NoneHolds (route_conditions R b l limit)
  unfolding route_conditions run_conditions case_conditions layout_conditions model_conditions formula_conditions every
  no_condition = answered_none (route_conditions R b l limit) (number_ran ran.by) tt

  pub never_11_12 : ¬ (o.refusal ≡ 11) × ¬ (o.refusal ≡ 12)
  unfolding route_conditions run_conditions case_conditions layout_conditions model_conditions formula_conditions every
  never_11_12 = (
    λ e. apart 11 (route_conditions R b l limit) (λ z. omega arith) tt (sym (number_ran ran.by) ∙ e),
    λ e. apart 12 (route_conditions R b l limit) (λ z. omega arith) tt (sym (number_ran ran.by) ∙ e),
  )

  -- Only an accepted case with enough lent memory gives marks.
  pub gives_only : GivesMarks o → Accepted b × Enough R (case_of b) l
  gives_only g = let (ok, enough, _) = given R b l limit (sym (number_ran ran.by) ∙ g) in (ok, enough)

  -- A refusal leaves the marks as they were.
  pub marks_kept : ¬ GivesMarks o → marks' ≡ l.marks
  marks_kept = kept ran.by

  -- ---- The count

  module _ (g : GivesMarks o) (w : States) (reached : ReachableStates (case_of b) w) where
    abbrev n : ℕ
    n = (case_of b).states

    abbrev held : States
    held = (run_of R (case_of b)).0

    held_long : length held ≡ n
    held_long = run_sized b (accepted_run g) R

    abbrev both : States
    both = intersection n held w

    both_long : length both ≡ n
    both_long = length_table (λ s. has held s && has w s) n

    shown_size : marked_below marks' n ≡ size held
    shown_size = sym (marks_size (few_states b (accepted_run g)) (shown g)).1

    counted : o.count ≡ size both
    counted = rw (reported ran.by g, reachable_one (case_of b) (accepted_bounded b (accepted_run g)) w reached)

    -- The count is the number of states below n whose bit is 1 and which can be reached. A word at a time it is the sum of the ones of the set's words in
    -- the marks, where the bits of states that cannot be reached are cleared.
    pub count_ones : (o.count ≡ ones_of (both_words (take word_count marks') (words word_count w)))
        × (o.count ≡ length (keep (λ s. marked marks' s && has w s) (numbers_from 0 (case_of b).states)))
    count_ones = rw counted (both_size (few_states b (accepted_run g)) (shown g) w reached.sized)

    -- No more are counted than are marked, and as many if each of these can be reached.
    pub count_marked : o.count ≤ marked_below marks' (case_of b).states
    count_marked = rw (counted, shown_size) (size_subset both held (both_long ∙ sym held_long) (λ s t. and_left (has held s) (has w s) (has_set_of n _ s t).1))

    pub count_all : ((s : ℕ) → s < (case_of b).states → T (marked marks' s) → Reachable (case_of b) s) → o.count ≡ marked_below marks' (case_of b).states
    count_all h = omega (arith, count_marked, counted, shown_size, size_subset held both (held_long ∙ sym both_long) in_both)
      where
        in_both : (s : ℕ) → T (has held s) → T (has both s)
        in_both s t =
            let low : s < n = omega (arith, held_long, has_below held s t) in
            set_of_has n (λ s. has held s && has w s) s low (and_both (has held s) (has w s) t ((reached.exactly s).1 (h s low (rw ((shown g).shown s (omega (arith, low, few_states b (accepted_run g)))) t))))

    -- The initial state is counted where it is marked: a run with a true verdict counts at least one state.
    pub verdict_counted : o.verdict ≡ 1 → 1 ≤ o.count
    verdict_counted v =
        let low : (case_of b).initial < n = (accepted_bounded b (accepted_run g)).initial in
        let t : T (has held (case_of b).initial) = one_bit _ (sym (ap (λ (o : Outcome). o.verdict) (reported ran.by g)) ∙ v) in
        rw counted (size_some both (case_of b).initial (set_of_has n (λ s. has held s && has w s) (case_of b).initial low (and_both _ _ t ((reached.exactly _).1 here))))

-- ---- How many records were copies, of any bytes

-- no number of a case's own conditions is 0, 13 or 14
own_numbers : (b : List ℕ) (k : ℕ) → Memᴰ k (0 ∷ 13 ∷ 14 ∷ []) → ¬ Memᴰ k (numbers_of (case_conditions b))
unfolding case_conditions layout_conditions model_conditions formula_conditions every
own_numbers b k (Memᴰ.head e) m = absent 0 (case_conditions b) tt (rw e at m)
own_numbers b k (Memᴰ.tail (Memᴰ.head e)) m = absent 13 (case_conditions b) tt (rw e at m)
own_numbers b k (Memᴰ.tail (Memᴰ.tail (Memᴰ.head e))) m = absent 14 (case_conditions b) tt (rw e at m)
own_numbers b k (Memᴰ.tail (Memᴰ.tail (Memᴰ.tail h))) m = elim h [ ]

-- a run over a case answers no others
run_numbers : (R : Route) (c : Case) (l : Lent) (limit : ℕ) → Memᴰ (first_of (run_conditions R c l limit)) (0 ∷ 13 ∷ 14 ∷ [])
unfolding run_conditions
run_numbers R c l limit = by_cases (ℕ_discrete (first_of (run_conditions R c l limit)) 0) Memᴰ.head (λ d. Memᴰ.tail (member (run_conditions R c l limit) d))

module _ {R : Route} {b : List ℕ} {l : Lent} {limit : ℕ} {o : Outcome} {t : Tally} {marks' : List ℕ} (ran : Ran R b l limit o t marks') where
  -- A case is accepted exactly if a route answers none of the numbers of its own conditions.
  pub accepted_iff : Accepted b ↔ ¬ Memᴰ o.refusal (numbers_of (case_conditions b))
  unfolding case_refusal
  accepted_iff = (
    (λ ok m. own_numbers b _ (rw (number_ran ran.by ∙ case_accepted R b l limit ok) (run_numbers R (case_of b) l limit)) m),
    λ d. by_cases (ℕ_discrete (case_refusal b) 0) (λ z. z)
        (λ n. absurd (d (rw (number_ran ran.by ∙ case_refused R b l limit n) (member (case_conditions b) n)))),
  )

  -- After one of those numbers both numbers of the tally are 0. After a report (0), 13 and 14 they are those of the case's table.
  pub tally_none : Memᴰ o.refusal (numbers_of (case_conditions b)) → t ≡ no_tally
  tally_none m = ran.tally_is ∙ tally_refused b (λ ok. accepted_iff.0 ok m)

  pub tally_carried : Memᴰ o.refusal (0 ∷ 13 ∷ 14 ∷ []) → t ≡ tallied (case_of b).transitions
  tally_carried m = ran.tally_is ∙ tally_accepted b (accepted_iff.1 (own_numbers b _ m))

  -- Both routes give the same two numbers, whatever is lent and whatever the limit.
  pub tally_alike : {R' : Route} {l' : Lent} {limit' : ℕ} {o' : Outcome} {t' : Tally} {marks'' : List ℕ} → Ran R' b l' limit' o' t' marks'' → t ≡ t'
  tally_alike ran' = ran.tally_is ∙ sym ran'.tally_is

  -- No more are distinct than there are.
  pub distinct_most : t.distinct ≤ t.records
  unfolding tallied
  distinct_most = by_cases (ℕ_discrete (case_refusal b) 0)
      (λ ok. rw (ran.tally_is ∙ tally_accepted b ok) (length_distinct (case_of b).transitions))
      (λ d. rw (ran.tally_is ∙ tally_refused b d) (omega arith))

  module _ (accepted : Accepted b) where
    -- An accepted case has the tally of its table, whatever is answered.
    pub tally_table : t ≡ tallied (case_of b).transitions
    tally_table = ran.tally_is ∙ tally_accepted b accepted

    -- There are as many exactly if no record has a copy.
    pub no_copies : t.records ≡ t.distinct ↔ Nodup (case_of b).transitions
    unfolding tallied
    no_copies = rw tally_table (distinct_all (case_of b).transitions)

    -- They do not depend on the order of the records.
    pub any_order : {R' : Route} {b' : List ℕ} {l' : Lent} {limit' : ℕ} {o' : Outcome} {t' : Tally} {marks'' : List ℕ} → Ran R' b' l' limit' o' t' marks''
        → Accepted b' → Perm (case_of b).transitions (case_of b').transitions → t ≡ t'
    any_order {b' = b'} ran' accepted' p =
        tally_table ∙ tallied_order (case_of b).transitions (case_of b').transitions p
        ∙ sym (ran'.tally_is ∙ tally_accepted b' accepted')

    -- The answer and the marks of an accepted case are by 13 and 14 only.
    by_run : RanBy (run_conditions R (case_of b) l limit) R (case_of b) l.marks o marks'
    by_run = ran_first (case_accepted R b l limit accepted) ran.by

-- ---- Which transitions there are

-- Two cases with the same states, initial state and formula, and the same set of transitions: neither the order of the records
-- nor a recorded copy matters.
module _ (b b' : List ℕ) (same : SameTransitionSet (case_of b) (case_of b')) where
  -- Their formula means the same.
  pub same_meaning : (ρ : Valuation) (v : States) → MeansIn (case_of b) ρ v → MeansIn (case_of b') ρ v
  same_meaning = means_same same

  module _ (accepted : Accepted b) (accepted' : Accepted b') where
    -- Where both are accepted, direct has the same own rounds,
    pub same_rounds : (r : ℕ) → OwnRounds direct (case_of b) r → OwnRounds direct (case_of b') r
    same_rounds r own = rw (own_one b accepted direct r own, run_same same) (own_exists b' accepted' direct)

    -- and it answers the same and leaves the same marks, whatever is lent and whatever the limit. The tally counts copies, so it may differ.
    pub same_answers : {l : Lent} {limit : ℕ} {o o' : Outcome} {t t' : Tally} {marks' marks'' : List ℕ} → Ran direct b l limit o t marks'
        → Ran direct b' l limit o' t' marks'' → (o ≡ o') × (marks' ≡ marks'')
    same_answers {l} {limit} ran ran' =
        let one = ran_same same l limit (by_run ran accepted) in
        let two = by_run ran' accepted' in
        (one.answers ∙ sym two.answers, one.marks_are ∙ sym two.marks_are)

-- ---- Which states can be reached

-- Two cases with the same states, initial state and formula, and the same transitions from the states that can be reached in the first: what other
-- states do does not matter.
module _ (b b' : List ℕ) (same : SameFromReachable (case_of b) (case_of b')) where
  -- They can reach the same states.
  pub same_reachable : (s : ℕ) → Reachable (case_of b) s ↔ Reachable (case_of b') s
  same_reachable s = (still_reached same, reached_before same)

  -- Where the first is accepted, the formula means the same in each of these.
  pub reachable_meaning : Accepted b → (ρ : Valuation) (v w : States) → MeansIn (case_of b) ρ v → MeansIn (case_of b') ρ w
      → (s : ℕ) → Reachable (case_of b) s → has v s ≡ has w s
  reachable_meaning accepted = means_agrees same (accepted_bounded b accepted)

-- A case, and the same with further transitions from states that it cannot reach, are two such cases, either first.
pub unreached_more : (c : Case) (us : List Transition) → ((t : Transition) → Mem t us → ¬ Reachable c t.source)
    → SameFromReachable c (with_more c us) × SameFromReachable (with_more c us) c
unreached_more c us d = let same = unreached_added c us d in (same, same_turned same)

-- a state of the first sets is one of the second, if it is where the second of each has it
counted_in : (n n' : ℕ) (v w v' w' : States) → ((s : ℕ) → T (has w s) → (T (has w' s) × (s < n')) × (T (has v s) → T (has v' s)))
    → (s : ℕ) → T (has (intersection n v w) s) → T (has (intersection n' v' w') s)
counted_in n n' v w v' w' h s t =
    let b = (has_set_of n (λ s. has v s && has w s) s t).1 in
    let ((there, low), held) = h s (and_right (has v s) (has w s) b) in
    set_of_has n' (λ s. has v' s && has w' s) s low (and_both (has v' s) (has w' s) (held (and_left (has v s) (has w s) b)) there)

-- Runs over two such cases that give marks, by either route, at whatever limits and lent memory, mark the same of the states that can be reached, and are
-- alike in verdict and count. Their rounds, and the marks of other states, may differ.
module _ {R R' : Route} {b b' : List ℕ} {l l' : Lent} {limit limit' : ℕ} {o o' : Outcome} {t t' : Tally} {marks' marks'' : List ℕ} (ran : Ran R b l limit o t marks')
    (ran' : Ran R' b' l' limit' o' t' marks'') (same : SameFromReachable (case_of b) (case_of b')) (g : GivesMarks o) (g' : GivesMarks o') where
  bounded : Bounded (case_of b)
  bounded = accepted_bounded b (accepted_run ran g)

  bounded' : Bounded (case_of b')
  bounded' = accepted_bounded b' (accepted_run ran' g')

  held_alike : (s : ℕ) → Reachable (case_of b) s → has (run_of R (case_of b)).0 s ≡ has (run_of R' (case_of b')).0 s
  held_alike =
      let none = none_sized (case_of b).states in
      reachable_meaning b b' same (accepted_run ran g) (all_empty (case_of b).states) (run_of R (case_of b)).0 (run_of R' (case_of b')).0 (run_in b (accepted_run ran g) R (all_empty (case_of b).states) none)
      (run_in b' (accepted_run ran' g') R' (all_empty (case_of b).states) (subst (λ (n : ℕ). Sized n (all_empty (case_of b).states)) same.states none))

  pub reachable_marks : (s : ℕ) → Reachable (case_of b) s → marked marks' s ≡ marked marks'' s
  reachable_marks s r =
      let low : s < state_limit = omega (arith, reached_below (case_of b) bounded r, few_states b (accepted_run ran g)) in
      (shown ran g).shown s low ∙ held_alike s r ∙ sym ((shown ran' g').shown s low)

  pub reachable_verdict : o.verdict ≡ o'.verdict
  reachable_verdict = rw (reported ran.by g, reported ran'.by g', held_alike (case_of b).initial here, same.initial)

  pub reachable_count : o.count ≡ o'.count
  reachable_count =
      let v = (run_of R (case_of b)).0 in
      let v' = (run_of R' (case_of b')).0 in
      rw (reported ran.by g, reported ran'.by g')
      (same_size _ _ (λ s. implies_antisym _ _
      (counted_in (case_of b).states (case_of b').states v (reachable (case_of b)) v' (reachable (case_of b')) (λ s t. let r = found_reached (case_of b) s t in
      ((reached_found (case_of b') bounded' (still_reached same r), reached_below (case_of b') bounded' (still_reached same r)), subst T (held_alike s r))) s)
      (counted_in (case_of b').states (case_of b).states v' (reachable (case_of b')) v (reachable (case_of b)) (λ s t. let r = reached_before same (found_reached (case_of b') s t) in
      ((reached_found (case_of b) bounded r, reached_below (case_of b) bounded r), subst T (sym (held_alike s r)))) s)))

-- ---- Events that fire together

-- Two accepted cases that are the same case: whatever the route, the lent memory and the limit, answer, tally and marks are the same.
module _ {R : Route} {b b' : List ℕ} {l : Lent} {limit : ℕ} {o o' : Outcome} {t t' : Tally} {marks' marks'' : List ℕ} (ran : Ran R b l limit o t marks')
    (ran' : Ran R b' l limit o' t' marks'') (accepted : Accepted b) (accepted' : Accepted b') where
  pub same_runs : case_of b ≡ case_of b' → (o ≡ o') × (t ≡ t') × (marks' ≡ marks'') × (file b ≡ file b')
  same_runs e =
      let one = by_run ran accepted in
      let two = by_run ran' accepted' in (
        one.answers ∙ rw e (sym two.answers),
        tally_table ran accepted ∙ rw e (sym (tally_table ran' accepted')),
        one.marks_are ∙ rw e (sym two.marks_are),
        ap file_of e,
      )

  -- A version 2 case whose label records are all different as multisets answers as the version 1 case with the same tables does,
  pub different_names : SameTables b b' → version b ≡ 2 → version b' ≡ 1
      → ((j x : ℕ) → j < (header_of b).labels → x < (header_of b).labels → T (same_names (label_names (label_table b) j) (label_names (label_table b) x)) → j ≡ x)
      → (o ≡ o') × (t ≡ t') × (marks' ≡ marks'') × (file b ≡ file b')
  different_names s two one d = same_runs (different_case b b' accepted s two one d)

  -- and the order of the names in a record does not matter.
  pub permuted_names : SameTables b b' → version b ≡ version b' → ((j : ℕ) → Perm (label_names (label_table b) j) (label_names (label_table b') j))
      → (o ≡ o') × (t ≡ t') × (marks' ≡ marks'') × (file b ≡ file b')
  permuted_names s v p = same_runs (permuted_case b b' accepted s v p)

-- The equation route's file and working bytes.
module _ {b : List ℕ} {l : Lent} {limit : ℕ} {o : Outcome} {t : Tally} {file' work' marks' : List ℕ} (e : EquationRan b l limit o t file' work' marks') where
  -- It writes the file of an accepted case where there is room for it, whatever solve then answers; otherwise the buffer is unchanged.
  pub file_written : Accepted b → length (file b) ≤ length l.file → file' ≡ file b ++ drop (length (file b)) l.file
  unfolding file_after
  file_written ok h = e.file_is ∙ rw ((unrefused b (length l.file)).1 (ok, h))

  pub file_kept : ¬ (Accepted b × (length (file b) ≤ length l.file)) → file' ≡ l.file
  unfolding file_after
  file_kept h = e.file_is ∙ refusing _ _ _ (λ z. h ((unrefused b (length l.file)).0 z))

  -- After success the working bytes are the cells' values under the standard solution of all blocks, and the bytes behind are as lent.
  pub work_solved : GivesMarks o → (ρ σ : Valuation) → Sized (sizes_of (file b)).states ρ → StandardSolution (file b) ρ σ
      → (vs : List Bool) → Values (cells (file b)) σ vs → work' ≡ map bit vs ++ drop (sizes_of (file b)).cells l.work
  unfolding work_after
  work_solved g ρ σ start s vs v =
      let z = sym (number_ran e.ran.by) ∙ g in
      let ok = (given equation b l limit z).0 in
      rw (own_values (well_formed b ok) ρ σ start s vs v) (e.work_is (λ s. omega (arith, sym g ∙ s)) ∙ rw z)

  -- A refusal but 14 leaves them as they were; after 14 each of the first c is 0 or 1, and the rest is unchanged.
  pub work_kept : ¬ GivesMarks o → ¬ Spent o → work' ≡ l.work
  unfolding work_after
  work_kept d n = e.work_is n ∙ refusing _ _ _ (λ z. d (number_ran e.ran.by ∙ z))

  pub work_spent : Spent o → Scratch (sizes_of (file b)).cells l.work work'
  work_spent = e.work_14

  -- ---- The price, of the cents that are answered beside

  module _ {cents : ℕ} (cost : cents ≡ run_price b limit o) where
    -- A solved run costs by its rounds and the cells of the equation file, a spent one by its limit, and any other refusal nothing.
    pub cents_solved : GivesMarks o → cents ≡ solved_price o.rounds (sizes_of (file b)).cells
    unfolding run_price
    cents_solved g = cost ∙ solved_costs o _ limit g

    pub cents_spent : Spent o → cents ≡ round_price limit
    unfolding run_price
    cents_spent s = cost ∙ spent_costs o _ limit s

    pub cents_none : ¬ GivesMarks o → ¬ Spent o → cents ≡ 0
    unfolding run_price
    cents_none d n = cost ∙ unpaid o _ limit d n

    -- The same by the own rounds of an accepted case with enough memory: whether they are within the limit decides.
    module _ (accepted : Accepted b) (enough : Enough equation (case_of b) l) (r : ℕ) (own : OwnRounds equation (case_of b) r) where
      pub cents_within : r ≤ limit → cents ≡ solved_price r (sizes_of (file b)).cells
      cents_within h =
          let g = (gives_iff b accepted e.ran enough r own).1 h in
          cents_solved g ∙ rw (own_one b accepted equation r own, reported e.ran.by g)

      pub cents_beyond : limit < r → cents ≡ round_price limit
      cents_beyond h = cents_spent ((spent_iff b accepted e.ran enough r own).1 h)

    -- Beside another run over the case, with its own memory and limit:
    module _ {l' : Lent} {limit' : ℕ} {o' : Outcome} {t' : Tally} {file'' work'' marks'' : List ℕ} {cents' : ℕ}
        (e' : EquationRan b l' limit' o' t' file'' work'' marks'') (cost' : cents' ≡ run_price b limit' o') where
      -- what is solved in both costs the same,
      pub same_price : GivesMarks o → GivesMarks o' → cents' ≡ cents
      unfolding run_price
      same_price g g' = cost' ∙ solved_costs o' _ limit' g' ∙ rw (reported e'.ran.by g' ∙ sym (reported e.ran.by g)) (sym (cents_solved g))

      -- and so it does at each larger limit, with memory that is enough.
      pub larger_price : Enough equation (case_of b) l' → limit ≤ limit' → GivesMarks o → cents' ≡ cents
      larger_price enough h g = same_price g (ap (λ (x : Outcome). x.refusal) (larger e.ran e'.ran enough h g).0 ∙ g)

      -- A larger limit never makes a solved run dearer, whatever memory is lent.
      pub never_dearer : limit ≤ limit' → GivesMarks o → cents' ≤ cents
      unfolding run_price
      never_dearer h g = by_cases (ℕ_discrete o'.refusal 0) (λ g'. omega (arith, same_price g g')) (λ d. omega (arith, cost' ∙ unpaid o' _ limit' d unspent))
        where
          unspent : ¬ Spent o'
          unspent s =
              let low = (given equation b l limit (sym (number_ran e.ran.by) ∙ g)).2 in
              omega (arith, low, h, spent_over equation b l' limit' (sym (number_ran e'.ran.by) ∙ s))

  -- The number is translate's, or where that is 0 solve's on the file.
  pub in_turn : o.refusal
      ≡ by_refusal (translate_refusal b (length l.file)) (solve_refusal (file b) (length l.work) (length l.marks) limit) (translate_refusal b (length l.file))
  in_turn = number_ran e.ran.by ∙ translate_then_solve b l limit
