-- The promises of the solver: e is the file, any list of bytes, and numbers have no bound. What solve answers, and what it leaves in lent
-- memory, is said of whatever keeps its contract: Answered of specs/Outcome.antt.
use mathlib.Core.Path.{◌≡◌, sym, ap, ◌∙◌}
use mathlib.Core.Logic.{◌↔◌, ◌⊎◌, inl, inr, by_cases}
use mathlib.Core.Bool.{Bool, true, false}
use mathlib.Core.List.{List, ◌++◌, map, Memᴰ}
use Prim.Native.Nat.{ℕ, suc, ◌≤◌, ◌<◌}
use native.Mathlib.Omega.{arith}
use native.Mathlib.Decide.{ℕ_discrete}
use borrow.Author.Tests.{ltb-true, lt-ltb}
use lib.ListN.{length, take, drop, length-map}
use lib.Seq.{take-append_seam}
use Rattle.sets.specs.Lists.{every}
use Rattle.sets.specs.Words.{bit, ones_of, marked_below, Marks, word_count}
use Rattle.sets.specs.States.{States, Valuation, Sized}
use Rattle.sets.specs.Refusals.{numbers_of, NoneHolds, FirstHolds, refused, Outcome, GivesMarks, Spent, report_of}
use Rattle.sets.proofs.Words.{take_words, shows}
use Rattle.sets.proofs.Ones.{marks_size}
use Rattle.sets.proofs.Refusals.{answered_member, answered_first, answered_none}
use Rattle.solver.specs.File.{sizes_of, blocks, cells}
use Rattle.solver.specs.Conditions.{WellFormed}
use Rattle.solver.specs.Cells.{Values}
use Rattle.solver.specs.computed.Solved.{evaluate, solved, run}
use Rattle.solver.specs.Solution.{StandardSolution, powers}
use Rattle.solver.specs.Outcome.{FileRounds, solve_exceeds, bad_layout, bad_table, solve_conditions, solve_refusal, SolveEnough, report, Scratch, Answered}
use Rattle.solver.proofs.Tables.{length_cells}
use Rattle.solver.proofs.Reading.{layout_facts}
use Rattle.solver.proofs.WellFormed.{ordered}
use Rattle.solver.proofs.Values.{evaluate_values, values_one}
use Rattle.solver.proofs.Solving.{solution, solution_one}
use Rattle.solver.proofs.Starts.{own_inside, own_agree, own_first, own_values, own_solves, own_rounds, own_sized, own_bound}
use Rattle.solver.proofs.Refusals.{formed, is_0, is_14, marks_kept, work_kept, answered_number, answered_report, answered_refusal, answered_marks, answered_work}

-- ---- what a file means

-- Of a well-formed file:
module _ (e : List ℕ) (w : WellFormed e) where
  -- Under each valuation the cells have values, and no others.
  pub values_exist : (ρ : Valuation) → (vs : List Bool) × Values (cells e) ρ vs
  values_exist ρ = (evaluate (cells e) ρ, evaluate_values (cells e) (ordered e w) ρ)

  pub values_unique : (ρ : Valuation) (vs ws : List Bool) → Values (cells e) ρ vs → Values (cells e) ρ ws → vs ≡ ws
  values_unique = values_one (cells e) (ordered e w)

  -- From each start there is a standard solution, and no other.
  pub solution_exists : (ρ : Valuation) → Sized (sizes_of e).states ρ → (σ : Valuation) × StandardSolution e ρ σ
  solution_exists ρ r = (_, solution (sizes_of e).states (cells e) (ordered e w) (blocks e) (own_inside w) 0 ρ r)

  pub solution_unique : (ρ : Valuation) → Sized (sizes_of e).states ρ → (σ τ : Valuation) → StandardSolution e ρ σ → StandardSolution e ρ τ → σ ≡ τ
  solution_unique ρ r σ τ s t = is σ s ∙ sym (is τ t)
    where
      is : (σ : Valuation) → StandardSolution e ρ σ → σ ≡ (solved (sizes_of e).states (cells e) (blocks e) 0 ρ).0
      is = solution_one (sizes_of e).states (cells e) (ordered e w) (blocks e) (own_inside w) 0 ρ r

  -- The start does not matter: the file's own blocks have the same sets from every start.
  pub solution_start : (ρ ρ' σ σ' : Valuation) → Sized (sizes_of e).states ρ → Sized (sizes_of e).states ρ' → StandardSolution e ρ σ → StandardSolution e ρ' σ'
      → (k : ℕ) → k < (sizes_of e).blocks → σ k ≡ σ' k
  solution_start ρ ρ' σ σ' r r' s s' k h = own_agree w ρ σ r s k h ∙ sym (own_agree w ρ' σ' r' s' k h)

  -- A file has own rounds, and one number of them.
  pub rounds_exist : (r : ℕ) × FileRounds e r
  unfolding FileRounds
  rounds_exist = ((run e).1, ((run e).0, own_solves w))

  pub rounds_unique : (r q : ℕ) → FileRounds e r → FileRounds e q → r ≡ q
  rounds_unique r q o p = own_rounds w r o ∙ sym (own_rounds w q p)

  -- Condition 14 holds exactly if they exceed the limit.
  pub exceeds_iff : (r : ℕ) → FileRounds e r → (limit : ℕ) → solve_exceeds e limit ≡ true ↔ limit < r
  unfolding solve_exceeds
  exceeds_iff r o limit = rw (own_rounds w r o) (ltb-true limit (run e).1, lt-ltb limit (run e).1)

-- ---- demand 1: any bytes, any lent memory, any limit

-- The well-formed files are those of which neither 11 nor 12 holds.
pub formed_accepted : (e : List ℕ) → WellFormed e ↔ (bad_layout e ≡ false) × (bad_table e ≡ false)
formed_accepted = formed

-- Of whatever keeps the contract of solve:
module _ {e work marks : List ℕ} {limit : ℕ} {o : Outcome} {work' marks' : List ℕ} (a : Answered e work marks limit o work' marks') where
  -- One answer: the report of a set and of rounds, or the number of one of its conditions, with zeros for verdict, count and rounds.
  pub one_answer : ((v : States) × (r : ℕ) × (o ≡ report_of (sizes_of e).initial v r))
      ⊎ ((k : ℕ) × Memᴰ k (numbers_of (solve_conditions e (length work) (length marks) limit)) × (o ≡ refused k))
  unfolding solve_refusal report
  one_answer = by_cases (ℕ_discrete o.refusal 0)
      (λ g. inl ((run e).0 0, (run e).1, answered_report a g))
      (λ d. inr (_, answered_member _ (answered_number a) d, answered_refusal a d))

  -- The number of the first condition that holds is answered, and no other;
  pub first_condition : (k : ℕ) → ¬ (k ≡ 0) → o.refusal ≡ k ↔ FirstHolds (solve_conditions e (length work) (length marks) limit) k
  unfolding solve_refusal
  first_condition = answered_first _ (answered_number a)

  -- a report says that none holds.
  pub no_condition : GivesMarks o ↔ NoneHolds (solve_conditions e (length work) (length marks) limit)
  unfolding solve_refusal solve_conditions every
  no_condition = answered_none (solve_conditions e (length work) (length marks) limit) (answered_number a) tt

  -- A refusal leaves the marks as they were, and any but 14 the working bytes; 14 leaves each of the c working bytes 0 or 1, and the bytes behind.
  pub refused_unchanged : ¬ GivesMarks o → (marks' ≡ marks) × (¬ Spent o → work' ≡ work) × (Spent o → Scratch (sizes_of e).cells work work')
  refused_unchanged d =
      let n : ¬ (solve_refusal e (length work) (length marks) limit ≡ 0) = λ z. d (answered_number a ∙ z) in
      (a.marks_are ∙ marks_kept e (length work) marks limit n, λ s. a.work_is s ∙ work_kept e work (length marks) limit n, a.work_14)

  -- Only a well-formed file with enough lent memory gives marks.
  pub gives_only : GivesMarks o → WellFormed e × SolveEnough e (length work) (length marks)
  gives_only g = ((is_0 e (length work) (length marks) limit).0 (sym (answered_number a) ∙ g)).0

  -- The count is the sum of the ones of the set's words in the marks, and the number of states below n whose bit is 1.
  pub count_ones : GivesMarks o → (o.count ≡ ones_of (take word_count marks')) × (o.count ≡ marked_below marks' (sizes_of e).states)
  unfolding report
  count_ones g =
      let w = (gives_only g).0 in
      rw (answered_report a g) (marks_size (layout_facts e w.layout).counts.few_states (shows ((run e).0 0) marks marks' (answered_marks a g) (own_sized w 0)))

  -- ---- demand 2, the solver's half

  -- With enough lent memory a well-formed file gives marks exactly if its own rounds are at most the limit,
  pub gives_iff : WellFormed e → SolveEnough e (length work) (length marks) → (r : ℕ) → FileRounds e r → GivesMarks o ↔ r ≤ limit
  gives_iff w m r o =
      let x = is_0 e (length work) (length marks) limit in
      rw (answered_number a, own_rounds w r o) (λ z. (x.0 z).1, λ h. x.1 ((w, m), h))

  -- and is spent exactly if they exceed it.
  pub spent_iff : WellFormed e → SolveEnough e (length work) (length marks) → (r : ℕ) → FileRounds e r → Spent o ↔ limit < r
  spent_iff w m r o =
      let x = is_14 e (length work) (length marks) limit in
      rw (answered_number a, own_rounds w r o) (λ z. (x.0 z).1, λ h. x.1 ((w, m), h))

-- Let a call keep the contract of solve on a well-formed file, with enough lent memory. Let r be the file's own rounds, σ the standard solution
-- of its blocks, from whatever start, and vs the values of its cells under σ.
-- If r is at most the limit, the call reports verdict and count of the first block's set, and r; the marks are those of that set, with no bit from
-- n up and the words behind as lent; the working bytes are the cells' values, with the bytes behind as lent.
-- Otherwise it refuses with 14, the marks are as lent, each of the c working bytes is 0 or 1, and the bytes behind are as lent.
pub solve_correct : {e work marks : List ℕ} {limit : ℕ} {o : Outcome} {work' marks' : List ℕ} → Answered e work marks limit o work' marks'
    → WellFormed e → SolveEnough e (length work) (length marks)
    → (r : ℕ) → FileRounds e r
    → (ρ σ : Valuation) → Sized (sizes_of e).states ρ → StandardSolution e ρ σ
    → (vs : List Bool) → Values (cells e) σ vs
    → (r ≤ limit → (o ≡ report_of (sizes_of e).initial (σ 0) r) × Marks (sizes_of e).states (σ 0) marks marks' × (work' ≡ map bit vs ++ drop (sizes_of e).cells work))
    × (limit < r → (o ≡ refused 14) × (marks' ≡ marks) × Scratch (sizes_of e).cells work work')
unfolding report
solve_correct {marks = marks} {o = said} {marks' = marks'} a w m r o ρ σ start s vs v = (
  λ h.
      let g = (gives_iff a w m r o).1 h in
      let first = own_first w ρ σ start s in (
        rw (first, own_rounds w r o) (answered_report a g),
        shows (σ 0) marks marks' (rw first (answered_marks a g)) (ap length first ∙ own_sized w 0),
        rw (own_values w ρ σ start s vs v) (answered_work a g),
      ),
  λ h.
      let z = (spent_iff a w m r o).1 h in
      let d : ¬ GivesMarks said = λ g. omega arith in
      (answered_refusal a d ∙ ap refused z, (refused_unchanged a d).0, (refused_unchanged a d).2 z),
)

-- A run that gives marks, and another on the same file at a limit no less and with enough lent memory: the other one reports the same, and its
-- marks and working bytes are the same, with what is behind them as lent.
pub larger : {e work marks : List ℕ} {limit : ℕ} {o : Outcome} {work' marks' : List ℕ} → Answered e work marks limit o work' marks' → GivesMarks o
    → {work₂ marks₂ : List ℕ} {more : ℕ} {o₂ : Outcome} {work₂' marks₂' : List ℕ} → Answered e work₂ marks₂ more o₂ work₂' marks₂'
    → SolveEnough e (length work₂) (length marks₂) → limit ≤ more
    → (o₂ ≡ o) × (marks₂' ≡ take word_count marks' ++ drop word_count marks₂) × (work₂' ≡ take (sizes_of e).cells work' ++ drop (sizes_of e).cells work₂)
larger {e} {work} {marks} {limit} a g {work₂} {marks₂} {more} b m h =
    let ((w, m₁), low) = (is_0 e (length work) (length marks) limit).0 (sym (answered_number a) ∙ g) in
    let g₂ = answered_number b ∙ (is_0 e (length work₂) (length marks₂) more).1 ((w, m), omega arith) in
    let vs = evaluate (cells e) (run e).0 in
    let long : length (map bit vs) ≡ (sizes_of e).cells = length-map vs bit ∙ (evaluate_values (cells e) (ordered e w) (run e).0).sized ∙ length_cells e in (
      answered_report b g₂ ∙ sym (answered_report a g),
      answered_marks b g₂ ∙ ap (λ (ws : List ℕ). ws ++ drop word_count marks₂) (sym (ap (take word_count) (answered_marks a g) ∙ take_words word_count ((run e).0 0) _)),
      rw (answered_work a g, ← long, take-append_seam) (rw long (answered_work b g₂)),
    )

-- A limit of m + m ^ 2 + .. + m ^ d, for d blocks and m = n + 1, is never spent.
pub never_spent : {e work marks : List ℕ} {limit : ℕ} {o : Outcome} {work' marks' : List ℕ} → Answered e work marks limit o work' marks'
    → powers (suc (sizes_of e).states) (sizes_of e).blocks ≤ limit → ¬ Spent o
never_spent {e} {work} {marks} {limit} a h s =
    let low = ((is_14 e (length work) (length marks) limit).0 (sym (answered_number a) ∙ s)).1 in
    omega (arith, own_bound e)
