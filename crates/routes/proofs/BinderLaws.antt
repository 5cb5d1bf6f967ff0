-- What the evaluator's loop at a mu or a nu holds at its head, and what it answers where it ends.
use mathlib.Core.Path.{◌≡◌, refl, sym, ap, ◌∙◌}
use mathlib.Core.Bool.{true, false, ◌||◌}
use mathlib.Core.List.{List, [], map}
use Prim.Native.Nat.{ℕ, ◌+◌, ◌-◌, ◌<◌, ◌≤◌}
use native.Mathlib.Omega.{arith}
use native.Mathlib.Decide.{dec_lt, ℕ_discrete}
use borrow.Author.Tests.{eq-eqb, ne_eqb}
use lib.Dec.{eqb}
use lib.ListN.{length, get_or, set, take, get_or-eq_default}
use lib.Seq.{get_or-set_same, get_or-set_other, set-set}
use Rattle.sets.specs.States.{States, start, Valuation, update}
use Rattle.sets.specs.Loop.{Step, Loop, itself}
use Rattle.sets.specs.Words.{words, word_count}
use Rattle.sets.proofs.Turns.{Left, turn, stops_here, goes_on}
use Rattle.sets.proofs.Words.{words_length, words_inj}
use Rattle.sets.proofs.Valuation.{update_sized}
use Rattle.cases.specs.Action.{Action}
use Rattle.cases.specs.declared.Node.{Node}
use Rattle.cases.specs.declared.Transition.{Transition}
use Rattle.cases.specs.Prefix.{arity_in, formula_arities, formula_at}
use Rattle.cases.specs.Conditions.{node_at, is_binder, binder_count}
use Rattle.cases.proofs.Spans.{end_one}
use Rattle.routes.specs.Direct.{Direct}
use Rattle.cases.specs.internal.Masks.{ActionMasks}
use Rattle.routes.specs.internal.Evaluating.{nodes_of, transitions_of, Shown, Asks, LoopStart, Completed, Exceeded}
use Rattle.routes.specs.declared.evaluate.Value.{Value}
use Rattle.routes.specs.declared.evaluator.Evaluator.{Evaluator}
use Rattle.routes.proofs.DirectLaws.{direct_sized}
use Rattle.routes.proofs.NodeLaws.{Binder, apart, by_sign, inside, in_arities, operand, block_of, arity, ruled}

-- a row that is the words of a set is one of the rows
row_inside : (rows : List (List ℕ)) (k : ℕ) (v : States) → get_or rows k [] ≡ words word_count v → k < length rows
row_inside rows k v e = go (dec_lt k (length rows))
  where
    go : Dec (k < length rows) → k < length rows
    go (yes l) = l
    go (no l) =
        let none : get_or rows k [] ≡ [] = get_or-eq_default rows [] {n = k} (omega (arith, l)) in
        omega (arith, ap length (sym none ∙ e), words_length word_count v)

-- the rows show the valuation with v for binder i if the words of v are put into i's row
shown_update : {n : ℕ} {t : List Node} {rows : List (List ℕ)} {ρ : Valuation} → Shown n t rows ρ → (i : ℕ) → Binder t i
    → {k : ℕ} → k ≡ binder_count (take i t) → (v : States) {held : List ℕ} → length v ≡ n → held ≡ words word_count v
    → Shown n t (set rows k held) (update ρ i v)
unfolding update
shown_update {n} {t} {rows} {ρ} s i b {k} e v {held} z w =
    record { sized = update_sized ρ i v s.sized z; row = λ j h is. go j h is (ℕ_discrete j i) }
  where
    go : (j : ℕ) → j < length t → is_binder (node_at t j) ≡ true → Dec (j ≡ i)
        → get_or (set rows k held) (binder_count (take j t)) [] ≡ words word_count (update ρ i v j)
    go j h is (yes p) =
        rw (eq-eqb j i p, p, ← e, get_or-set_same rows k held [] (row_inside rows k (ρ i) (rw e (s.row i b.inside b.is)))) w
    go j h is (no p) =
        rw (ne_eqb j i p, get_or-set_other rows k (binder_count (take j t)) held [] (λ x. p (apart t j i (record { inside = h; is = is }) b (x ∙ e))))
        (s.row j h is)

-- one turn of the loop of binder `at`: its body is worked out
abbrev body : Evaluator → ℕ → (ℕ → Action) → Valuation → Step States
body ev at action ρ = itself λ u. Direct ev.case.header.states (transitions_of ev) (formula_at action (nodes_of ev) (at + 1)) (update ρ at u)

-- words that hold a set of n states
abbrev pub Holding : ℕ → List ℕ → States → Type 0
Holding n held v = (length v ≡ n) × (held ≡ words word_count v)

-- At the loop's head, with the words `held` after `before` rounds: what is left of the binder's run. The inner rows are the rows but for its own.
pub record Going (ev : Evaluator) (rows : List (List ℕ)) (at used block : ℕ) (held : List ℕ) (before : ℕ) (inner : List (List ℕ)) : Type 0 where
  pub others : (row : List ℕ) → set inner block row ≡ set rows block row
  pub low : used ≤ before
  pub high : before ≤ ev.limit
  pub left : (action : ℕ → Action) (ρ : Valuation) (v : States) (r : ℕ)
      → ActionMasks action ev.case.header.actions ev.masks.now → Shown ev.case.header.states (nodes_of ev) rows ρ
      → Loop (body ev at action ρ) (start ev.case.header.states (eqb (node_at (nodes_of ev) at).kind 8)) v r
      → Left (body ev at action ρ) (Holding ev.case.header.states held) v before (used + r)

-- where a mu and a nu start
pub mu_starts : {ev : Evaluator} {at : ℕ} {first : List ℕ} → (node_at (nodes_of ev) at).kind ≡ 7
    → first ≡ words word_count (start ev.case.header.states false) → LoopStart ev at first
mu_starts k e = record { from = omega (arith, k); to = omega (arith, k); set = rw k e }

pub nu_starts : {ev : Evaluator} {at : ℕ} {first : List ℕ} → (node_at (nodes_of ev) at).kind ≡ 8
    → first ≡ words word_count (start ev.case.header.states true) → LoopStart ev at first
nu_starts k e = record { from = omega (arith, k); to = omega (arith, k); set = rw k e }

module _ {ev : Evaluator} {at used : ℕ} (q : Asks ev at used)
    {first : List ℕ} (k : LoopStart ev at first) where
  abbrev n : ℕ
  n = ev.case.header.states

  abbrev ts : List Transition
  ts = transitions_of ev

  abbrev t : List Node
  t = nodes_of ev

  abbrev ks : List ℕ
  ks = map (arity_in formula_arities) t

  -- it has one operand
  one_operand : get_or ks at 0 ≡ 1
  one_operand = by_sign (λ m. (node_at t at).kind ≡ m → get_or ks at 0 ≡ 1) k.from k.to (arity q) (arity q) refl

  -- the node is a binder
  pub own_binder : Binder t at
  own_binder = record {
    inside = inside q;
    is = by_sign (λ m. (eqb m 7 || eqb m 8) ≡ true) k.from k.to refl refl;
  }

  -- its body is evaluated next
  pub binder_body : {before : ℕ} → before ≤ ev.limit → Asks ev (at + 1) before
  binder_body l = operand q (omega (arith, one_operand)) l

  -- its set is that where the loop over its body stops
  binder_rule : (action : ℕ → Action) (ρ : Valuation) (v : States) (r : ℕ) → Direct n ts (formula_at action t at) ρ v r
      → Loop (body ev at action ρ) (start n (eqb (node_at t at).kind 8)) v r
  unfolding Direct
  binder_rule action ρ v r =
      by_sign (λ m. (node_at t at).kind ≡ m → Direct n ts (formula_at action t at) ρ v r → Loop (body ev at action ρ) (start n (eqb m 8)) v r) k.from k.to
      (λ e. ruled q e action ρ v r) (λ e. ruled q e action ρ v r) refl

  module _ {block : ℕ} (b : block ≡ get_or ev.blocks.now at 0) {rows : List (List ℕ)} {held : List ℕ} {before : ℕ} {inner : List (List ℕ)}
      (g : Going ev rows at used block held before inner) where
    -- the rows of the turn show the set held
    shows : (action : ℕ → Action) (ρ : Valuation) {u : States} {total : ℕ} → Shown n t rows ρ
        → (l : Left (body ev at action ρ) (Holding n held) u before total) → Shown n t (set inner block held) (update ρ at l.now)
    shows action ρ s l =
        rw (g.others held) (shown_update s at own_binder (block_of q own_binder b) l.now l.known.0 l.known.1)

    -- the rounds are spent in the body,
    pub body_spent : Exceeded ev (set inner block held) (at + 1) before → Exceeded ev rows at used
    body_spent turned = record {
      over = λ action ρ v r d.
          let l = g.left action ρ v r d.0 d.1 (binder_rule action ρ v r d.2) in
          let x = turn l.run in
          omega (arith, turned.over action (update ρ at l.now) x.next x.took (d.0, shows action ρ d.1 l, x.step.1), x.less, l.sum);
    }

    module _ {one : Value} (turned : Completed ev (set inner block held) (at + 1) before one) where
      -- or none is left for this one,
      pub round_spent : ev.limit ≤ one.rounds → Exceeded ev rows at used
      round_spent m = record {
        over = λ action ρ v r d.
            let l = g.left action ρ v r d.0 d.1 (binder_rule action ρ v r d.2) in
            let x = turn l.run in
            omega (arith, (turned.right action (update ρ at l.now) x.next x.took (d.0, shows action ρ d.1 l, x.step.1)).0, x.less, l.sum);
      }

      -- or the body's set is there.
      found : (action : ℕ → Action) (ρ : Valuation) {u : States} {total : ℕ} → ActionMasks action ev.case.header.actions ev.masks.now → Shown n t rows ρ
          → (l : Left (body ev at action ρ) (Holding n held) u before total) (a w : States) (r : ℕ) → body ev at action ρ l.now a w r
          → (length w ≡ n) × (one.set ≡ words word_count w) × (r ≡ one.rounds - before)
      found action ρ m s l a w r d =
          let y = turned.right action (update ρ at l.now) w r (m, shows action ρ s l, d.1) in
          (direct_sized n ts _ (update ρ at l.now) (shows action ρ s l).sized w r d.1, y.1, omega (arith, y.0))

      -- sets with equal words are equal
      same : (v w : States) → length v ≡ n → length w ≡ n → words word_count v ≡ words word_count w → v ≡ w
      same v w y z = words_inj word_count v w (y ∙ sym z) (omega (arith, ev.case.parts.model.few_states))

      -- It is the set held: the loop stops.
      pub stopped : one.rounds < ev.limit → one.set ≡ held
          → Completed ev rows at used (record { set = one.set; next = one.next; rounds = one.rounds + 1 })
      stopped m is = record {
        low = omega (arith, g.low, turned.low);
        high = omega arith;
        ends = turned.ends ∙ sym (end_one ks at (in_arities q) one_operand);
        right = λ action ρ v r d.
            let l = g.left action ρ v r d.0 d.1 (binder_rule action ρ v r d.2) in
            let x = stops_here (λ a w c f.
            let y = found action ρ d.0 d.1 l a w c f in
            same w l.now y.0 l.known.0 (sym y.1 ∙ is ∙ l.known.1)) l.run in
            let y = found action ρ d.0 d.1 l v l.now x.took x.step in
            (omega (arith, y.2, x.sum, l.sum, turned.low), is ∙ l.known.1 ∙ ap (words word_count) (sym x.step.0));
      }

      -- It is another: the loop goes on from there.
      pub replaced : one.rounds < ev.limit → ¬ (one.set ≡ held)
          → Going ev rows at used block one.set (one.rounds + 1) (set inner block held)
      replaced m other = record {
        others = λ row. set-set inner block held row ∙ g.others row;
        low = omega (arith, g.low, turned.low);
        high = omega arith;
        left = λ action ρ v r masks s run.
            let l = g.left action ρ v r masks s run in
            let x = goes_on (λ a w c f p. other ((found action ρ masks s l a w c f).1 ∙ ap (words word_count) p ∙ sym l.known.1)) l.run in
            let y = found action ρ masks s l x.held x.next x.took x.step in
            record { now = x.next; known = (y.0, y.1); rest = x.rest; run = x.run; sum = omega (arith, y.2, x.sum, l.sum, turned.low) };
      }
