-- What the evaluator answers at a constant, a variable, an and or an or, a box or a diamond, from the answers at its operands.
use mathlib.Core.Path.{◌≡◌, sym, ap, ◌∙◌}
use mathlib.Core.Bool.{Bool, true, false}
use mathlib.Core.List.{List, [], map}
use Prim.Native.Nat.{ℕ, ◌+◌, ◌<◌, ◌≤◌}
use native.Mathlib.Omega.{arith}
use lib.ListN.{length, get_or}
use Rattle.sets.specs.States.{States, start, Valuation}
use Rattle.sets.specs.Words.{words, word_count}
use Rattle.cases.specs.Action.{Action}
use Rattle.cases.specs.declared.Node.{Node}
use Rattle.cases.specs.declared.Transition.{Transition}
use Rattle.cases.specs.File.{node_in}
use Rattle.cases.specs.Prefix.{arity_in, formula_arities, end_of, formula_at}
use Rattle.cases.specs.Conditions.{node_at}
use Rattle.cases.specs.internal.Masks.{mask_of}
use Rattle.cases.specs.Meaning.{set_of, intersection, union, box_in, diamond_in}
use Rattle.cases.proofs.Spans.{end_leaf, end_one, end_two, second_node, second_inside}
use Rattle.routes.specs.Direct.{FromTwo, FromOne, Direct}
use Rattle.routes.specs.internal.Evaluating.{Finds, nodes_of, transitions_of, Shown, Asks, Completed, Exceeded}
use Rattle.routes.specs.declared.evaluate.Value.{Value}
use Rattle.routes.specs.declared.evaluator.Evaluator.{Evaluator}
use Rattle.routes.proofs.DirectLaws.{direct_sized}
use Rattle.routes.proofs.TableLaws.{modal_arg}
use Rattle.routes.proofs.NodeLaws.{whole, in_arities, node_read, asks, operand, arity, ruled, Binder, binder_of, block_of}

-- a value
abbrev value : List ℕ → ℕ → ℕ → Value
value set next rounds = record { set = set; next = next; rounds = rounds }

module _ {ev : Evaluator} {at used : ℕ} (q : Asks ev at used) where
  abbrev n : ℕ
  n = ev.case.header.states

  abbrev ts : List Transition
  ts = transitions_of ev

  abbrev t : List Node
  t = nodes_of ev

  abbrev ks : List ℕ
  ks = map (arity_in formula_arities) t

  -- the rule of a formula of the table
  abbrev Works : (ℕ → Action) → Valuation → ℕ → States → ℕ → Type 0
  Works action ρ i = Direct n ts (formula_at action t i) ρ

  -- ---- no operand
  module _ {rows : List (List ℕ)} where
    -- the set is the rule's, and no round is taken
    leaf_done : get_or ks at 0 ≡ 0 → {set : List ℕ}
        → ((action : ℕ → Action) (ρ : Valuation) (v : States) (r : ℕ) → Shown n t rows ρ → Works action ρ at v r → (set ≡ words word_count v) × (r ≡ 0))
        → Completed ev rows at used (value set (at + 1) used)
    leaf_done none is = record {
      low = omega arith;
      high = q.within;
      ends = sym (end_leaf ks at (in_arities q) none);
      right = λ action ρ v r d. let x = is action ρ v r d.1 d.2 in (omega (arith, x.1), x.0);
    }

    -- false, true
    pub false_done : (node_at t at).kind ≡ 0 → {set : List ℕ} → set ≡ words word_count (start n false) → Completed ev rows at used (value set (at + 1) used)
    unfolding Direct
    false_done k e =
        leaf_done (arity q k) (λ action ρ v r s d. let x = ruled q k action ρ v r d in (e ∙ ap (words word_count) (sym x.0), x.1))

    pub true_done : (node_at t at).kind ≡ 1 → {set : List ℕ} → set ≡ words word_count (start n true) → Completed ev rows at used (value set (at + 1) used)
    unfolding Direct
    true_done k e =
        leaf_done (arity q k) (λ action ρ v r s d. let x = ruled q k action ρ v r d in (e ∙ ap (words word_count) (sym x.0), x.1))

    -- a variable
    pub variable_done : {x : Node} → x ≡ node_in ev.case.formula.part.now at → (node_at t at).kind ≡ 6
        → {block : ℕ} → block ≡ get_or ev.blocks.now x.arg 0 → Completed ev rows at used (value (get_or rows block []) (at + 1) used)
    unfolding Direct
    variable_done {x} e k b = leaf_done (arity q k) λ action ρ v r s d.
        let y : (v ≡ ρ (node_at t at).arg) × (r ≡ 0) = ruled q k action ρ v r d in (
          ap (λ (m : ℕ). get_or rows m []) (block_of q binder b) ∙ s.row x.arg binder.inside binder.is
              ∙ ap (words word_count) (sym (y.0 ∙ ap (λ (z : Node). ρ z.arg) (node_read q e))),
          y.1,
        )
      where
        binder : Binder t x.arg
        binder = binder_of q e k

  -- ---- one operand: box, diamond

  -- the node has one, and its set is of the states with a property that an action and the operand's set decide
  pub record OneAt (p : Action → States → ℕ → Bool) : Type 0 where
    pub arity : get_or ks at 0 ≡ 1
    pub rule : (action : ℕ → Action) (ρ : Valuation) (v : States) (r : ℕ) → Works action ρ at v r
        → FromOne (Works action ρ (at + 1)) (λ x. set_of n (p (action (node_at t at).arg) x)) v r
    pub from : 4 ≤ (node_at t at).kind
    pub to : (node_at t at).kind ≤ 5

  pub box_at : (node_at t at).kind ≡ 4 → OneAt (box_in n ts)
  unfolding Direct
  box_at k = record { arity = arity q k; rule = λ action ρ v r. ruled q k action ρ v r; from = omega (arith, k); to = omega (arith, k) }

  pub diamond_at : (node_at t at).kind ≡ 5 → OneAt (diamond_in n ts)
  unfolding Direct
  diamond_at k = record { arity = arity q k; rule = λ action ρ v r. ruled q k action ρ v r; from = omega (arith, k); to = omega (arith, k) }

  module _ {p : Action → States → ℕ → Bool} (k : OneAt p) where
    -- the operand is evaluated next
    pub one_asked : Asks ev (at + 1) used
    one_asked = operand q (omega (arith, k.arity)) q.within

    -- the argument is an action node,
    action_inside : {x : Node} → x ≡ node_in ev.case.formula.part.now at → x.arg < ev.case.header.actions
    action_inside {x} e =
        let same = ap (λ (w : Node). w.kind) (node_read q e) in
        modal_arg ev.case.formula.part.now q.node e ev.case.header.actions ev.case.parts.formula_part (omega (arith, same, k.from)) (omega (arith, same, k.to))

    -- which has a mask
    pub mask_read : {x : Node} → x ≡ node_in ev.case.formula.part.now at → x.arg < length ev.masks.now
    mask_read e = omega (arith, action_inside e, ev.beside.masks_room)

    module _ {rows : List (List ℕ)} where
      -- it spends the rounds
      pub one_spent : Exceeded ev rows (at + 1) used → Exceeded ev rows at used
      one_spent first = record {
        over = λ action ρ v r d.
            let x = k.rule action ρ v r d.2 in
            first.over action ρ x.operand r (d.0, d.1, x.first);
      }

      -- or its set is there, and the states are found
      pub one_done : {one : Value} → Completed ev rows (at + 1) used one → {y : Node} → y ≡ node_in ev.case.formula.part.now at → {set : List ℕ}
          → Finds ev (get_or ev.masks.now y.arg 0) one.set p set → Completed ev rows at used (value set one.next one.rounds)
      one_done first {y} is {set} found = record {
        low = first.low;
        high = first.high;
        ends = first.ends ∙ sym (end_one ks at (in_arities q) k.arity);
        right = λ action ρ v r d.
            let x = k.rule action ρ v r d.2 in
            let z = first.right action ρ x.operand r (d.0, d.1, x.first) in
            let mask = ap (λ (w : Node). mask_of (action w.arg)) (sym (node_read q is)) in (
              z.0,
              found (action (node_at t at).arg) x.operand (d.0.mask y.arg (action_inside is) ∙ mask) (direct_sized n ts _ ρ d.1.sized x.operand r x.first) z.1
                  ∙ ap (words word_count) (sym x.set),
            );
      }

  -- ---- two operands: and, or

  -- the node has two, and its set is what an operation makes of theirs
  pub record TwoAt (op : States → States → States) : Type 0 where
    pub arity : get_or ks at 0 ≡ 2
    pub rule : (action : ℕ → Action) (ρ : Valuation) (v : States) (r : ℕ) → Works action ρ at v r
        → FromTwo (Works action ρ (at + 1)) (Works action ρ (end_of ks (at + 1))) op v r

  pub and_at : (node_at t at).kind ≡ 2 → TwoAt (intersection n)
  unfolding Direct
  and_at k = record { arity = arity q k; rule = λ action ρ v r. ruled q k action ρ v r }

  pub or_at : (node_at t at).kind ≡ 3 → TwoAt (union n)
  unfolding Direct
  or_at k = record { arity = arity q k; rule = λ action ρ v r. ruled q k action ρ v r }

  module _ {op : States → States → States} (k : TwoAt op) where
    -- the left operand is evaluated next
    pub left_asked : Asks ev (at + 1) used
    left_asked = operand q (omega (arith, k.arity)) q.within

    module _ {rows : List (List ℕ)} where
      -- it spends the rounds,
      pub left_spent : Exceeded ev rows (at + 1) used → Exceeded ev rows at used
      left_spent first = record {
        over = λ action ρ v r d.
            let x = k.rule action ρ v r d.2 in
            omega (arith, first.over action ρ x.left x.before (d.0, d.1, x.first), x.sum);
      }

      module _ {one : Value} (first : Completed ev rows (at + 1) used one) where
        -- or the right one is evaluated then,
        pub right_asked : Asks ev one.next one.rounds
        right_asked = asks q (rw first.ends (second_node 1 ks (whole q) at (in_arities q) k.arity)) first.high

        -- which stands after the left one
        pub right_after : at + 1 < one.next
        right_after = omega (arith, first.ends, (second_inside 1 ks (whole q) at (in_arities q) k.arity).0)

        -- and is the formula's right operand.
        right_rule : (action : ℕ → Action) (ρ : Valuation) (v : States) (r : ℕ) → Works action ρ (end_of ks (at + 1)) v r → Works action ρ one.next v r
        right_rule action ρ v r d = rw first.ends d

        -- It spends them,
        pub right_spent : Exceeded ev rows one.next one.rounds → Exceeded ev rows at used
        right_spent second = record {
          over = λ action ρ v r d.
              let x = k.rule action ρ v r d.2 in
              omega (
                arith,
                (first.right action ρ x.left x.before (d.0, d.1, x.first)).0,
                second.over action ρ x.right x.after (d.0, d.1, right_rule action ρ x.right x.after x.second),
                x.sum,
              );
        }

        -- or both sets are there, and the operation is done on their words.
        pub two_done : {two : Value} → Completed ev rows one.next one.rounds two → {set : List ℕ}
            → ((v w : States) → length v ≡ n → length w ≡ n → one.set ≡ words word_count v → two.set ≡ words word_count w → set ≡ words word_count (op v w))
            → Completed ev rows at used (value set two.next two.rounds)
        two_done second {set} both = record {
          low = omega (arith, first.low, second.low);
          high = second.high;
          ends = second.ends ∙ ap (end_of ks) first.ends ∙ sym (end_two ks at (in_arities q) k.arity);
          right = λ action ρ v r d.
              let x = k.rule action ρ v r d.2 in
              let y = first.right action ρ x.left x.before (d.0, d.1, x.first) in
              let z = second.right action ρ x.right x.after (d.0, d.1, right_rule action ρ x.right x.after x.second) in (
                omega (arith, y.0, z.0, x.sum),
                both x.left x.right (direct_sized n ts _ ρ d.1.sized x.left x.before x.first)
                    (direct_sized n ts _ ρ d.1.sized x.right x.after x.second) y.1 z.1
                    ∙ ap (words word_count) (sym x.set),
              );
        }
