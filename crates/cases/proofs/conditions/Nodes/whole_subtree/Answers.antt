use mathlib.Core.Path.{◌≡◌, refl, sym, ◌∙◌}
use mathlib.Core.List.{map}
use lib.ListN.{length}
use Rattle.std.proofs.Common.{inl, inr}
use native.Mathlib.Omega.{arith}
use borrow.Author.Tests.{ne_eqb}
use Rattle.cases.specs.Prefix.{arity_in, formula_arities}
use Rattle.cases.specs.internal.Checks.{nodes_in}
use Rattle.cases.proofs.PrefixRules.{from_node, due_done, due_none, due_next, arities_length, ended}
use Rattle.cases.proofs.conditions.Nodes.whole_subtree.Goals as goal

pub loop-i-init : goal.loop-i-init
loop-i-init c =
    let s = c.args.self.now in
    rw (from_node formula_arities s.part.now s.count c.args.at) (record { few = omega arith; within = omega arith; past = inr refl; end = refl; whole = refl })

pub returns-then-due-eq0 : goal.returns-then-due-eq0
returns-then-due-eq0 c =
    let s = c.args.self.now in
    let n = due_none formula_arities s.part.now s.count c.loop-i.i _ c.if-due-eq0.true c.loop-i-test.true in
    let long : length (map (arity_in formula_arities) (nodes_in s.part.now s.count)) ≡ s.count = arities_length formula_arities s.part.now s.count in
    (c.loop-i.invariant.whole ∙ n.1 ∙ sym (ne_eqb _ _ (λ e. omega arith)), omega (arith, n.0, c.loop-i.invariant.end))

pub loop-i-preserved : goal.loop-i-preserved
loop-i-preserved c =
    let n = due_next formula_arities _ _ _ _ _ _ c.if-due-eq0.false c.loop-i-test.true c.at.ensures c.formula_arity.ensures.arity in
    record {
      few = omega arith;
      within = omega arith;
      past = inl (omega arith);
      end = omega (arith, c.loop-i.invariant.end, n.0);
      whole = c.loop-i.invariant.whole ∙ n.1;
    }

pub returns : goal.returns
returns c =
    let s = c.args.self.now in
    let v = c.loop-i.invariant in
    let n = due_done formula_arities s.part.now s.count c.loop-i.i c.loop-i.due c.loop-i-test.false in
    let long : length (map (arity_in formula_arities) (nodes_in s.part.now s.count)) ≡ s.count = arities_length formula_arities s.part.now s.count in
    rw c.then_some.ensures (ended (map (arity_in formula_arities) (nodes_in s.part.now s.count)) c.args.at c.loop-i.due s.count (v.whole ∙ n.1) (λ z. (omega arith, omega (arith, v.end, n.0, v.within, v.past))) (omega (arith, v.end, n.0, v.within)))
