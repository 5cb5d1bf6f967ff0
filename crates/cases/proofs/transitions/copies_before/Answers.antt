use native.Mathlib.Omega.{arith}
use borrow.Author.Rules.{rules}
use borrow.Author.Tests.{tests}
use mathlib.Core.Path.{◌≡◌, sym, ◌∙◌}
use Rattle.cases.specs.File.{transition_in}
use Rattle.cases.specs.Case.{same_transition}
use Rattle.cases.specs.internal.Checks.{transitions_in}
use Rattle.cases.proofs.Copies.{walk_start, walk_next, walk_end}
use Rattle.cases.proofs.LinkLaws.{first_skips, next_skips}
use Rattle.cases.proofs.transitions.copies_before.Goals as goal
use Rattle.cases.proofs.transitions.copies_before.Goals.{then-eq, else-eq}

pub loop-j-init : goal.loop-j-init
loop-j-init c = walk_start _ _ _ (first_skips c.requires.0 c.requires.1 _ c.at-own.ensures)

pub loop-j-smaller : goal.loop-j-smaller
loop-j-smaller c =
    let next = next_skips c.requires.0 c.requires.1 c.loop-j.invariant c.loop-j-test.true in
    omega (arith, next.from, next.within)

pub loop-j-preserved : goal.loop-j-preserved
unfolding same_transition
loop-j-preserved c =
    let l = c.loop-j in
    let part = c.args.table.now.part.now in
    let next = next_skips c.requires.0 c.requires.1 l.invariant c.loop-j-test.true in
    let same : c.eq.result ≡ same_transition (transition_in part l.j) (transition_in part c.args.i) = search (rules, tests) in
    elim c.if-eq.branch [
      | then-eq w ↦ walk_next _ l.invariant c.loop-j-test.true next (sym w.if-eq.true ∙ same) (omega arith) (omega arith)
      | else-eq w ↦ walk_next _ l.invariant c.loop-j-test.true next (sym w.if-eq.false ∙ same) (omega arith) (omega arith)
    ]

pub returns : goal.returns
unfolding transitions_in
returns c = walk_end _ _ _ _ _ c.requires.1 c.loop-j.invariant c.loop-j-test.false
