use mathlib.Core.Path.{sym, ap, ◌∙◌}
use Prim.Native.Nat.{ℕ}
use Rattle.sets.specs.States.{States}
use Rattle.sets.specs.Words.{words, word_count}
use Rattle.cases.specs.internal.Checks.{transitions_in}
use Rattle.routes.proofs.ModalLaws.{accepts_is, has_is, in_range, sources_of, sources_length, sources_none, sources_next}
use Rattle.routes.proofs.evaluator.Evaluator.diamond_set.Goals.{then-has_bit+then-test, else-has_bit, else-has_bit-via-then-has_bit+else-test, else-has_bit-via-else-has_bit}
use Rattle.routes.proofs.evaluator.Evaluator.diamond_set.Goals as goal

pub loop-i-init : goal.loop-i-init
loop-i-init c α v e l q =
    let d = c.args.self.now.case in c.empty-found.ensures d.header.states ∙ ap (words word_count) (sources_none d.header.states α v d.transitions.part.now)

pub has_bit-requires : goal.has_bit-requires
has_bit-requires c = (in_range c.args.self.now c.loop-i-test.true c.at-t.ensures).label

pub test-requires : goal.test-requires
test-requires c = (in_range c.args.self.now c.loop-i-test.true c.at-t.ensures).target

pub put-requires : goal.put-requires
put-requires c = (in_range c.args.self.now c.loop-i-test.true c.at-t.ensures).source

pub loop-i-preserved : goal.loop-i-preserved
loop-i-preserved c α v e l q =
    let d = c.args.self.now.case in
    let n : ℕ = d.header.states in
    let t = c.at-t.result in
    let r = in_range c.args.self.now c.loop-i-test.true c.at-t.ensures in
    let before : States = sources_of n α v (transitions_in d.transitions.part.now c.loop-i.i) in
    let known = c.loop-i.invariant α v e l q in
    let label = accepts_is α e r.label in
    let target = has_is v q r.target in
    rw (sources_next n α v d.transitions.part.now c.loop-i.i t c.at-t.ensures r.state)
    (elim c.if-has_bit.branch [
      | then-has_bit+then-test w ↦
          rw (w.found-is, label ∙ sym c.has_bit.ensures ∙ w.if-has_bit.true, target ∙ sym w.test.ensures ∙ w.if-test.true)
          (w.put.ensures before (rw (sources_length n α v (transitions_in d.transitions.part.now c.loop-i.i)) r.state) known)
      | else-has_bit w ↦ rw w.found-is (elim w.else-has_bit.branch [
        | else-has_bit-via-then-has_bit+else-test u ↦ rw (label ∙ sym c.has_bit.ensures ∙ u.if-has_bit.true, target ∙ sym u.test.ensures ∙ u.if-test.false) known
        | else-has_bit-via-else-has_bit u ↦ rw (label ∙ sym c.has_bit.ensures ∙ u.if-has_bit.false) known
      ])
    ])
