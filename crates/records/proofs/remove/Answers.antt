use mathlib.Core.Path.{ap, ◌∙◌}
use Prim.Native.Nat.{◌+◌, ◌-◌, ◌*◌}
use native.Mathlib.Omega.{arith}
use borrow.Author.Rules.{rules}
use Rattle.cases.specs.declared.Transition.{Transition}
use Rattle.records.specs.Replaced.{record_bytes}
use Rattle.records.specs.internal.Writing.{over}
use Rattle.records.proofs.Files.{within_behind, within_bytes, within_lies, removed}
use Rattle.records.proofs.remove.Goals as goal

pub put_head-requires : goal.put_head-requires
put_head-requires c =
    let p = within_lies c.args.bytes.now c.requires.0 in
    let l = c.requires.0 in
    (omega arith, l.counts, l.transitions, omega (arith, l.counts.few_transitions))

pub returns : goal.returns
returns c =
    let m = c.args.bytes.now in
    let p = within_lies c.args.bytes.now c.requires.0 in
    c.put_head.ensures
    ∙ removed c.requires.0 m _ (within_behind m) (within_bytes m (search rules)) c.args.i (c.args.h.transitions - 1) (omega (arith, c.requires.1)) (omega (arith, c.requires.1))
    (c.put_record.ensures ∙ ap (λ (t : Transition). over m (c.args.h.transitions_at + 6 * c.args.i) (record_bytes t)) c.at-last.ensures) (omega arith) c.copy_within.ensures.after
