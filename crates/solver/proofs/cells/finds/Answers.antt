use mathlib.Core.Path.{sym, ◌∙◌}
use Rattle.solver.proofs.Shown.{byte_is}
use Rattle.solver.proofs.Lookup.{operand_low, search_ends, hit, miss}
use Rattle.solver.proofs.cells.finds.Goals as goal

pub bounds-work-o : goal.bounds-work-o
bounds-work-o c = operand_low c.requires.0 c.requires.1 c.loop-j-test.true c.operand-o.ensures

pub returns-then-work-o : goal.returns-then-work-o
returns-then-work-o c = hit c.requires.0 c.requires.1 _ c.loop-j.invariant c.loop-j-test.true c.operand-o.ensures (c.if-work-o.true ∙ byte_is c.args.wanted c.from.ensures)

pub loop-j-preserved : goal.loop-j-preserved
loop-j-preserved c = miss c.requires.0 c.requires.1 _ c.loop-j.invariant c.loop-j-test.true c.operand-o.ensures (λ q. c.if-work-o.false (q ∙ sym (byte_is c.args.wanted c.from.ensures)))

pub returns : goal.returns
returns c = search_ends c.requires.0 c.requires.1 _ c.loop-j.invariant c.loop-j-test.false
