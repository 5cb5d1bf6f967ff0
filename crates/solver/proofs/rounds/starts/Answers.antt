use mathlib.Core.Path.{◌∙◌}
use native.Mathlib.Omega.{arith}
use lib.ListN.{length-set}
use Rattle.solver.proofs.Reading.{few_blocks}
use Rattle.solver.proofs.Runs.{none_started, more_started}
use Rattle.solver.proofs.rounds.starts.Goals as goal

pub loop-k-init : goal.loop-k-init
loop-k-init c = (omega arith, omega arith, omega arith, none_started _ (c.empty-sets.ensures _))

pub loop-k-preserved : goal.loop-k-preserved
loop-k-preserved c =
    let i = c.loop-k.invariant in
    (omega arith, i.1, length-set c.loop-k.sets _ _ ∙ i.2, more_started _ i.3 (rw i.2 (few_blocks c.args.file.now.opens (omega arith))) c.start_of.ensures)
