-- The number of blocks left falls. The loop's invariant: block k's loop is on its way, and the later blocks are held where they start.
use Prim.Native.Nat.{◌+◌, ◌-◌, ◌*◌, ◌<◌, ◌≤◌}
use mathlib.Core.Path.{◌≡◌}
use lib.ListN.{length}
use Rattle.solver.specs.File.{sizes_of, block_limit}
use Rattle.solver.specs.internal.Working.{Ready, Started}
use Rattle.solver.proofs.Turns.{Going}
use Rattle.solver.proofs.rounds.+round_solve_last.Given as goal

abbrev pub decreases-round : goal.decreases-round
decreases-round l = 2 * l.left

abbrev pub decreases-solve_last : goal.decreases-solve_last
decreases-solve_last l = 2 * l.left + 1

abbrev pub invariant-solve_last-loop-end : goal.invariant-solve_last-loop-end
invariant-solve_last-loop-end l =
    let t = l.file.tables in
    let e = t.bytes.now in
    (0 < l.left) × (l.left ≤ t.sizes.blocks) × (length l.sets ≡ block_limit) × (length l.initial.work ≡ (sizes_of e).cells)
    × Started e (t.sizes.blocks - l.left) l.sets
    × Ready e l.work
    × Going e l.sets (t.sizes.blocks - l.left) l.initial.budget l.s l.budget

abbrev pub decreases-solve_last-loop-end : goal.decreases-solve_last-loop-end
decreases-solve_last-loop-end l = l.budget
