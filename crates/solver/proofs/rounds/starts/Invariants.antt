use mathlib.Core.Path.{◌≡◌}
use Prim.Native.Nat.{◌≤◌}
use lib.ListN.{length}
use Rattle.solver.specs.File.{sizes_of, block_limit}
use Rattle.solver.specs.internal.Working.{HoldsRows, starting}
use Rattle.solver.proofs.rounds.starts.Given as goal

abbrev pub invariant-loop-k : goal.invariant-loop-k
invariant-loop-k l =
    let t = l.file.tables in
    (l.k ≤ t.sizes.blocks) × (l.k-end ≡ t.sizes.blocks) × (length l.sets ≡ block_limit) × HoldsRows (sizes_of t.bytes.now).states l.sets (starting t.bytes.now l.k)
