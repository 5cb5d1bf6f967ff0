use mathlib.Core.Path.{◌≡◌}
use mathlib.Core.List.{map}
use Prim.Native.Nat.{ℕ, ◌+◌, ◌*◌, ◌≤◌}
use lib.ListN.{length}
use Rattle.sets.specs.Lists.{numbers_from}
use Rattle.translate.specs.internal.Writing.{shape_cell}
use Rattle.cases.specs.File.{transition_limit}
use Rattle.translate.specs.internal.Parts.{WroteCells}
use Rattle.translate.specs.internal.Flags.{distinct_of}
use Rattle.translate.proofs.sources.Equations.write_cells.Given as goal

abbrev pub invariant-loop-s : goal.invariant-loop-s
invariant-loop-s l = (l.s ≤ l.self.states) × ((i : ℕ) → WroteCells l.used (map (shape_cell l.self.states (distinct_of l.self.records) l.x i) (numbers_from 0 l.s)) l.initial.w l.w l.next)
    × (l.next ≤ l.used + (transition_limit + 2) * l.s) × (l.w.done ≡ l.initial.w.done + 3 * l.s) × (length l.w.out.now ≡ length l.initial.w.out.now)
