use Prim.Native.Nat.{◌≤◌}
use Rattle.translate.specs.internal.Parts.{Wrote, target_cells, leaving}
use Rattle.translate.proofs.steps.Steps.write_targets.Given as goal

abbrev pub invariant-loop-j : goal.invariant-loop-j
invariant-loop-j l = (l.j ≤ l.self.records.table.count) × Wrote (target_cells l.base (leaving l.self.records.table.part.now l.self.records.first.now l.self.state l.self.labels l.j)) l.initial.w l.w
