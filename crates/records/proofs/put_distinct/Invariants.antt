use mathlib.Core.Path.{◌≡◌}
use Prim.Native.Nat.{◌≤◌}
use lib.ListN.{length}
use Rattle.records.specs.internal.Writing.{RecordsWritten}
use Rattle.records.proofs.Writing.{firsts}
use Rattle.records.proofs.put_distinct.Given as goal

abbrev pub invariant-loop-i : goal.invariant-loop-i
invariant-loop-i l = record {
  long : length l.out ≡ length l.initial.out;
  few : l.k ≤ l.i;
  wrote : RecordsWritten (firsts l.flagged.table.part.now l.flagged.table.count l.i) l.initial.out l.out l.k;
}
