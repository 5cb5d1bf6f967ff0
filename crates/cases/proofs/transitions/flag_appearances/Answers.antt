use borrow.Author.Rules.{rules}
use borrow.Author.Tests.{tests}
use Prim.Native.Nat.{◌≤◌}
use mathlib.Core.Path.{refl, ◌∙◌}
use native.Mathlib.Omega.{arith}
use lib.ListN.{length-take}
use mathlib.Core.Bool.{cond}
use Rattle.std.proofs.lemmas.List.Sums.{count_by-le-length}
use Rattle.std.proofs.lemmas.Iterator.{YieldsList-from_slice, YieldsList-from_map}
use Rattle.std.proofs.lemmas.Iterator.Consumers.{sum_by_from_yields_List, fits_by_from_yields_list, YieldsList-at}
use Rattle.cases.proofs.FirstAppearances.{set_next, set_all, set_count}
use Rattle.cases.proofs.transitions.flag_appearances.Goals as goal

pub loop-i-init : goal.loop-i-init
loop-i-init c = record { long = simp length-take (omega arith); at = λ k h. absurd (omega arith) }

pub loop-i-preserved : goal.loop-i-preserved
loop-i-preserved c =
    let long = c.loop-i.invariant.long in
    set_next c.loop-i.invariant (omega (arith, c.loop-i-test.true, c.loop-i.auto.flags, long)) (rw c.copies_before.ensures refl)

pub sum-requires-clause-fits : goal.sum-requires-clause-fits
sum-requires-clause-fits c =
    let fs = c.loop-i.flags in
    fits_by_from_yields_list (λ b. cond b 1 0) fs c.map.result _
    (YieldsList-from_map _ (λ b. cond b 1 0) (YieldsList-at c.map.ensures.source (YieldsList-from_slice fs c.iter.ensures.rest)) c.map.ensures.closure λ x r q k. search (rules, tests))
    (omega (arith, count_by-le-length (λ b. b) fs, c.iter.ensures.bound, c.iter.ensures.len))

pub returns : goal.returns
returns c =
    let past : c.args.table.now.count ≤ c.loop-i.i = omega (arith, c.loop-i-test.false, c.loop-i.auto.flags, c.loop-i.invariant.long) in (
      set_all c.loop-i.invariant past _,
      sum_by_from_yields_List (λ b. cond b 1 0) c.loop-i.flags c.map.result c.sum.result c.sum.ensures.ran
          (YieldsList-from_map _ (λ b. cond b 1 0) (YieldsList-at c.map.ensures.source (YieldsList-from_slice c.loop-i.flags c.iter.ensures.rest)) c.map.ensures.closure λ x r q k. search (rules, tests))
          ∙ set_count c.loop-i.invariant past,
    )
