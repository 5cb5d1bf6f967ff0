use mathlib.Core.Path.{ap}
use Prim.Native.Nat.{◌<◌}
use native.Mathlib.Omega.{arith}
use lib.ListN.{length}
use Rattle.cases.specs.File.{Transition}
use Rattle.cases.specs.internal.Search.{target_in}
use Rattle.cases.proofs.Searching.{next_first, next_after, widen_none, widen_next, widen_all, grown_none, grown_twice}
use Rattle.cases.proofs.reach.Search.find_targets.Goals as goal

pub loop-j-init : goal.loop-j-init
loop-j-init c =
    let (linked, v, found, below, inside) = c.requires in
    let n = next_first linked (omega (arith, inside, found.few)) in
    (n.source, λ v f low. (v, f, grown_none, widen_none v n))

pub find-requires : goal.find-requires
find-requires c =
    let (linked, v, found, below, inside) = c.requires in
    let (w, found', grown, wide) = c.loop-j.invariant.1 v found below in
    (w, found', omega (arith, ap (λ (t : Transition). t.target) c.at-t.ensures, below c.loop-j.j c.loop-j-test.true, inside, wide.sized))

pub loop-j-smaller : goal.loop-j-smaller
loop-j-smaller c =
    let n = next_after c.requires.0 c.loop-j-test.true (c.loop-j.invariant.0 c.loop-j-test.true) in
    omega (arith, n.from, c.loop-j-test.true, c.requires.0.sourced.few)

pub loop-j-preserved : goal.loop-j-preserved
loop-j-preserved c =
    let (own, keeps) = c.loop-j.invariant in
    let n = next_after c.requires.0 c.loop-j-test.true (own c.loop-j-test.true) in
    let finds = rw c.at-t.ensures at c.find.ensures in (
      n.source,
      λ v f below.
          let (w, found, grown, wide) = keeps v f below in
          let low : target_in c.args.table.now.part.now c.loop-j.j < length w = omega (arith, below c.loop-j.j c.loop-j-test.true, wide.sized) in
          let (found', more) = finds w found low in
          (_, found', grown_twice grown more, widen_next wide c.loop-j-test.true (own c.loop-j-test.true) low n),
    )

pub returns : goal.returns
returns c v f below =
    let (w, found, grown, wide) = c.loop-j.invariant.1 v f below in
    (w, found, grown, widen_all wide c.loop-j-test.false)
