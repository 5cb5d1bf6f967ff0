use mathlib.Core.Path.{refl, ◌∙◌}
use native.Mathlib.Omega.{arith}
use Rattle.std.proofs.Common.{rules, tests}
use Rattle.std.proofs.lemmas.Iterator.{YieldsList-from_range}
use Rattle.std.proofs.lemmas.Iterator.Search.{all_from_yields_List}
use Rattle.solver.specs.Conditions.{block_ok}
use Rattle.solver.proofs.Tables.{counted}
use Rattle.sets.proofs.Ranges.{all_below}
use Rattle.solver.proofs.conditions.blocks_hold.Goals as goal

pub returns : goal.returns
returns c =
    let t = c.args.tables.now in
    let n = t.sizes.blocks in
    rw (← (counted t.read.sizes_are).blocks)
    (all_from_yields_List (block_ok t.bytes.now) _ _ _ c.all.ensures.ran (YieldsList-from_range 0 n n refl (omega arith)) (λ x b q k. search (rules, tests)) ∙ all_below (block_ok t.bytes.now) n)
