use mathlib.Core.Path.{refl, ◌∙◌}
use Prim.Native.Nat.{◌+◌, ◌≤◌}
use native.Mathlib.Omega.{arith}
use Rattle.std.proofs.Common.{rules, tests}
use Rattle.std.proofs.lemmas.Iterator.{YieldsList-from_range}
use Rattle.std.proofs.lemmas.Iterator.Search.{all_from_yields_List}
use Rattle.solver.specs.File.{sizes_of, operands, list_of}
use Rattle.solver.specs.Conditions.{operand_ok}
use Rattle.solver.proofs.Tables.{counted, operand_at, length_list, list_at}
use Rattle.sets.proofs.Ranges.{all_places}
use Rattle.solver.proofs.conditions.operands_hold.Goals as goal

pub returns : goal.returns
returns c =
    let t = c.args.tables.now in
    let e = t.bytes.now in
    let a = c.args.list in
    let room : a.first + a.count ≤ (sizes_of e).operands = omega (arith, c.requires, (counted t.read.sizes_are).operands) in
    all_from_yields_List (λ j. operand_ok e c.args.i (operand_at e (a.first + j))) _ _ _ c.all.ensures.ran (YieldsList-from_range 0 a.count a.count refl (omega arith)) (λ x b q k. search (rules, tests))
    ∙ all_places (operand_ok e c.args.i) (λ j. operand_at e (a.first + j)) (list_of (operands e) a.first a.count) a.count 0 (length_list e a.first a.count room) (list_at e a.first a.count room)
