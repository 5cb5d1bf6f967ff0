use native.Mathlib.Omega.{arith}
use Rattle.std.proofs.Common.{rules, tests}
use Rattle.std.proofs.lemmas.Iterator.{YieldsList-from_range}
use Rattle.std.proofs.lemmas.Iterator.Search.{all_from_yields_List}
use Rattle.cases.specs.Conditions.{bound_ok}
use Rattle.cases.specs.internal.Checks.{nodes_in}
use Rattle.cases.proofs.Checking.{all_places}
use Rattle.cases.proofs.FormulaRules.{bound_decides}
use Rattle.cases.proofs.conditions.bad_variable.Goals as goal

pub returns : goal.returns
returns c =
    let s = c.args.nodes.now in
    bound_decides _ _ _ (all_places (bound_ok (nodes_in s.part.now s.count)) s.count
    (all_from_yields_List (bound_ok (nodes_in s.part.now s.count)) _ _ c.all.result c.all.ensures.ran (YieldsList-from_range 0 s.count s.count (cc) (omega arith)) (λ x b q k. search (rules, tests))))
