use mathlib.Core.Path.{◌∙◌}
use native.Mathlib.Omega.{arith}
use Rattle.std.proofs.Common.{rules, tests}
use Rattle.std.proofs.lemmas.Iterator.{YieldsList-from_range}
use Rattle.std.proofs.lemmas.Iterator.Consumers.{YieldsList-from_filter, count_from_yields_List}
use Rattle.cases.specs.File.{node_in}
use Rattle.cases.specs.Conditions.{is_binder}
use Rattle.cases.specs.internal.Checks.{nodes_in}
use Rattle.cases.proofs.FormulaRules.{binders_counted}
use Rattle.cases.proofs.conditions.Nodes.binders.Goals as goal

pub returns-clause-count : goal.returns-clause-count
unfolding nodes_in
returns-clause-count c =
    let s = c.args.self.now in
    let k = s.count in
    count_from_yields_List c.filter.result c.count.result c.count.ensures.ran
    (YieldsList-from_filter _ (λ i. is_binder (node_in s.part.now i)) (YieldsList-from_range 0 k k (cc) (omega arith)) c.filter.ensures.closure (λ x b q k. search (rules, tests)))
    ∙ binders_counted s.part.now k
