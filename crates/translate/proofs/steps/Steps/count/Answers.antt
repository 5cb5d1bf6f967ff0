use mathlib.Core.Path.{◌∙◌}
use native.Mathlib.Omega.{arith}
use Rattle.std.proofs.Common.{rules, tests}
use Rattle.std.proofs.lemmas.Iterator.{YieldsList-from_range}
use Rattle.std.proofs.lemmas.Iterator.Consumers.{YieldsList-from_filter, count_from_yields_List}
use Rattle.std.specs.List.{range_with_len}
use Rattle.std.proofs.lemmas.List.Sums.{length-filter}
use Rattle.translate.specs.internal.Flags.{follows}
use Rattle.translate.proofs.ShapeLaws.{degree_counted, degree_few}
use Rattle.translate.proofs.steps.Steps.count.Goals as goal

pub returns : goal.returns
returns c =
    let e = c.args.self.now in
    let m = e.records.table.count in
    let counted =
    count_from_yields_List c.filter.result c.count.result c.count.ensures.ran
    (YieldsList-from_filter _ (follows e) (YieldsList-from_range 0 m m (cc) (omega arith)) c.filter.ensures.closure (λ x b q k. search (rules, tests)))
    ∙ length-filter (follows e) (range_with_len 0 m) ∙ degree_counted e.records.table.part.now e.records.first.now e.state e.labels m in
    (counted, omega (arith, counted, degree_few e.records.table.part.now e.records.first.now e.state e.labels m))
