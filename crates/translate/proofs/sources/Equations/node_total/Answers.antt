use mathlib.Core.Path.{◌∙◌}
use native.Mathlib.Omega.{arith}
use borrow.Author.Rules.{rules}
use Rattle.std.specs.List.{range_with_len}
use Rattle.std.proofs.lemmas.Iterator.{YieldsList-from_range, YieldsList-from_map}
use Rattle.std.proofs.lemmas.Iterator.Consumers.{sum_by_from_yields_List, fits_by_from_yields_list, YieldsList-at}
use Rattle.translate.specs.internal.Flags.{distinct_of}
use Rattle.translate.proofs.TotalLaws.{size, node_sum, node_few}
use Rattle.translate.proofs.ShapeLaws.{distinct_few}
use Rattle.translate.proofs.sources.Equations.node_total.Goals as goal

pub sum-requires-clause-fits : goal.sum-requires-clause-fits
sum-requires-clause-fits c =
    let e = c.args.self.now in
    let ts = distinct_of e.records in
    fits_by_from_yields_list (size ts c.args.x) (range_with_len 0 e.states) c.map.result _
    (YieldsList-from_map _ (size ts c.args.x) (YieldsList-at c.map.ensures.source (YieldsList-from_range 0 e.states e.states (cc) (omega arith))) c.map.ensures.closure λ x r q k. search rules)
    (omega (arith, node_few ts (distinct_few e.records.table.part.now e.records.first.now e.records.table.count e.within.few_transitions) e.states c.args.x, e.within.few_states))

pub returns : goal.returns
returns c = λ i.
    let e = c.args.self.now in
    let ts = distinct_of e.records in
    sum_by_from_yields_List (size ts c.args.x) (range_with_len 0 e.states) c.map.result c.sum.result c.sum.ensures.ran
    (YieldsList-from_map _ (size ts c.args.x) (YieldsList-at c.map.ensures.source (YieldsList-from_range 0 e.states e.states (cc) (omega arith))) c.map.ensures.closure λ x r q k. search rules)
    ∙ node_sum ts e.states c.args.x i
