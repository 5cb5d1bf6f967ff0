use mathlib.Core.Path.{◌∙◌}
use native.Mathlib.Omega.{arith}
use borrow.Author.Rules.{rules}
use Rattle.std.proofs.lemmas.Iterator.{YieldsList-from_slice, YieldsList-from_map}
use Rattle.std.proofs.lemmas.Iterator.Consumers.{sum_by_from_yields_List, fits_by_from_yields_list, YieldsList-at}
use Rattle.translate.specs.internal.Flags.{distinct_of}
use Rattle.translate.proofs.TotalLaws.{node_size, nodes_sum}
use Rattle.translate.proofs.sources.Equations.operand_total.Goals as goal

pub sum-requires-clause-fits : goal.sum-requires-clause-fits
sum-requires-clause-fits c =
    let e = c.args.self.now in
    let ts = distinct_of e.records in
    fits_by_from_yields_list (node_size ts e.states) e.shapes.now c.map.result _
    (YieldsList-from_map _ (node_size ts e.states) (YieldsList-at c.map.ensures.source (YieldsList-from_slice e.shapes.now c.iter.ensures.rest)) c.map.ensures.closure λ x r q k. search rules)
    (omega (arith, nodes_sum ts e.states e.shapes.now 0, e.within.few_operands))

pub returns : goal.returns
returns c =
    let e = c.args.self.now in
    let ts = distinct_of e.records in
    sum_by_from_yields_List (node_size ts e.states) e.shapes.now c.map.result c.sum.result c.sum.ensures.ran
    (YieldsList-from_map _ (node_size ts e.states) (YieldsList-at c.map.ensures.source (YieldsList-from_slice e.shapes.now c.iter.ensures.rest)) c.map.ensures.closure λ x r q k. search rules)
    ∙ nodes_sum ts e.states e.shapes.now 0
