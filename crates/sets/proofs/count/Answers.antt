use mathlib.Core.Path.{sym, ap, ◌∙◌}
use native.Mathlib.Omega.{arith}
use borrow.Author.Rules.{rules}
use Rattle.std.proofs.lemmas.Iterator.{YieldsList-from_slice, YieldsList-from_map}
use Rattle.std.proofs.lemmas.Iterator.Consumers.{sum_by_from_yields_List, fits_by_from_yields_list, YieldsList-at}
use lib.Count.{ones}
use Rattle.sets.specs.Words.{word_count, ones_of}
use Rattle.sets.proofs.Lists.{sum_is}
use Rattle.sets.proofs.Ones.{ones_few, ones_size}
use Rattle.sets.proofs.count.Goals as goal

pub sum-requires-clause-fits : goal.sum-requires-clause-fits
sum-requires-clause-fits c =
    let set = c.args.set.now in
    fits_by_from_yields_list ones set c.map.result _
    (YieldsList-from_map _ ones (YieldsList-at c.map.ensures.source (YieldsList-from_slice set c.iter.ensures.rest)) c.map.ensures.closure λ x r q k. search rules)
    (omega (arith, sum_is ones set, ones_few set c.fits-set))

pub returns : goal.returns
returns c v few is =
    let set = c.args.set.now in
    sum_by_from_yields_List ones set c.map.result c.sum.result c.sum.ensures.ran
    (YieldsList-from_map _ ones (YieldsList-at c.map.ensures.source (YieldsList-from_slice set c.iter.ensures.rest)) c.map.ensures.closure λ x r q k. search rules)
    ∙ sym (sum_is ones set) ∙ ap ones_of is ∙ ones_size word_count v few
