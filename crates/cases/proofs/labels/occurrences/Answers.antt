use borrow.Author.Rules.{rules}
use borrow.Author.Tests.{tests}
use Prim.Native.Nat.{ℕ}
use mathlib.Core.Path.{sym, ◌∙◌}
use mathlib.Core.Bool.{cond}
use native.Mathlib.Omega.{arith}
use lib.Dec.{eqb}
use Rattle.std.proofs.lemmas.List.Sums.{count_by-le-length, length-filter}
use Rattle.std.proofs.lemmas.Iterator.{YieldsList-from_slice, YieldsList-from_map}
use Rattle.std.proofs.lemmas.Iterator.Consumers.{sum_by_from_yields_List, fits_by_from_yields_list, YieldsList-at}
use Rattle.cases.specs.Labels.{record_numbers}
use Rattle.cases.proofs.LabelLaws.{occurrences_are}
use Rattle.cases.proofs.labels.occurrences.Goals as goal

pub sum-requires-clause-fits : goal.sum-requires-clause-fits
sum-requires-clause-fits c =
    let ks = record_numbers c.args.x.now in
    let is = λ (n : ℕ). eqb n c.args.k in
    fits_by_from_yields_list (λ n. cond (is n) 1 0) ks c.map.result _
    (YieldsList-from_map _ (λ n. cond (is n) 1 0) (YieldsList-at c.map.ensures.source (YieldsList-from_slice ks c.iter.ensures.rest)) c.map.ensures.closure λ x r q k. search (rules, tests))
    (omega (arith, count_by-le-length is ks, c.iter.ensures.bound, c.iter.ensures.len))

pub returns : goal.returns
returns c =
    let ks = record_numbers c.args.x.now in
    let is = λ (n : ℕ). eqb n c.args.k in
    sum_by_from_yields_List (λ n. cond (is n) 1 0) ks c.map.result c.sum.result c.sum.ensures.ran
    (YieldsList-from_map _ (λ n. cond (is n) 1 0) (YieldsList-at c.map.ensures.source (YieldsList-from_slice ks c.iter.ensures.rest)) c.map.ensures.closure λ x r q k. search (rules, tests))
    ∙ sym (length-filter is ks) ∙ occurrences_are c.args.k ks
