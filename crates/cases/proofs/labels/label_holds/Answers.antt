use borrow.Author.Rules.{rules}
use borrow.Author.Tests.{tests}
use mathlib.Core.Path.{◌≡◌, sym, ◌∙◌}
use mathlib.Core.Bool.{not}
use lib.Dec.{eqb, leb}
use Rattle.std.proofs.lemmas.Iterator.{YieldsList-from_slice}
use Rattle.std.proofs.lemmas.Iterator.Search.{all_from_yields_List}
use Rattle.std.proofs.lemmas.Iterator.Adapters.{YieldsList-from_skip_while}
use Rattle.sets.specs.Lists.{every}
use Rattle.cases.specs.File.{name_limit}
use Rattle.cases.specs.Labels.{record_numbers}
use Rattle.cases.proofs.Checking.{every_is}
use Rattle.cases.proofs.LabelLaws.{padded_is}
use Rattle.cases.proofs.labels.label_holds.Goals as goal

pub returns-then-all : goal.returns-then-all
returns-then-all c =
    let ks = record_numbers c.args.x.now in
    let few : c.all.result ≡ every (λ k. leb k name_limit) ks =
    all_from_yields_List (λ k. leb k name_limit) _ _ c.all.result c.all.ensures.ran (YieldsList-from_slice ks cc) (λ x b q k. search (rules, tests)) ∙ every_is _ ks in
    rw (sym few ∙ c.if-all.true)
    (all_from_yields_List (λ k. eqb k 0) _ _ c.all-then-all.result c.all-then-all.ensures.ran
    (YieldsList-from_skip_while _ _ _ (λ k. not (eqb k 0)) _ (λ x b q k. search (rules, tests)) (YieldsList-from_slice ks cc) c.skip_while.ensures.closure c.skip_while.ensures.done_skipping)
    (λ x b q k. search (rules, tests)) ∙ padded_is ks)

pub returns-else-all : goal.returns-else-all
returns-else-all c =
    let ks = record_numbers c.args.x.now in
    let few : c.all.result ≡ every (λ k. leb k name_limit) ks =
    all_from_yields_List (λ k. leb k name_limit) _ _ c.all.result c.all.ensures.ran (YieldsList-from_slice ks cc) (λ x b q k. search (rules, tests)) ∙ every_is _ ks in
    rw (sym few ∙ c.if-all.false) c.if-all.false
