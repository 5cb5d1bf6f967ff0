use borrow.Author.Rules.{rules}
use borrow.Author.Tests.{tests}
use mathlib.Core.Path.{◌∙◌}
use Rattle.std.proofs.lemmas.Iterator.{YieldsList-from_slice}
use Rattle.std.proofs.lemmas.Iterator.Search.{all_from_yields_List}
use Rattle.cases.specs.Labels.{record_numbers}
use Rattle.cases.specs.internal.Names.{equally_many}
use Rattle.cases.proofs.Checking.{every_is}
use Rattle.cases.proofs.labels.all_equally_many.Goals as goal

pub returns : goal.returns
returns c =
    let zs = record_numbers c.args.z.now in
    all_from_yields_List (equally_many (record_numbers c.args.x.now) (record_numbers c.args.y.now)) _ _ c.all.result c.all.ensures.ran (YieldsList-from_slice zs cc) (λ x b q k. search (rules, tests))
    ∙ every_is _ zs
