use native.Mathlib.Omega.{arith}
use Rattle.std.proofs.Common.{rules, tests}
use Rattle.std.proofs.lemmas.Iterator.{YieldsList-from_range}
use Rattle.std.proofs.lemmas.Iterator.Search.{all_from_yields_List}
use Rattle.cases.specs.File.{node_in}
use Rattle.cases.specs.internal.Checks.{nodes_in}
use Rattle.cases.proofs.Checking.{all_records}
use Rattle.cases.proofs.conditions.Nodes.all.Goals as goal

pub returns : goal.returns
unfolding nodes_in
returns g c = λ p f.
    let s = c.args.self.now in
    all_records p (node_in s.part.now) s.count
    (all_from_yields_List (λ i. p (node_in s.part.now i)) _ _ c.all.result c.all.ensures.ran (YieldsList-from_range 0 s.count s.count (cc) (omega arith)) (λ x b q k. search (rules, tests, f)))
