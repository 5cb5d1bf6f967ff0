use native.Mathlib.Omega.{arith}
use borrow.Author.Rules.{rules}
use borrow.Author.Tests.{tests}
use Rattle.std.proofs.lemmas.Iterator.{YieldsList-from_range}
use Rattle.std.proofs.lemmas.Iterator.Search.{position_from_yields_List}
use Rattle.cases.specs.File.{transition_in}
use Rattle.cases.specs.Case.{same_transition}
use Rattle.cases.specs.internal.Checks.{transitions_in}
use Rattle.records.proofs.Places.{place_found}
use Rattle.records.proofs.find.Goals as goal

pub returns : goal.returns
unfolding transitions_in same_transition
returns c =
    let table = c.args.table.now in
    place_found c.args.t (transition_in table.part.now) table.count
    (position_from_yields_List (λ i. same_transition (transition_in table.part.now i) c.args.t) _ _ _ c.position.ensures.ran (YieldsList-from_range 0 table.count table.count (cc) (omega arith)) (λ x b q k. search (rules, tests)))
