-- The case that direct is given.
use Rattle.cases.specs.Case.{Case}
use Rattle.routes.specs.internal.Parts.{case_in}
use Rattle.routes.specs.declared.direct_case.DirectCase.{DirectCase}

abbrev pub case_given : DirectCase → Case
case_given d = case_in d.header d.labels.part.now d.transitions.part.now d.actions.part.now d.formula.part.now
