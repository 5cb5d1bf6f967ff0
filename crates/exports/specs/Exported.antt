-- What the calls for C promise: the four numbers of an outcome, the length of the file that was written or the two numbers of a tally, and of the
-- equation route the price, or a refusal number only, and the lent places as the calls leave them.
use Rattle.std.specs.Prelude.{◌≡◌, List, ℕ}
use Rattle.sets.specs.Refusals.{Outcome, refused}
use Rattle.solver.specs.Outcome.{Answered}
use Rattle.translate.specs.Translating.{Translated}
use Rattle.routes.specs.Route.{direct, Lent, marks_only, Ran, EquationRan}
use Rattle.routes.specs.Price.{run_price}
use Rattle.cases.specs.declared.Tally.{Tally}
use Rattle.cases.specs.declared.Transition.{Transition}
use Rattle.models.specs.Model.{Edited, open_conditions, opened_model, add_conditions, added_model, drop_conditions, dropped_model}
use Rattle.exports.specs.declared.Numbers.{Numbers}
use Rattle.exports.specs.declared.RouteNumbers.{RouteNumbers}
use Rattle.exports.specs.declared.EquationNumbers.{EquationNumbers}

-- the outcome that the first four numbers stand for
unfoldable pub exported : Numbers → Outcome
exported n = record { refusal = n.refusal; verdict = n.verdict; count = n.count; rounds = n.rounds }

-- the same of a route's numbers
unfoldable pub exported_route : RouteNumbers → Outcome
exported_route n = record { refusal = n.refusal; verdict = n.verdict; count = n.count; rounds = n.rounds }

-- the tally that the last two of a route's six numbers stand for
unfoldable pub exported_tally : RouteNumbers → Tally
exported_tally n = record { records = n.records; distinct = n.distinct }

pub record TranslateSays (b before : List ℕ) (n : Numbers) (after : List ℕ) : Type 0 where
  pub translated : Translated b before n.refusal n.length after
  -- verdict, count and rounds are 0
  pub others : exported n ≡ refused n.refusal

pub record SolveSays (e work marks : List ℕ) (limit : ℕ) (n : Numbers) (work' marks' : List ℕ) : Type 0 where
  pub answered : Answered e work marks limit (exported n) work' marks'
  pub length_is : n.length ≡ 0

pub record DirectSays (b marks : List ℕ) (limit : ℕ) (n : RouteNumbers) (marks' : List ℕ) : Type 0 where
  pub ran : Ran direct b (marks_only marks) limit (exported_route n) (exported_tally n) marks'

pub record EquationSays (b : List ℕ) (l : Lent) (limit : ℕ) (n : EquationNumbers) (file' work' marks' : List ℕ) : Type 0 where
  pub ran : EquationRan b l limit (exported_route n.run) (exported_tally n.run) file' work' marks'
  pub cents_are : n.cents ≡ run_price b limit (exported_route n.run)

-- The calls on a model promise of the number k that they answer, and of the model as they leave it, what `open`, `add` and `drop` promise. What is
-- wanted of a model is said by DirectSays, of the case that the model starts with.
pub record OpenSays (b model : List ℕ) (k : ℕ) (model' : List ℕ) : Type 0 where
  pub edited : Edited (open_conditions b model) (opened_model b model) model k model'

pub record AddSays (model : List ℕ) (t : Transition) (k : ℕ) (model' : List ℕ) : Type 0 where
  pub edited : Edited (add_conditions model t) (added_model model t) model k model'

pub record DropSays (model : List ℕ) (t : Transition) (k : ℕ) (model' : List ℕ) : Type 0 where
  pub edited : Edited (drop_conditions model t) (dropped_model model t) model k model'
