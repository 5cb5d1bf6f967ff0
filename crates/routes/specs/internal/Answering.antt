-- What the parts of the two calls answer.
use Rattle.std.specs.Prelude.{◌≡◌, List, ℕ, ◌<◌, ◌≤◌, length, Option, MatchOption, Ok}
use Rattle.sets.specs.States.{States}
use Rattle.sets.specs.Words.{words, word_count, state_limit}
use Rattle.sets.specs.computed.Iteration.{Worked}
use Rattle.solver.specs.declared.Report.{Report}
use Rattle.cases.specs.Case.{Case}
use Rattle.routes.specs.Route.{route_answer, run_report}
use Rattle.routes.specs.declared.evaluate.Value.{Value}

-- the root's set and rounds, which are within the limit
pub record RootValue (w : Worked) (limit : ℕ) (x : Value) : Type 0 where
  pub within : w.1 ≤ limit
  pub rounds : x.rounds ≡ w.1
  pub set : x.set ≡ words word_count w.0

-- them, or none if the rounds exceed the limit
abbrev pub Rooted : Worked → ℕ → Option Value → Type 0
Rooted w limit o = MatchOption o (limit < w.1) (RootValue w limit)

-- The report of a run: of the sets of n states that are marked and that can be reached, in words.
pub record ReportedBy (initial : ℕ) (marked reached : List ℕ) (rounds : ℕ) (report : Report) : Type 0 where
  pub are : (c : Case) (v w : States) → c.initial ≡ initial → length v ≡ c.states → length w ≡ c.states → c.states ≤ state_limit
      → marked ≡ words word_count v → reached ≡ words word_count w → route_answer (Ok report) ≡ run_report c v w rounds
