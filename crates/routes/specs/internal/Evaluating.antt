-- What the evaluator is asked, and what it answers.
use Rattle.std.specs.Prelude.{◌≡◌, Bool, true, eqb, List, [], map, ℕ, ◌+◌, ◌<◌, ◌≤◌, length, get_or, take, Option, MatchOption}
use Rattle.sets.specs.States.{States, start, Valuation}
use Rattle.sets.specs.Words.{words, word_count}
use Rattle.cases.specs.Action.{Action}
use Rattle.cases.specs.declared.Node.{Node}
use Rattle.cases.specs.declared.Transition.{Transition}
use Rattle.cases.specs.Prefix.{arity_in, formula_arities, end_of, formula_at}
use Rattle.cases.specs.Conditions.{node_at, is_binder, binder_count}
use Rattle.cases.specs.internal.Masks.{mask_of, ActionMasks}
use Rattle.cases.specs.Meaning.{set_of}
use Rattle.cases.specs.internal.Checks.{transitions_in, nodes_in}
use Rattle.routes.specs.Direct.{Direct}
use Rattle.routes.specs.declared.evaluate.Value.{Value}
use Rattle.routes.specs.declared.evaluator.Evaluator.{Evaluator}

-- row k is the words of the set of the binder with block k
pub record Shown (n : ℕ) (table : List Node) (rows : List (List ℕ)) (ρ : Valuation) : Type 0 where
  pub sized : (i : ℕ) → length (ρ i) ≡ n
  pub row : (i : ℕ) → i < length table → is_binder (node_at table i) ≡ true → get_or rows (binder_count (take i table)) [] ≡ words word_count (ρ i)

-- ---- of an evaluator

-- its number of states, its formula table and its transitions
abbrev pub states_of : Evaluator → ℕ
states_of ev = ev.case.header.states

abbrev pub nodes_of : Evaluator → List Node
nodes_of ev = nodes_in ev.case.formula.part.now ev.case.header.nodes

abbrev pub transitions_of : Evaluator → List Transition
transitions_of ev = transitions_in ev.case.transitions.part.now ev.case.header.transitions

-- The set that is found has the states with a property that an action and a set decide, if these labels are the action's and this set is held.
abbrev pub Finds : Evaluator → ℕ → List ℕ → (Action → States → ℕ → Bool) → List ℕ → Type 0
Finds ev labels held p found = (α : Action) (v : States) → labels ≡ mask_of α → length v ≡ states_of ev → held ≡ words word_count v
    → found ≡ words word_count (set_of (states_of ev) (p α v))

-- A node to evaluate, after `used` rounds. The bounds are the evaluator's, so a struct of the two numbers could not hold them.
pub record Asks (ev : Evaluator) (at used : ℕ) : Type 0 where
  pub node : at < ev.case.header.nodes
  pub within : used ≤ ev.limit

-- the kind of node `at`
abbrev pub kind_at : Evaluator → ℕ → ℕ
kind_at ev at = (node_at (nodes_of ev) at).kind

-- a mu or a nu at node `at`, and the words of the set where its loop starts
pub record LoopStart (ev : Evaluator) (at : ℕ) (first : List ℕ) : Type 0 where
  pub from : 7 ≤ kind_at ev at
  pub to : kind_at ev at ≤ 8
  pub set : first ≡ words word_count (start (states_of ev) (eqb (kind_at ev at) 8))

module _ (ev : Evaluator) (rows : List (List ℕ)) (at used : ℕ) where
  -- what the rule works out at the node
  abbrev pub Rule : (ℕ → Action) → Valuation → States → ℕ → Type 0
  Rule action ρ v r =
      ActionMasks action ev.case.header.actions ev.masks.now
      × Shown (states_of ev) (nodes_of ev) rows ρ
      × Direct (states_of ev) (transitions_of ev) (formula_at action (nodes_of ev) at) ρ v r

  -- Its value: the set and the rounds are the rule's, and the rounds are within the limit.
  pub record Completed (x : Value) : Type 0 where
    pub low : used ≤ x.rounds
    pub high : x.rounds ≤ ev.limit
    pub ends : x.next ≡ end_of (map (arity_in formula_arities) (nodes_of ev)) at
    pub right : (action : ℕ → Action) (ρ : Valuation) (v : States) (r : ℕ) → Rule action ρ v r → (x.rounds ≡ used + r) × (x.set ≡ words word_count v)

  -- the limit is below the rounds in all
  pub record Exceeded : Type 0 where
    pub over : (action : ℕ → Action) (ρ : Valuation) (v : States) (r : ℕ) → Rule action ρ v r → ev.limit < used + r

  -- What evaluating node `at` answers, after `used` rounds: none exactly if they are spent.
  abbrev pub Evaluated : Option Value → Type 0
  Evaluated o = MatchOption o Exceeded Completed
