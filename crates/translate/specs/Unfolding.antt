-- Cells unfolded along their operands, right-hand sides without Sat, and when a block of the file is an equation of the table E.
use Rattle.std.specs.Prelude.{◌≡◌, Bool, true, false, cond, List, [], ◌∷◌, ℕ, ◌+◌, ◌*◌, ◌≤◌, ◌<◌, length, get_or}
use Rattle.solver.specs.Cells.{Cell, And, Or, Variable}
use Rattle.solver.specs.File.{Block}
use Rattle.cases.specs.declared.Transition.{Transition}
use Rattle.cases.specs.Formula.{Formula, Fix, Stands}
use Rattle.cases.specs.Case.{Case}
use Rattle.translate.specs.Whole.{formula_of, steps_of, block_of}
use Rattle.translate.specs.Tables.{Expression, Constant, Conj, Disj, ⋀, ⋁, Sat⇒, Sat∧, X, Expressions, nil, cons, Equation, E}
use Rattle.translate.specs.Cells.{cells_from}

-- And and or of any number of plain expressions, and variables.
mutual
  pub data Plain : Type 0 where
    All Any : Plains → Plain
    Var : ℕ → ℕ → Plain

  pub data Plains : Type 0 where
    nothing : Plains
    more : Plain → Plains → Plains

-- `false ⇒ e` and `false ∧ e` are left out of ⋀ and ⋁
unfoldable pub left_out : Expression → Bool
left_out (Constant b) = false
left_out (Conj a b) = false
left_out (Disj a b) = false
left_out (⋀ es) = false
left_out (⋁ es) = false
left_out (Sat⇒ true e) = false
left_out (Sat⇒ false e) = true
left_out (Sat∧ true e) = false
left_out (Sat∧ false e) = true
left_out (X k s) = false

-- The step that takes out constant Sat: `true ⇒ e` and `true ∧ e` are e. True is the empty and, false the empty or.
unfoldable mutual
  pub plain : Expression → Plain
  plain (Constant b) = cond b (All nothing) (Any nothing)
  plain (Conj a b) = All (more (plain a) (more (plain b) nothing))
  plain (Disj a b) = Any (more (plain a) (more (plain b) nothing))
  plain (⋀ es) = All (plains es)
  plain (⋁ es) = Any (plains es)
  plain (Sat⇒ b e) = cond b (plain e) (All nothing)
  plain (Sat∧ b e) = cond b (plain e) (Any nothing)
  plain (X k s) = Var k s

  pub plains : Expressions → Plains
  plains nil = nothing
  plains (cons e es) = cond (left_out e) (plains es) (more (plain e) (plains es))

-- the expressions of some cells
unfoldable pub chosen : (ℕ → Plain) → List ℕ → Plains
chosen es [] = nothing
chosen es (o ∷ os) = more (es o) (chosen es os)

-- a cell with its operands' expressions put in
unfoldable pub unfolded : (ℕ → Plain) → Cell → Plain
unfolded es (And os) = All (chosen es os)
unfolded es (Or os) = Any (chosen es os)
unfolded es (Variable k s) = Var k s

-- es are the cells unfolded along their operands: each cell's is its rule over its operands'
pub record Unfolding (cs : List Cell) (es : ℕ → Plain) : Type 0 where
  pub rule : (i : ℕ) → i < length cs → es i ≡ unfolded es (get_or cs i (And []))

-- the equations, in order
abbrev pub equations_of : (c : Case) → List (Equation (steps_of c) (block_of c))
equations_of c = E (steps_of c) (block_of c) (formula_of c)

-- Block b of a formula a is equation e of the table, where `name` is the number of the binder and es are the cells of a, unfolded.
pub record Agree (n : ℕ) (ts : List Transition) (block : ℕ → ℕ) (a : Formula) (es : ℕ → Plain) (b : Block) (e : Equation ts block) (name : ℕ) : Type 0 where
  -- the binder's node and body
  pub node : ℕ
  pub body : Formula
  pub binder : Stands a node (Fix e.sign name body)
  pub operand : Stands a (node + 1) body
  pub sign : b.sign ≡ e.sign
  pub of : e.of ≡ block name
  -- the block's cells are those of the body, and their unfoldings the right-hand sides of the equation
  pub first : b.first ≡ (node + 1) * n
  pub inside : b.first + n ≤ length (cells_from n ts block a 0)
  pub side : (s : ℕ) → s < n → es (b.first + s) ≡ plain (e.side s)
