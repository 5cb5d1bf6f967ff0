-- The node that is to be evaluated: its kind, its operands, its formula's rule, and the block of a binder.
use mathlib.Core.Path.{◌≡◌, refl, sym, ap, subst, ◌∙◌}
use mathlib.Core.Bool.{Bool, true, false}
use mathlib.Core.List.{List, map}
use Prim.Native.Nat.{ℕ, ◌+◌, ◌<◌, ◌≤◌}
use native.Mathlib.Omega.{arith}
use native.Mathlib.Decide.{ℕ_discrete}
use borrow.Author.Tests.{ltb-true, ltb-false}
use lib.Dec.{ltb}
use lib.ListN.{length, get_or, take, length-map}
use Rattle.sets.specs.States.{States, Valuation}
use Rattle.solver.specs.File.{block_limit}
use Rattle.cases.specs.Action.{Action}
use Rattle.cases.specs.Formula.{Formula}
use Rattle.cases.specs.declared.Node.{Node}
use Rattle.cases.specs.declared.kinds.FormulaKind.{FormulaKind}
use Rattle.cases.specs.internal.Kinds.{formula_number}
use Rattle.cases.specs.File.{node_in}
use Rattle.cases.specs.Prefix.{arity_in, formula_arities, whole_formulas, end_of, formula_at}
use Rattle.cases.specs.Conditions.{node_at, is_binder, binder_count}
use Rattle.cases.specs.internal.Tables.{made, formula_operator, FormulaTable}
use Rattle.cases.proofs.PrefixRules.{node_in_lem}
use Rattle.cases.proofs.Spans.{exactly_whole, first_node}
use Rattle.cases.proofs.Trees.{arity_at}
use Rattle.cases.proofs.TableTrees.{formula_table_lem, formula_at_lem}
use Rattle.cases.proofs.Scopes.{variable_bound}
use Rattle.cases.proofs.FormulaRules.{length_nodes}
use Rattle.routes.specs.Direct.{Direct}
use Rattle.routes.specs.declared.evaluator.Evaluator.{Evaluator}
use Rattle.routes.specs.internal.Evaluating.{nodes_of, transitions_of, Asks}
use Rattle.routes.proofs.TableLaws.{more_binders, binders_before}

-- what holds of mu and nu holds of a kind that is one of them
pub by_sign : (P : ℕ → Type 0) {kind : ℕ} → 7 ≤ kind → kind ≤ 8 → P 7 → P 8 → P kind
by_sign P {kind} l u p q = go (ℕ_discrete kind 7)
  where
    go : Dec (kind ≡ 7) → P kind
    go (yes s) = subst P (sym s) p
    go (no d) = let s : 8 ≡ kind = omega (arith, l, u) in subst P s q

-- ---- binders

-- a mu or a nu at node i
pub record Binder (t : List Node) (i : ℕ) : Type 0 where
  pub inside : i < length t
  pub is : is_binder (node_at t i) ≡ true

-- Different binders have different numbers of binders before them.
pub apart : (t : List Node) (i j : ℕ) → Binder t i → Binder t j → binder_count (take i t) ≡ binder_count (take j t) → i ≡ j
apart t i j b c e = go (ltb i j) refl (ltb j i) refl
  where
    go : (x : Bool) → ltb i j ≡ x → (y : Bool) → ltb j i ≡ y → i ≡ j
    go true l y g = absurd (omega (arith, more_binders t i j (ltb-true i j l) (omega (arith, c.inside)) b.is))
    go false l true g = absurd (omega (arith, more_binders t j i (ltb-true j i g) (omega (arith, b.inside)) c.is))
    go false l false g = omega (arith, ltb-false i j l, ltb-false j i g)

-- ---- a node to evaluate
module _ {ev : Evaluator} {at used : ℕ} (q : Asks ev at used) where
  abbrev t : List Node
  t = nodes_of ev

  abbrev ks : List ℕ
  ks = map (arity_in formula_arities) t

  abbrev Works : Formula → Valuation → States → ℕ → Type 0
  Works = Direct ev.case.header.states (transitions_of ev)

  -- what node `at` makes of its operands if its kind is k
  abbrev made_at : (ℕ → Action) → ℕ → Formula
  made_at action k = made (formula_operator action at (node_at t at).arg k) (formula_at action t (at + 1)) (formula_at action t (end_of ks (at + 1)))

  -- the table holds one whole formula
  formed : FormulaTable t
  formed = formula_table_lem ev.case.header.actions t ev.case.parts.formula_part.formed

  pub whole : whole_formulas 1 ks ≡ true
  whole = exactly_whole 1 ks formed.whole

  -- the node is one of the table
  pub inside : at < length t
  inside = rw (length_nodes ev.case.formula.part.now ev.case.header.nodes) q.node

  pub in_arities : at < length ks
  in_arities = rw (length-map t (arity_in formula_arities)) inside

  -- it is read, and so is its kind
  pub node_read : {x : Node} → x ≡ node_in ev.case.formula.part.now at → node_at t at ≡ x
  node_read e = node_in_lem ev.case.formula.part.now ev.case.header.nodes at _ q.node ∙ sym e

  -- by name
  pub kind_is : {x : Node} {kind : FormulaKind} → x ≡ node_in ev.case.formula.part.now at → formula_number kind ≡ x.kind
      → {is : FormulaKind} → kind ≡ is → (node_at t at).kind ≡ formula_number is
  kind_is e n same = ap (λ (y : Node). y.kind) (node_read e) ∙ sym n ∙ ap formula_number same

  -- the kind is not more than 8
  pub kind_known : {x : Node} → x ≡ node_in ev.case.formula.part.now at → x.kind ≤ 8
  kind_known {x} e = subst (λ (y : Node). y.kind ≤ 8) (node_read e) (formed.kinds at inside)

  -- another node of the table is asked for, after so many rounds
  pub asks : {to after : ℕ} → to < length ks → after ≤ ev.limit → Asks ev to after
  asks {to} l w = record { node = rw (length-map t (arity_in formula_arities), length_nodes ev.case.formula.part.now ev.case.header.nodes) at l; within = w }

  -- its first operand, if it has one
  pub operand : {after : ℕ} → 1 ≤ get_or ks at 0 → after ≤ ev.limit → Asks ev (at + 1) after
  operand l w = asks (first_node 1 ks whole at in_arities l) w

  -- a variable is bound by an earlier node
  pub binder_of : {x : Node} → x ≡ node_in ev.case.formula.part.now at → (node_at t at).kind ≡ 6 → Binder t x.arg
  binder_of {x} e k = subst (λ (y : Node). Binder t y.arg) (node_read e) bound
    where
      bound : Binder t (node_at t at).arg
      bound =
          let b = variable_bound t ev.case.parts.formula_part.bound at inside k in
          record { inside = omega (arith, b.before, inside); is = b.binder }

  -- a binder has a block number,
  pub block_read : {i : ℕ} → Binder t i → i < length ev.blocks.now
  block_read b = omega (arith, b.inside, length_nodes ev.case.formula.part.now ev.case.header.nodes, ev.beside.blocks_room)

  -- which counts the binders before it
  pub block_of : {i k : ℕ} → Binder t i → k ≡ get_or ev.blocks.now i 0 → k ≡ binder_count (take i t)
  block_of {i} b e = e ∙ ev.beside.numbered.block i b.inside b.is

  -- and is below six
  pub block_fits : {i k : ℕ} → Binder t i → k ≡ get_or ev.blocks.now i 0 → k < block_limit
  block_fits {i} b e =
      omega (arith, block_of b e, binders_before t i b.inside b.is, ev.case.parts.formula_part.shallow)

  module _ {kind : ℕ} (k : (node_at t at).kind ≡ kind) where
    -- how many operands it has
    pub arity : get_or ks at 0 ≡ get_or formula_arities kind 0
    arity = arity_at formula_arities t at inside ∙ ap (λ (m : ℕ). get_or formula_arities m 0) k

    -- the rule of what it makes
    pub ruled : (action : ℕ → Action) (ρ : Valuation) (v : States) (r : ℕ) → Works (formula_at action t at) ρ v r → Works (made_at action kind) ρ v r
    ruled action ρ v r = subst (λ (a : Formula). Works a ρ v r) (formula_at_lem action t formed at kind inside k)
