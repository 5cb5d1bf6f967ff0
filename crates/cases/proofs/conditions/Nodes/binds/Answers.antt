use mathlib.Core.Path.{sym, ◌∙◌}
use native.Mathlib.Omega.{arith}
use Rattle.cases.specs.Conditions.{is_binder}
use Rattle.cases.specs.internal.Checks.{nodes_in}
use Rattle.cases.proofs.Checking.{tested}
use Rattle.cases.proofs.PrefixRules.{node_in_lem}
use Rattle.cases.proofs.FormulaRules.{binds_late, binds_none, end_decides}
use Rattle.cases.proofs.conditions.Nodes.binds.Goals as goal

pub returns-then-i-j : goal.returns-then-i-j
returns-then-i-j c = let s = c.args.self.now in binds_late (nodes_in s.part.now s.count) _ _ c.if-i-j.true

pub returns-then-not-is_binder : goal.returns-then-not-is_binder
returns-then-not-is_binder c =
    let s = c.args.self.now in
    let read = node_in_lem s.part.now s.count c.args.j (record { kind = 0; arg = 0 }) (omega arith) in
    binds_none (nodes_in s.part.now s.count) _ _ (tested is_binder c.is_binder.ensures (c.at.ensures ∙ sym read) c.if-not-is_binder.true)

pub returns : goal.returns
returns c =
    let s = c.args.self.now in
    let read = node_in_lem s.part.now s.count c.args.j (record { kind = 0; arg = 0 }) (omega arith) in
    end_decides (nodes_in s.part.now s.count) _ _ (tested is_binder c.is_binder.ensures (c.at.ensures ∙ sym read) c.if-not-is_binder.false)
    c.if-i-j.false _ c.subtree_end.ensures
