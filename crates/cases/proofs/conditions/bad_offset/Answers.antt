use native.Mathlib.Omega.{arith}
use Rattle.cases.proofs.LayoutRules.{labels_differ, transitions_differ, actions_differ, formula_decides}
use Rattle.cases.proofs.conditions.bad_offset.Goals as goal

pub returns-then-h-header_size : goal.returns-then-h-header_size
returns-then-h-header_size c = labels_differ _ (λ e. omega arith)

pub returns-then-h-transitions_start : goal.returns-then-h-transitions_start
returns-then-h-transitions_start c = transitions_differ _ (omega arith) (λ e. omega arith)

pub returns-then-h-actions_start : goal.returns-then-h-actions_start
returns-then-h-actions_start c = actions_differ _ (omega arith) (omega arith) (λ e. omega arith)

pub returns : goal.returns
returns c = rw c.formula_start.ensures.0 (formula_decides _ (omega arith) (omega arith) (omega arith))
