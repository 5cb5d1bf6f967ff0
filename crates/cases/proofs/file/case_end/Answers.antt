use native.Mathlib.Omega.{arith}
use Rattle.cases.proofs.LayoutRules.{all_within, end_within, end_least}
use Rattle.cases.proofs.file.case_end.Goals as goal

pub returns-then-all-lt-HEADER : goal.returns-then-all-lt-HEADER
returns-then-all-lt-HEADER c = (omega arith, all_within _ (omega (arith, end_least c.args.bytes.now)))

pub returns-then-all-end : goal.returns-then-all-end
returns-then-all-end c = (omega arith, all_within _ (omega (arith, c.told_length-end.ensures)))

pub returns : goal.returns
returns c = (omega arith, end_within _ c.told_length-end.ensures)
