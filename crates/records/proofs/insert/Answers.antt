use mathlib.Core.Path.{◌∙◌}
use native.Mathlib.Omega.{arith}
use borrow.Author.Rules.{rules}
use lib.ListN.{length, length-drop}
use Rattle.cases.specs.File.{case_within}
use Rattle.records.proofs.Files.{within_behind, within_bytes, head_least, inserted}
use Rattle.records.proofs.insert.Goals as goal

pub put_head-requires : goal.put_head-requires
put_head-requires c =
    let l = c.requires.0 in
    (omega (arith, head_least l, l.transitions), l.counts, l.transitions, omega arith)

pub returns : goal.returns
returns c =
    let m = c.args.bytes.now in
    let l = c.requires.0 in
    c.put_head.ensures
    ∙ inserted l m _ (within_behind m) (within_bytes m (search rules)) c.args.t (omega (arith, length-drop (length (case_within m)) m, l.ends, c.requires.2))
    c.copy_within.ensures.after c.put_record.ensures
