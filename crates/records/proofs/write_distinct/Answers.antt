use mathlib.Core.Path.{refl, ap, ◌∙◌}
use mathlib.Core.List.{List, ◌++◌}
use native.Mathlib.Omega.{arith}
use lib.ListN.{drop}
use Rattle.records.proofs.Files.{least_stays, rest_fits, wrote_table, opened}
use Rattle.records.proofs.write_distinct.Goals as goal

pub slice_bounds-copy_from_slice-end-4 : goal.slice_bounds-copy_from_slice-end-4
slice_bounds-copy_from_slice-end-4 c =
    let l = c.args.case.now.laid in
    rest_fits l _ c.put_distinct-k.new.out _ (omega (arith, l.ends, l.actions)) (omega arith) (omega arith)

pub put_head-requires : goal.put_head-requires
put_head-requires c =
    let l = c.args.case.now.laid in
    (least_stays l _ _ _ _ _ (omega (arith, l.ends, l.actions)) (omega arith) (omega arith), l.counts, l.transitions, omega (arith, l.counts.few_transitions))

pub returns : goal.returns
returns c =
    let l = c.args.case.now.laid in
    let wrote = wrote_table l c.transitions.ensures.part c.transitions.ensures.count c.put_distinct-k.ensures.written in
    c.put_head.ensures
    ∙ opened l c.args.out.now _ refl (ap (λ (v : List _). v ++ drop c.args.case.now.header.transitions_at c.args.out.now) c.copy_from_slice.ensures.after) wrote c.copy_from_slice-2.ensures.after
