use native.Mathlib.Omega.{arith}
use Rattle.cases.proofs.Searching.{found_none, initial_below, accepted_model, searched_first, targets_below, taken_below, done_below, searched_next, searched_all, place_fits}
use Rattle.cases.proofs.reach.reachable.Goals as goal

pub find-requires : goal.find-requires
find-requires c =
    let case = c.args.case.now in
    let (initial, model) = accepted_model case.laid.bytes.now case.accepted case.laid.laid.read c.transitions-table.ensures.part c.transitions-table.ensures.count in
    (_, found_none _ model.few (c.empty.ensures _), rw initial (initial_below model))

pub loop-done-init : goal.loop-done-init
loop-done-init c =
    let case = c.args.case.now in
    let (initial, model) = accepted_model case.laid.bytes.now case.accepted case.laid.laid.read c.transitions-table.ensures.part c.transitions-table.ensures.count in
    let found = rw initial at (c.find.ensures _ (found_none _ model.few (c.empty.ensures _))) in
    (model, _, searched_first model (found (initial_below model)).0)

pub bounds-search-done : goal.bounds-search-done
bounds-search-done c = let (model, v, s) = c.loop-done.invariant in done_below model s c.loop-done-test.true

pub offset_bounds-search-done : goal.offset_bounds-search-done
offset_bounds-search-done c = let (model, v, s) = c.loop-done.invariant in place_fits (done_below model s c.loop-done-test.true)

pub overflow_add-done : goal.overflow_add-done
overflow_add-done c = let (model, v, s) = c.loop-done.invariant in omega (arith, done_below model s c.loop-done-test.true)

pub find_targets-requires : goal.find_targets-requires
find_targets-requires c =
    let (model, v, s) = c.loop-done.invariant in (
      rw (← c.transitions-table.ensures.part, ← c.transitions-table.ensures.count) at c.requires,
      v,
      s.found,
      targets_below model s,
      taken_below model s c.loop-done-test.true,
    )

pub loop-done-smaller : goal.loop-done-smaller
loop-done-smaller c = let (model, v, s) = c.loop-done.invariant in omega (arith, done_below model s c.loop-done-test.true)

pub loop-done-preserved : goal.loop-done-preserved
loop-done-preserved c =
    let (model, v, s) = c.loop-done.invariant in
    let (w, found, grown, wide) = c.find_targets.ensures v s.found (targets_below model s) in
    (model, w, searched_next model s c.loop-done-test.true found grown wide)

pub returns : goal.returns
returns c = let (model, v, s) = c.loop-done.invariant in searched_all model s c.loop-done-test.false
