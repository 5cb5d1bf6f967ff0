use mathlib.Core.Path.{sym, ◌∙◌}
use mathlib.Core.Bool.{true≢false}
use Rattle.solver.proofs.Reading.{opened_unread}
use Rattle.solver.proofs.conditions.lay_out.Goals as goal

pub returns-clause-refuses : goal.returns-clause-refuses
returns-clause-refuses c = opened_unread _ _ c.sizes_of-sizes.ensures (λ read. elim c.else-counts_hold.branch [
  | goal.else-counts_hold-via-then-counts_hold+else-places_hold w ↦ true≢false (sym (w.places_hold.ensures.1 read.places) ∙ w.if-places_hold.false)
  | goal.else-counts_hold-via-else-counts_hold w ↦ true≢false (sym (c.counts_hold.ensures.1 read.counts) ∙ w.if-counts_hold.false)
])
