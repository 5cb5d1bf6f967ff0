-- Block k's row is among the blocks'. A round spends, stops or replaces; the loop goes on with what a round leaves, its later blocks where they start.
use Prim.Native.Nat.{◌+◌, ◌-◌}
use mathlib.Core.Path.{◌≡◌, sym, ◌∙◌}
use native.Mathlib.Omega.{arith}
use Rattle.std.proofs.Common.{rules, None}
use Rattle.std.specs.Cmp.Lexicographic.{same_text, other_text}
use Rattle.solver.proofs.Tables.{counted}
use Rattle.solver.proofs.Reading.{own_block}
use Rattle.solver.proofs.Turns.{is_stable, is_replaced, unchanged, begins, out_of_rounds, stopped, goes_on}
use Rattle.solver.proofs.rounds.+round_solve_last.Goals as goal

pub round-returns-then-eq : goal.round-returns-then-eq
round-returns-then-eq t c =
    let a = c.args in
    let blocks = a.file.now.tables.sizes.blocks in
    let q : blocks - (a.left - 1) ≡ blocks - a.left + 1 = omega arith in
    let n = c.right_sides-next.ensures in
    record {
      ready = n.ready;
      answers = is_stable (rw q at c.in_ok-s.ensures.answers) a.file.now.opens (omega arith) n (omega (arith, c.in_ok-budget.ensures)) (same_text _ _ (sym c.if-eq.true ∙ c.eq.ensures));
    }

pub round-returns : goal.round-returns
round-returns t c =
    let a = c.args in
    let blocks = a.file.now.tables.sizes.blocks in
    let q : blocks - (a.left - 1) ≡ blocks - a.left + 1 = omega arith in
    let n = c.right_sides-next.ensures in
    record {
      ready = n.ready;
      answers = is_replaced (rw q at c.in_ok-s.ensures.answers) a.file.now.opens (omega arith) n (omega (arith, c.in_ok-budget.ensures)) (other_text _ _ (sym c.if-eq.false ∙ c.eq.ensures));
    }

pub solve_last-returns-then-left-eq0 : goal.solve_last-returns-then-left-eq0
solve_last-returns-then-left-eq0 t c =
    record { ready = c.requires.0; answers = unchanged (omega (arith, c.if-left-eq0.true, (counted c.args.file.now.opens.counts).blocks)) }

pub solve_last-loop-end-init : goal.solve_last-loop-end-init
solve_last-loop-end-init t c =
    let p = c.requires in
    (omega arith, omega arith, omega arith, p.0.room, p.2, p.0, begins (own_block c.args.file.now.opens (omega arith)) p.2)

pub solve_last-returns-in_err-end : goal.solve_last-returns-in_err-end
solve_last-returns-in_err-end t c =
    let i = c.loop-end.invariant in
    let n = c.in_err-end.ensures in
    let z : c.from_residual.result ≡ None = search rules in
    rw z (record { ready = n.ready; answers = out_of_rounds c.args.file.now.opens (omega (arith, i.0, i.1)) i.6 n.answers })

pub solve_last-returns-in-Break : goal.solve_last-returns-in-Break
solve_last-returns-in-Break t c =
    let i = c.loop-end.invariant in
    let n = rw c.in-Break.is at c.in_ok-end.ensures in
    record { ready = n.ready; answers = stopped c.args.file.now.opens (omega (arith, i.0, i.1)) i.6 n.answers }

pub solve_last-loop-end-preserved : goal.solve_last-loop-end-preserved
solve_last-loop-end-preserved t c =
    let i = c.loop-end.invariant in
    let n = rw c.in-Continue.is at c.in_ok-end.ensures in
    (i.0, i.1, i.2, i.3, i.4, n.ready, goes_on c.args.file.now.opens (omega (arith, i.0, i.1)) i.6 n.answers i.2 i.4)
