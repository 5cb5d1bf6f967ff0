use mathlib.Core.Path.{◌≡◌, ◌∙◌}
use Prim.Native.Nat.{◌-◌}
use native.Mathlib.Omega.{arith}
use Rattle.std.proofs.Common.{rules, None, length, replicate}
use Rattle.solver.proofs.Tables.{counted}
use Rattle.solver.proofs.Runs.{all_started, cleared_ready, ran_spent, ran}
use Rattle.solver.proofs.run.Goals as goal

pub solve_last-requires : goal.solve_last-requires
solve_last-requires c =
    let f = c.args.file.now in
    let q : f.tables.sizes.blocks - f.tables.sizes.blocks ≡ 0 = omega arith in
    let z : c.fill.new.self ≡ replicate (length c.args.work.now) 0 = search rules in
    (cleared_ready (c.requires ∙ (counted f.opens.counts).cells) z, omega arith, rw q (all_started f.opens c.starts-starts.ensures))

pub returns-in_err-sets : goal.returns-in_err-sets
returns-in_err-sets c =
    let f = c.args.file.now in
    let q : f.tables.sizes.blocks - f.tables.sizes.blocks ≡ 0 = omega arith in
    let n = rw q at c.in_err-sets.ensures in
    let z : c.from_residual.result ≡ None = search rules in
    rw z (record { ready = n.ready; answers = ran_spent f.opens.formed c.starts-starts.ensures n.answers })

pub returns : goal.returns
returns c =
    let f = c.args.file.now in
    let q : f.tables.sizes.blocks - f.tables.sizes.blocks ≡ 0 = omega arith in
    let n = rw q at c.in_ok-sets.ensures in
    let v = c.evaluate.ensures in
    record { ready = v.ready; answers = ran f.opens.formed c.starts-starts.ensures n.answers v }
