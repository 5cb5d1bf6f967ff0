use mathlib.Core.Path.{◌≡◌}
use native.Mathlib.Omega.{arith}
use Prim.Native.Nat.{◌*◌, ◌/◌, ◌%◌, ◌^◌}
use borrow.Author.Rules.{rules}
use lib.ListN.{get_or}
use Rattle.sets.specs.Words.{word_count}
use Rattle.sets.proofs.Words.{words_put, with_bits}
use Rattle.sets.proofs.put.Goals.{then-there, else-there}
use Rattle.sets.proofs.put.Goals as goal

pub returns : goal.returns
returns c v h e =
    let s = c.args.s in
    let there = c.args.there in
    let held = c.args.held.now in
    let stored : c.if-there.held ≡ with_bits (get_or held (s / 64) 0) ((1 * 2 ^ (s % 64)) % 2 ^ 64) there = search rules in
    rw (stored, e) (words_put word_count v s there h (omega arith))
