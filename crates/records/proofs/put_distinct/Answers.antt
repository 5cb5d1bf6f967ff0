use mathlib.Core.Path.{◌≡◌, refl, sym, ◌∙◌}
use native.Mathlib.Omega.{arith}
use Rattle.records.proofs.Writing.{firsts_none, firsts_more, firsts_same, firsts_all, wrote_one}
use Rattle.records.proofs.put_distinct.Goals as goal
use Rattle.records.proofs.put_distinct.Goals.{then-is_first, else-is_first}

pub loop-i-init : goal.loop-i-init
loop-i-init c = let t = c.args.flagged.now.table in record { long = refl; few = omega arith; wrote = firsts_none t.part.now c.args.out.now t.count }

pub loop-i-preserved : goal.loop-i-preserved
loop-i-preserved c =
    let l = c.loop-i in
    let t = c.args.flagged.now.table in
    elim c.if-is_first.branch [
      | then-is_first w ↦ record {
        long = omega arith;
        few = omega arith;
        wrote = rw (firsts_more t.part.now t.count l.i (sym c.is_first.ensures ∙ w.if-is_first.true), w.out-is, w.k-is) (wrote_one _ l.invariant.wrote (rw w.at.ensures at w.put_record.ensures));
      }
      | else-is_first w ↦ record {
        long = omega arith;
        few = omega arith;
        wrote = rw (firsts_same t.part.now t.count l.i (sym c.is_first.ensures ∙ w.if-is_first.false), w.out-is, w.k-is) l.invariant.wrote;
      }
    ]

pub returns : goal.returns
returns c =
    let t = c.args.flagged.now.table in
    let all : c.loop-i.i ≡ t.count = omega arith in
    record { written = firsts_all t.part.now t.count (rw all at c.loop-i.invariant.wrote); few = omega arith }
