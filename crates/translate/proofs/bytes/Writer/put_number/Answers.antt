use mathlib.Core.Path.{◌≡◌, refl, ap, ◌∙◌}
use mathlib.Core.List.{List, [], ◌∷◌, ◌++◌}
use Prim.Native.Nat.{ℕ, ◌+◌, ◌-◌, ◌*◌}
use native.Mathlib.Omega.{arith}
use lib.ListN.{length, take, drop, length-drop}
use Rattle.std.proofs.lemmas.Slice.{take-put_mid, drop-put_mid}
use borrow.Rule.Slice.PartMut.{same_len_mid}
use lib.Seq.{length-take-le}
use Rattle.translate.specs.Bytes.{bytes}
use Rattle.translate.proofs.bytes.Writer.put_number.Goals as goal

pub returns : goal.returns
unfolding bytes
returns c =
    let w = c.args.self.now in
    let at : ℕ = 4 * w.done in
    let ys : List ℕ = c.copy_from_slice.new.self in
    let is : ys ≡ bytes (c.args.x ∷ []) = rw (c.copy_from_slice.ensures.after, c.to_le_bytes.ensures) refl in
    let four : length ys ≡ 4 = ap length is in
    record {
      same_buffer = refl;
      long = same_len_mid at (at + 4 - at) w.out.now ys (omega (arith, four, length-take-le (at + 4 - at) (drop at w.out.now) (omega (arith, length-drop at w.out.now))));
      done = refl;
      written = take-put_mid at (at + 4 - at) w.out.now ys (4 * (w.done + 1)) (omega (arith, four)) (omega arith) ∙ ap (λ (l : List ℕ). take at w.out.now ++ l) is;
      behind = drop-put_mid at (at + 4 - at) w.out.now ys (4 * (w.done + 1)) (omega arith) (omega arith) (omega (arith, four));
    }
