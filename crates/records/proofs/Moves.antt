-- Laws of bytes that are moved and written over.
use mathlib.Core.Path.{◌≡◌, refl, sym, ap, ◌∙◌}
use mathlib.Core.List.{List, [], ◌++◌, append_assoc, append-nil}
use Prim.Native.Nat.{ℕ, suc, ◌+◌, ◌-◌, ◌≤◌}
use native.Mathlib.Nat.{add_assoc, zero-add}
use native.Mathlib.Omega.{arith}
use lib.ListN.{length, take, drop, length-append, length-drop, drop_of_length-le}
use lib.Seq.{paste, take_all, take-take, take_at, drop_at, drop-drop, length-take-le, drop-append-add, take-append-add, drop-append-le, take-append-le, sets-eq}
use borrow.Rule.Slice.PartMut.{put_mid}
use Rattle.std.specs.List.{copy_within}
use Rattle.cases.specs.declared.Transition.{Transition}
use Rattle.records.specs.Replaced.{record_bytes, with_number}
use Rattle.records.specs.internal.Writing.{over}

-- ---- writing over

-- six bytes that are stored one by one
pub record_over : (s : List ℕ) (at : ℕ) (t : Transition) → at + 6 ≤ length s
    → with_number (with_number (with_number s at t.source) (at + 2) t.label) (at + 4) t.target ≡ over s at (record_bytes t)
unfolding with_number
record_over s at t h =
    let one : at + 1 ≡ suc at = omega arith in
    let two : at + 2 ≡ suc (suc at) = omega arith in
    let three : at + 2 + 1 ≡ suc (suc (suc at)) = omega arith in
    let four : at + 4 ≡ suc (suc (suc (suc at))) = omega arith in
    let five : at + 4 + 1 ≡ suc (suc (suc (suc (suc at)))) = omega arith in
    rw (three, five, one, two, four) (sets-eq (record_bytes t) s at h ∙ append_assoc (take at s) (record_bytes t) _)

-- what is written over behind a list, and inside one
pub over_behind : (p q : List ℕ) (at : ℕ) (vs : List ℕ) → over (p ++ q) (length p + at) vs ≡ p ++ over q at vs
over_behind p q at vs =
    rw (add_assoc, take-append-add p q at, drop-append-add p q (at + length vs), append_assoc)

pub over_inside : (p q : List ℕ) (at : ℕ) (vs : List ℕ) → at + length vs ≤ length p → over (p ++ q) at vs ≡ over p at vs ++ q
over_inside p q at vs h =
    rw (take-append-le at p q (omega arith), drop-append-le (at + length vs) p q h, append_assoc, append_assoc)

-- ---- parts that are lent

-- a part from `at` on is lent, and what it becomes stands behind the rest
pub lent_back : (s ys : List ℕ) (at : ℕ) → take at s ++ (ys ++ drop (length s - at) (drop at s)) ≡ take at s ++ ys
lent_back s ys at =
    let none : drop (length s - at) (drop at s) ≡ [] = drop_of_length-le (drop at s) {i = length s - at} (omega (arith, length-drop at s)) in
    rw (none, append-nil ys)

-- ---- a gap

module _ (p v q z : List ℕ) (at by tail : ℕ) (long_front : length p ≡ at) (wide : length v ≡ by) (rest : length q ≡ tail) where
  -- What follows was moved up, and the gap is written over.
  pub gap_filled : (s : List ℕ) → s ≡ p ++ (q ++ z) → by ≤ length z → {n : ℕ} → n ≡ tail
      → over (paste s (at + by) (drop at s) n) at v ≡ p ++ (v ++ (q ++ drop by z))
  gap_filled s is h {n} e =
      let long_before : length (take (at + by) s) ≡ at + by = length-take-le (at + by) s (omega (arith, ap length is, length-append p (q ++ z), length-append q z)) in
      let moved : List ℕ = take n (drop at s) ++ drop (at + by + n) s in
      let front : take at (take (at + by) s ++ moved) ≡ p =
      take-append-le at (take (at + by) s) moved (omega arith) ∙ take-take at (at + by) s (omega arith) ∙ ap (take at) is ∙ take_at p (q ++ z) at long_front in
      let part : drop at s ≡ q ++ z = ap (drop at) is ∙ drop_at p (q ++ z) at long_front in
      let sum : at + by + n ≡ at + (tail + by) = omega arith in
      let behind : drop (at + by + n) s ≡ drop by z = rw (sum, ← drop-drop (tail + by) at s, part, ← drop-drop by tail (q ++ z), drop_at q z tail rest) refl in
      let moved_is : moved ≡ q ++ drop by z = rw (behind, part, e, take_at q z tail rest) refl in
      ap (λ (u : List ℕ). over u at v) (append_assoc (take (at + by) s) (take n (drop at s)) (drop (at + by + n) s))
      ∙ rw (wide, front, drop_at (take (at + by) s) moved (at + by) long_before, moved_is) refl

  -- What follows was moved down over it, in the part that holds both.
  pub gap_closed : (s : List ℕ) → s ≡ p ++ (v ++ (q ++ z)) → {n : ℕ} {ys : List ℕ} → n ≡ by + tail
      → ys ≡ copy_within (take n (drop at s)) by (length (take n (drop at s))) 0
      → put_mid at n s ys ≡ p ++ (q ++ drop tail (v ++ (q ++ z)))
  gap_closed s is {n} {ys} e moved =
      let long : length (v ++ q) ≡ n = omega (arith, length-append v q) in
      let left : n - by ≡ tail = omega arith in
      let split : v ++ (q ++ z) ≡ (v ++ q) ++ z = sym (append_assoc v q z) in
      let front : take at s ≡ p = ap (take at) is ∙ take_at p (v ++ (q ++ z)) at long_front in
      let part : drop at s ≡ (v ++ q) ++ z = ap (drop at) is ∙ drop_at p (v ++ (q ++ z)) at long_front ∙ split in
      let both : take n (drop at s) ≡ v ++ q = ap (take n) part ∙ take_at (v ++ q) z n long in
      let behind : drop n (drop at s) ≡ z = ap (drop n) part ∙ drop_at (v ++ q) z n long in
      let whole : ys ≡ q ++ drop tail (v ++ q) = moved ∙ rw (both, long, left, drop_at v q by wide, take_all tail q (omega arith), zero-add tail) refl in
      let kept : drop tail (v ++ (q ++ z)) ≡ drop tail (v ++ q) ++ z = ap (drop tail) split ∙ drop-append-le tail (v ++ q) z (omega arith) in
      rw (front, behind, whole, kept) (ap (λ (l : List ℕ). p ++ l) (append_assoc q (drop tail (v ++ q)) z))
