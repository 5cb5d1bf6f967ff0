-- Laws of the numbers that a writer wrote.
use mathlib.Core.Path.{◌≡◌, refl, sym, ap, ◌∙◌}
use mathlib.Core.List.{List, [], ◌∷◌, ◌++◌, append_assoc, append-nil}
use Prim.Native.Nat.{ℕ, ◌+◌, ◌-◌, ◌*◌}
use native.Mathlib.Omega.{arith}
use lib.ListN.{length, take, drop, length-append, length-drop, take-append-drop, drop_of_length-le}
use lib.Seq.{take_all, take_at, drop_at, drop-drop}
use Rattle.translate.specs.Bytes.{bytes}
use Rattle.translate.specs.declared.bytes.Writer.{Writer}
use Rattle.translate.specs.internal.Parts.{Wrote, Starts}
use Rattle.translate.proofs.NumberBytes.{length_bytes}

-- the bytes of two lists follow one another
pub bytes_append : (xs ys : List ℕ) → bytes (xs ++ ys) ≡ bytes xs ++ bytes ys
unfolding bytes
bytes_append [] ys = refl
bytes_append (x ∷ xs) ys = rw (bytes_append xs ys)

-- nothing is written
pub wrote_none : (w : Writer) → Wrote [] w w
unfolding bytes
wrote_none w = record { same_buffer = refl; long = refl; done = omega arith; written = sym (append-nil (take (4 * w.done) w.out.now)); behind = refl }

-- What is written behind numbers follows them.
pub wrote_then : {xs ys : List ℕ} {a b c : Writer} → Wrote xs a b → Wrote ys b c → Wrote (xs ++ ys) a c
wrote_then {xs} {ys} {a} {b} {c} p q =
    let k : 4 * c.done ≡ 4 * b.done + 4 * length ys = omega (arith, q.done) in
    let front : List ℕ = take (4 * a.done) a.out.now in
    let from : (s : List ℕ) → drop (4 * c.done) s ≡ drop (4 * length ys) (drop (4 * b.done) s) =
    λ s. ap (λ (j : ℕ). drop j s) k ∙ sym (drop-drop (4 * length ys) (4 * b.done) s) in
    record {
      same_buffer = q.same_buffer ∙ p.same_buffer;
      long = q.long ∙ p.long;
      done = omega (arith, p.done, q.done, length-append xs ys);
      written = q.written ∙ ap (λ (l : List ℕ). l ++ bytes ys) p.written ∙ append_assoc front (bytes xs) (bytes ys)
          ∙ ap (λ (l : List ℕ). front ++ l) (sym (bytes_append xs ys));
      behind = q.behind ∙ from b.out.now ∙ ap (drop (4 * length ys)) p.behind ∙ sym (from a.out.now);
    }

-- Where a writer began at the start of a buffer, that buffer starts with what it wrote.
pub wrote_start : {xs : List ℕ} {a b : Writer} → a.done ≡ 0 → Wrote xs a b → Starts xs a.out.now b.out.now
wrote_start {xs} {a} {b} z w =
    let k : 4 * b.done ≡ 4 * length xs = omega (arith, w.done, z) in
    let none : 4 * a.done ≡ 0 = omega (arith, z) in
    sym (take-append-drop (4 * b.done) b.out.now) ∙ ap (λ (l : List ℕ). l ++ drop (4 * b.done) b.out.now) (w.written ∙ ap (λ (j : ℕ). take j a.out.now ++ bytes xs) none)
    ∙ ap (λ (l : List ℕ). bytes xs ++ l) (w.behind ∙ ap (λ (j : ℕ). drop j a.out.now) k)

-- What is written to the part that starts behind numbers follows them.
pub starts_then : (xs ys : List ℕ) {at : ℕ} (s : List ℕ) {t u part : List ℕ} → at ≡ 4 * length xs → Starts xs s t → Starts ys (take (length t - at) (drop at t)) part
    → u ≡ take at t ++ (part ++ drop (length t - at) (drop at t)) → Starts (xs ++ ys) s u
starts_then xs ys {at} s {t} {u} {part} e p q is =
    let l : length (bytes xs) ≡ at = length_bytes xs ∙ sym e in
    let r : List ℕ = drop (4 * length xs) s in
    let head : take at t ≡ bytes xs = ap (take at) p ∙ take_at (bytes xs) r at l in
    let tail : drop at t ≡ r = ap (drop at) p ∙ drop_at (bytes xs) r at l in
    let whole : take (length t - at) (drop at t) ≡ drop at t = take_all (length t - at) (drop at t) (omega (arith, length-drop at t)) in
    let none : drop (length t - at) (drop at t) ≡ [] = drop_of_length-le (drop at t) {i = length t - at} (omega (arith, length-drop at t)) in
    let lent : part ≡ bytes ys ++ drop (4 * length ys) r = q ∙ ap (λ (m : List ℕ). bytes ys ++ drop (4 * length ys) m) (whole ∙ tail) in
    let k : 4 * length xs + 4 * length ys ≡ 4 * length (xs ++ ys) = omega (arith, length-append xs ys) in
    is ∙ rw (none, append-nil part, head, lent, bytes_append xs ys, append_assoc, drop-drop (4 * length ys) (4 * length xs) s, k)
