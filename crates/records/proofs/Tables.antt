-- Laws of tables as bytes: their records, places in them, and reading them back.
use mathlib.Core.Path.{◌≡◌, refl, sym, ap, ◌∙◌}
use mathlib.Core.Bool.{◌&&◌}
use mathlib.Core.List.{List, [], ◌∷◌, ◌++◌, map, append_assoc}
use Prim.Native.Nat.{ℕ, zero, suc, ◌+◌, ◌*◌, ◌/◌, ◌%◌, ◌≤◌, ◌<◌}
use native.Mathlib.Nat.{div-add-mod, mod-eq_of_lt, zero-add}
use native.Mathlib.Omega.{arith}
use lib.Dec.{T, ltb, ltb→lt}
use lib.ListN.{length, get_or, take, drop, set}
use lib.Seq.{drop-cons, set_split, ext_get_or}
use Rattle.sets.specs.Lists.{numbers_from, every}
use Rattle.sets.proofs.Lists.{and_left, and_right, length_table, table_at}
use Rattle.cases.specs.declared.Transition.{Transition}
use Rattle.cases.specs.File.{u16, transition_in}
use Rattle.cases.specs.Case.{transition_at}
use Rattle.cases.specs.Conditions.{transition_ok}
use Rattle.cases.specs.internal.Checks.{transitions_in}
use Rattle.records.specs.Replaced.{bytes16, record_bytes, table_bytes}
use Rattle.records.specs.internal.Writing.{AllBytes, over}

-- six bytes for each record
pub length_table_bytes : (ts : List Transition) → length (table_bytes ts) ≡ 6 * length ts
unfolding table_bytes
length_table_bytes [] = refl
length_table_bytes (t ∷ ts) = omega (arith, length_table_bytes ts)

-- the bytes of two tables follow one another
pub table_append : (ts us : List Transition) → table_bytes (ts ++ us) ≡ table_bytes ts ++ table_bytes us
unfolding table_bytes
table_append [] us = refl
table_append (t ∷ ts) us = rw (table_append ts us)

-- one record more
six : (k : ℕ) → 6 * suc k ≡ suc (suc (suc (suc (suc (suc (6 * k))))))
six k = omega arith

-- the bytes of the first records, and of those behind them
pub table_take : (k : ℕ) (ts : List Transition) → take (6 * k) (table_bytes ts) ≡ table_bytes (take k ts)
unfolding table_bytes
table_take zero ts = refl
table_take (suc k) [] = rw (six k)
table_take (suc k) (t ∷ ts) = rw (six k, table_take k ts)

pub table_drop : (k : ℕ) (ts : List Transition) → drop (6 * k) (table_bytes ts) ≡ table_bytes (drop k ts)
unfolding table_bytes
table_drop zero ts = refl
table_drop (suc k) [] = rw (six k)
table_drop (suc k) (t ∷ ts) = rw (six k, table_drop k ts)

-- another record in a place
pub table_set : (ts : List Transition) (i : ℕ) (t : Transition) → i < length ts → over (table_bytes ts) (6 * i) (record_bytes t) ≡ table_bytes (set ts i t)
unfolding table_bytes
table_set ts i t h =
    let behind : 6 * i + 6 ≡ 6 * suc i = omega arith in
    rw (behind, table_take i ts, table_drop (suc i) ts) (sym (ap table_bytes (set_split ts i t h) ∙ table_append (take i ts) (t ∷ drop (suc i) ts)))

-- ---- records written again

-- a number of 16 bits has two bytes
pub two_bytes : (a b : ℕ) → a < 256 → b < 256 → bytes16 (a + 256 * b) ≡ a ∷ b ∷ []
two_bytes a b h g =
    let low : (a + 256 * b) % 256 ≡ a = omega (arith, div-add-mod (a + 256 * b) 256) in
    let high : (a + 256 * b) / 256 ≡ b = omega (arith, div-add-mod (a + 256 * b) 256) in
    rw (low, high, mod-eq_of_lt g)

module _ (part : List ℕ) (bytes : AllBytes part) where
  -- a number that was read is the two bytes where it stands
  number_again : (at : ℕ) → at + 2 ≤ length part → drop at part ≡ bytes16 (u16 part at) ++ drop (at + 2) part
  unfolding u16
  number_again at h =
      let one : at + 1 ≡ suc at = omega arith in
      let two : at + 2 ≡ suc (suc at) = omega arith in
      let bytes_are : drop at part ≡ get_or part at 0 ∷ get_or part (at + 1) 0 ∷ drop (at + 2) part =
      rw (one, two) (drop-cons part at 0 (omega arith) ∙ ap (λ (l : List ℕ). get_or part at 0 ∷ l) (drop-cons part (suc at) 0 (omega arith))) in
      bytes_are ∙ ap (λ (l : List ℕ). l ++ drop (at + 2) part) (sym (two_bytes (get_or part at 0) (get_or part (at + 1) 0) (bytes at) (bytes (at + 1))))

  -- so is a record,
  record_again : (i : ℕ) → 6 * suc i ≤ length part → drop (6 * i) part ≡ record_bytes (transition_in part i) ++ drop (6 * suc i) part
  record_again i h =
      let second : 6 * i + 2 + 2 ≡ 6 * i + 4 = omega arith in
      let third : 6 * i + 4 + 2 ≡ 6 * suc i = omega arith in
      number_again (6 * i) (omega arith)
      ∙ ap (λ (l : List ℕ). bytes16 (u16 part (6 * i)) ++ l)
      (number_again (6 * i + 2) (omega arith) ∙ rw second (ap (λ (l : List ℕ). bytes16 (u16 part (6 * i + 2)) ++ l) (number_again (6 * i + 4) (omega arith) ∙ rw third)))

  -- and a table.
  again_from : (i k : ℕ) → 6 * (i + k) ≤ length part → drop (6 * i) part ≡ table_bytes (map (transition_in part) (numbers_from i k)) ++ drop (6 * (i + k)) part
  unfolding table_bytes numbers_from
  again_from i zero h = let all : i + 0 ≡ i = omega arith in rw all
  again_from i (suc k) h =
      let next : suc i + k ≡ i + suc k = omega arith in
      record_again i (omega arith) ∙ ap (λ (l : List ℕ). record_bytes (transition_in part i) ++ l) (again_from (suc i) k (omega arith) ∙ rw next)

  pub table_again : (m : ℕ) → 6 * m ≤ length part → part ≡ table_bytes (transitions_in part m) ++ drop (6 * m) part
  unfolding transitions_in
  table_again m h = let all : 0 + m ≡ m = zero-add m in again_from 0 m (rw all h) ∙ rw all

-- ---- tables read back

-- a number of 16 bits from its bytes
pub back : (x : ℕ) → x < 65536 → x % 256 + 256 * (x / 256 % 256) ≡ x
back x h =
    let high : x / 256 < 256 = omega arith in
    rw (mod-eq_of_lt high) (omega (arith, div-add-mod x 256))

-- the record behind the first is the first of the rest
transition_next : (t : Transition) (rest : List ℕ) (i : ℕ) → transition_in (record_bytes t ++ rest) (suc i) ≡ transition_in rest i
unfolding u16
transition_next t rest i =
    let a : 6 * suc i ≡ suc (suc (suc (suc (suc (suc (6 * i)))))) = omega arith in
    let b : 6 * suc i + 1 ≡ suc (suc (suc (suc (suc (suc (6 * i + 1)))))) = omega arith in
    let c : 6 * suc i + 2 ≡ suc (suc (suc (suc (suc (suc (6 * i + 2)))))) = omega arith in
    let d : 6 * suc i + 2 + 1 ≡ suc (suc (suc (suc (suc (suc (6 * i + 2 + 1)))))) = omega arith in
    let e : 6 * suc i + 4 ≡ suc (suc (suc (suc (suc (suc (6 * i + 4)))))) = omega arith in
    let f : 6 * suc i + 4 + 1 ≡ suc (suc (suc (suc (suc (suc (6 * i + 4 + 1)))))) = omega arith in
    rw (f, d, b, e, c, a)

module _ (n l : ℕ) (few : n ≤ 65536) (small : l ≤ 65536) where
  -- the first record
  transition_first : (t : Transition) (rest : List ℕ) → T (transition_ok n l t) → transition_in (record_bytes t ++ rest) 0 ≡ t
  unfolding u16
  transition_first t rest ok =
      let ends : T (ltb t.source n && ltb t.label l) = and_left (ltb t.source n && ltb t.label l) (ltb t.target n) ok in
      let source : t.source < 65536 = omega (arith, ltb→lt t.source n (and_left (ltb t.source n) (ltb t.label l) ends)) in
      let label : t.label < 65536 = omega (arith, ltb→lt t.label l (and_right (ltb t.source n) (ltb t.label l) ends)) in
      let target : t.target < 65536 = omega (arith, ltb→lt t.target n (and_right (ltb t.source n && ltb t.label l) (ltb t.target n) ok)) in
      rw (back t.source source, back t.label label, back t.target target)

  transition_back : (ts : List Transition) (rest : List ℕ) (i : ℕ) → T (every (transition_ok n l) ts) → i < length ts → transition_in (table_bytes ts ++ rest) i ≡ transition_at ts i
  unfolding table_bytes every
  transition_back [] rest i ok h = absurd (omega arith)
  transition_back (t ∷ ts) rest zero ok h = rw append_assoc (transition_first t (table_bytes ts ++ rest) (and_left (transition_ok n l t) (every (transition_ok n l) ts) ok))
  transition_back (t ∷ ts) rest (suc i) ok h =
      rw append_assoc (transition_next t (table_bytes ts ++ rest) i) ∙ transition_back ts rest i (and_right (transition_ok n l t) (every (transition_ok n l) ts) ok) (omega arith)

  pub table_back : (ts : List Transition) (rest : List ℕ) → T (every (transition_ok n l) ts) → transitions_in (table_bytes ts ++ rest) (length ts) ≡ ts
  unfolding transitions_in
  table_back ts rest ok =
      let long = length_table (transition_in (table_bytes ts ++ rest)) (length ts) in
      ext_get_or _ _ ts long (λ i h. let inside : i < length ts = rw long at h in table_at (transition_in (table_bytes ts ++ rest)) (length ts) i _ inside ∙ transition_back ts rest i ok inside)
