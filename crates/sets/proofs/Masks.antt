-- Laws of the numbers and words of sets that a property picks out of a list: bit by bit, the operations on numbers are those on truth values.
use mathlib.Core.Path.{◌≡◌, refl, sym, ap, subst, ◌∙◌}
use mathlib.Core.Bool.{Bool, true, false, not, cond, ◌&&◌, ◌||◌}
use mathlib.Core.List.{List, [], ◌∷◌, map}
use Prim.Native.Nat.{ℕ, zero, suc, ◌+◌, ◌-◌, ◌*◌, ◌/◌, ◌%◌, ◌^◌, ◌<◌, min, max}
use native.Mathlib.Omega.{arith}
use native.Mathlib.Nat.{pow-suc}
use lib.ListN.{length, get_or, take, drop, length-map, length-replicate, get_or-replicate}
use lib.Bits.{bit_and, bit_or, bit_xor, differ, and_step, or_step, xor_step, and_zero_l, or_zero_l, xor_zero_l}
use lib.Dec.{eqb}
use Rattle.std.proofs.lemmas.List.{get_or-map, take-map, drop-map}
use lib.Pow.{pow_pos}
use borrow.Author.Tests.{eq-eqb, ne_eqb}
use Rattle.sets.specs.Lists.{numbers_from}
use Rattle.sets.specs.States.{States, has, start}
use Rattle.sets.specs.Words.{words, number_of_bits, bit}
use Rattle.sets.proofs.Ranges.{by_places}
use Rattle.sets.proofs.Words.{half, odd, number_fits, part, word_at, words_by}

-- ---- operations bit by bit

-- An operation on numbers does to each bit what f does to truth values.
pub record Bitwise (op : ℕ → ℕ → ℕ) (f : Bool → Bool → Bool) : Type 0 where
  pub none : op 0 0 ≡ 0
  pub more : (a b : Bool) (x y : ℕ) → op (bit a + 2 * x) (bit b + 2 * y) ≡ bit (f a b) + 2 * op x y

-- so it is where the operation goes digit by digit, and f is what it does to a digit
digitwise : {op : ℕ → ℕ → ℕ} {f : Bool → Bool → Bool} (digit : ℕ → ℕ → ℕ) → op 0 0 ≡ 0
    → ((x y : ℕ) → op x y ≡ op (x / 2) (y / 2) * 2 + digit (x % 2) (y % 2))
    → ((a b : Bool) → digit (bit a) (bit b) ≡ bit (f a b)) → Bitwise op f
digitwise digit z step is = record {
  none = z;
  more = λ a b x y.
      step (bit a + 2 * x) (bit b + 2 * y) ∙ rw (half a x, half b y, odd a x, odd b y, is a b) (omega arith);
}

-- one bit of an and, an or, a difference and a not
bit_and_lem : (a b : Bool) → min (bit a) (bit b) ≡ bit (a && b)
bit_and_lem true true = omega arith
bit_and_lem true false = omega arith
bit_and_lem false b = omega arith

bit_or_lem : (a b : Bool) → max (bit a) (bit b) ≡ bit (a || b)
bit_or_lem true true = omega arith
bit_or_lem true false = omega arith
bit_or_lem false true = omega arith
bit_or_lem false false = omega arith

bit_differ : (a b : Bool) → differ (bit a) (bit b) ≡ bit (cond a (not b) b)
bit_differ true true = refl
bit_differ true false = refl
bit_differ false b = refl

bit_not : (b : Bool) → bit b + bit (not b) ≡ 1
bit_not true = refl
bit_not false = refl

-- both
pub bitwise_and : Bitwise bit_and ◌&&◌
bitwise_and = digitwise min (and_zero_l 0) and_step bit_and_lem

-- one or the other
pub bitwise_or : Bitwise bit_or ◌||◌
bitwise_or = digitwise max (or_zero_l 0) or_step bit_or_lem

-- exactly one
bitwise_xor : Bitwise bit_xor (λ a b. cond a (not b) b)
bitwise_xor = digitwise differ (xor_zero_l 0) xor_step bit_differ

-- ---- the numbers of sets

module _ {A : Type 0} where
  -- none, and each one
  pub number_false : (xs : List A) → number_of_bits (map (λ x. false) xs) ≡ 0
  unfolding number_of_bits
  number_false [] = refl
  number_false (x ∷ xs) = omega (arith, number_false xs)

  pub number_true : (xs : List A) → number_of_bits (map (λ x. true) xs) ≡ 2 ^ length xs - 1
  unfolding number_of_bits
  number_true [] = refl
  number_true (x ∷ xs) = omega (arith, number_true xs, pow-suc 2 (length xs), pow_pos (length xs))

  -- those that an operation picks
  pub number_bitwise : {op : ℕ → ℕ → ℕ} {f : Bool → Bool → Bool} → Bitwise op f
      → (p q : A → Bool) (xs : List A) → op (number_of_bits (map p xs)) (number_of_bits (map q xs)) ≡ number_of_bits (map (λ x. f (p x) (q x)) xs)
  unfolding number_of_bits
  number_bitwise o p q [] = o.none
  number_bitwise o p q (x ∷ xs) =
      o.more (p x) (q x) (number_of_bits (map p xs)) (number_of_bits (map q xs)) ∙ rw (number_bitwise o p q xs)

  -- the others
  pub number_not : (p : A → Bool) (xs : List A) → (2 ^ length xs - 1) - number_of_bits (map p xs) ≡ number_of_bits (map (λ x. not (p x)) xs)
  unfolding number_of_bits
  number_not p [] = refl
  number_not p (x ∷ xs) = omega (arith, number_not p xs, fits, pow-suc 2 (length xs), bit_not (p x))
    where
      fits : number_of_bits (map p xs) < 2 ^ length xs
      fits = rw (length-map xs p) at (number_fits (map p xs))

-- no number of the range is j
none_before : (j i m : ℕ) → j < i → number_of_bits (map (eqb j) (numbers_from i m)) ≡ 0
unfolding number_of_bits numbers_from
none_before j i zero h = refl
none_before j i (suc m) h = rw (ne_eqb j i (λ e. omega arith)) (omega (arith, none_before j (suc i) m (omega arith)))

-- the number j of the range from i on, alone
one_from : (j i m : ℕ) → i + j < i + m → number_of_bits (map (eqb (i + j)) (numbers_from i m)) ≡ 2 ^ j
unfolding number_of_bits numbers_from
one_from j i zero h = absurd (omega arith)
one_from zero i (suc m) h = rw (eq-eqb (i + 0) i (omega arith)) (omega (arith, none_before (i + 0) (suc i) m (omega arith)))
one_from (suc j) i (suc m) h =
    let e : i + suc j ≡ suc i + j = omega arith in
    let later = subst (λ (x : ℕ). number_of_bits (map (eqb x) (numbers_from (suc i) m)) ≡ 2 ^ j) (sym e) (one_from j (suc i) m (omega arith)) in
    rw (ne_eqb (i + suc j) i (λ q. omega arith)) (omega (arith, later, pow-suc 2 j))

-- j alone
pub number_one : (j m : ℕ) → j < m → number_of_bits (map (eqb j) (numbers_from 0 m)) ≡ 2 ^ j
number_one j m h =
    let e : 0 + j ≡ j = omega arith in
    rw e at (one_from j 0 m (omega arith))

-- ---- the words of sets

module _ {op : ℕ → ℕ → ℕ} {f : Bool → Bool → Bool} (o : Bitwise op f) where
  -- word j of the set that an operation picks
  word_bitwise : {A : Type 0} (p q : A → Bool) (xs : List A) (j : ℕ)
      → op (number_of_bits (part (map p xs) j)) (number_of_bits (part (map q xs) j)) ≡ number_of_bits (part (map (λ x. f (p x) (q x)) xs) j)
  word_bitwise p q xs j = simp (drop-map, take-map) (number_bitwise o p q (take 64 (drop (64 * j) xs)))

  -- words that the operation makes of those of two sets of n states
  pub words_combined : (k n : ℕ) (v w : States) → length v ≡ n → length w ≡ n → (ws : List ℕ) → length ws ≡ k
      → ((j : ℕ) → j < k → get_or ws j 0 ≡ op (get_or (words k v) j 0) (get_or (words k w) j 0))
      → ws ≡ words k (map (λ s. f (has v s) (has w s)) (numbers_from 0 n))
  words_combined k n v w d e ws l is = words_by k _ ws l λ j h.
      is j h ∙ rw (word_at k v j h, word_at k w j h) (rw (table n v d, table n w e) at (word_bitwise (has v) (has w) (numbers_from 0 n) j))
    where
      -- a set by its states
      table : (n : ℕ) (v : States) → length v ≡ n → map (has v) (numbers_from 0 n) ≡ v
      table n v d = sym (by_places (has v) v n false d λ s h. refl)

-- words that turn over each bit of a state below n
pub words_complemented : (k n : ℕ) (v : States) → length v ≡ n → (ws : List ℕ) → length ws ≡ k
    → ((j : ℕ) → j < k → get_or ws j 0 ≡ bit_xor (get_or (words k (start n true)) j 0) (get_or (words k v) j 0))
    → ws ≡ words k (map not v)
words_complemented k n v d ws l is = words_combined bitwise_xor k n (start n true) v (length-replicate n true) d ws l is ∙ ap (words k) turned
  where
    turned : map (λ s. cond (has (start n true) s) (not (has v s)) (has v s)) (numbers_from 0 n) ≡ map not v
    turned = sym (by_places _ (map not v) n false (length-map v not ∙ d) λ s h.
        get_or-map not v s false false (omega arith) ∙ rw (get_or-replicate n s true false h) refl)
