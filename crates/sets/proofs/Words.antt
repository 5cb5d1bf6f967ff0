-- Laws of the words that hold a set, for any number of words.
use mathlib.Core.Path.{◌≡◌, refl, sym, ap, ◌∙◌}
use mathlib.Core.Logic.{◌≢◌}
use mathlib.Core.Bool.{Bool, true, false, cond}
use mathlib.Core.List.{List, [], ◌∷◌, ◌++◌}
use Prim.Native.Nat.{ℕ, zero, suc, ◌+◌, ◌-◌, ◌*◌, ◌/◌, ◌%◌, ◌^◌, ◌<◌, ◌≤◌, min}
use native.Mathlib.Omega.{arith}
use native.Mathlib.Decide.{dec_lt, ℕ_discrete}
use native.Mathlib.Nat.{pow-suc, pow-zero, zero-div, div-one, one-mul, sub-zero, zero-sub, suc-sub-suc, zero-min, min-zero, suc-min-suc}
use native.Mathlib.Numerals.{one-add}
use lib.ListN.{length, get_or, set, take, drop, replicate, length-set, length-take, length-drop, length-replicate, get_or-replicate, get_or-append, get_or-eq_default}
use lib.Seq.{get_or-take, get_or-drop, drop-drop, ext_get_or, get_or-set_same, get_or-set_other, drop-set-add, drop-set-lt, take-set-le, take-set-lt, take-append_seam}
use lib.Dec.{eqb, lit<}
use borrow.Author.Count.{below_none, below_more}
use lib.Bits.{bit_and, bit_or, and_step, or_step, and_zero_l, or_zero_r}
use lib.Pow.{pow_mono, pow_pos, shl_exact, shr-shr}
use Rattle.sets.specs.States.{States, has, start}
use Rattle.sets.specs.Words.{words, number_of_bits, marked, bit, Marks, word_count, state_limit}

-- ---- the number of a set

-- the number without its first state
pub half : (b : Bool) (x : ℕ) → (bit b + 2 * x) / 2 ≡ x
half true x = omega arith
half false x = omega arith

-- its first state
pub odd : (b : Bool) (x : ℕ) → (bit b + 2 * x) % 2 ≡ bit b
odd true x = omega arith
odd false x = omega arith

-- a bit is 0 or 1
pub bit_low : (b : Bool) → bit b ≤ 1
bit_low true = omega arith
bit_low false = omega arith

-- bit s of a set's number says whether state s is in the set
pub number_bit : (v : States) (s : ℕ) → number_of_bits v / 2 ^ s % 2 ≡ bit (has v s)
unfolding number_of_bits
number_bit [] s = rw (zero-div (2 ^ s)) refl
number_bit (b ∷ v) zero = rw (pow-zero 2, div-one) (odd b (number_of_bits v))
number_bit (b ∷ v) (suc s) = rw (← one-add s, ← shr-shr (bit b + 2 * number_of_bits v) 1 s, half b (number_of_bits v)) (number_bit v s)

-- a set of n states has a number of n bits
pub number_fits : (v : States) → number_of_bits v < 2 ^ length v
unfolding number_of_bits
number_fits [] = omega arith
number_fits (b ∷ v) = omega (arith, number_fits v, pow-suc 2 (length v), bit_low b)

-- one state more is one bit more
number_add : (v : States) (s : ℕ) → s < length v → bit_or (number_of_bits v) (2 ^ s) ≡ number_of_bits (set v s true)
unfolding number_of_bits
number_add [] s h = absurd (omega arith)
number_add (b ∷ v) zero h =
    or_step (bit b + 2 * number_of_bits v) 1 ∙ rw (half b (number_of_bits v), odd b (number_of_bits v), or_zero_r (number_of_bits v)) (omega (arith, bit_low b))
number_add (b ∷ v) (suc s) h =
    rw (pow-suc 2 s)
    (or_step (bit b + 2 * number_of_bits v) (2 ^ s * 2)
    ∙ rw (half b (number_of_bits v), odd b (number_of_bits v), double (2 ^ s), even (2 ^ s), number_add v s (omega arith)) (omega (arith, bit_low b)))
  where
    double : (x : ℕ) → x * 2 / 2 ≡ x
    double x = omega arith

    even : (x : ℕ) → x * 2 % 2 ≡ 0
    even x = omega arith

-- a number of m bits, and a mask of all m
mask_all : (v : States) (m : ℕ) → length v ≤ m → bit_and (number_of_bits v) (2 ^ m - 1) ≡ number_of_bits v
unfolding number_of_bits
mask_all [] m h = and_zero_l (2 ^ m - 1)
mask_all (b ∷ v) zero h = absurd (omega arith)
mask_all (b ∷ v) (suc m) h =
    let l : (2 ^ suc m - 1) / 2 ≡ 2 ^ m - 1 = omega (arith, pow-suc 2 m, pow_pos m) in
    let o : (2 ^ suc m - 1) % 2 ≡ 1 = omega (arith, pow-suc 2 m, pow_pos m) in
    and_step (bit b + 2 * number_of_bits v) (2 ^ suc m - 1)
    ∙ rw (half b (number_of_bits v), odd b (number_of_bits v), l, o, mask_all v m (omega arith)) (omega (arith, bit_low b))

-- one state less is one bit less, in words of m bits
number_remove : (v : States) (s m : ℕ) → s < length v → length v ≤ m → bit_and (number_of_bits v) (2 ^ m - 1 - 2 ^ s) ≡ number_of_bits (set v s false)
unfolding number_of_bits
number_remove [] s m h g = absurd (omega arith)
number_remove (b ∷ v) s zero h g = absurd (omega arith)
number_remove (b ∷ v) zero (suc m) h g =
    let l : (2 ^ suc m - 1 - 2 ^ 0) / 2 ≡ 2 ^ m - 1 = omega (arith, pow-suc 2 m, pow_pos m, pow-zero 2) in
    let o : (2 ^ suc m - 1 - 2 ^ 0) % 2 ≡ 0 = omega (arith, pow-suc 2 m, pow_pos m, pow-zero 2) in
    and_step (bit b + 2 * number_of_bits v) (2 ^ suc m - 1 - 2 ^ 0)
    ∙ rw (half b (number_of_bits v), odd b (number_of_bits v), l, o, mask_all v m (omega arith)) (omega (arith, bit_low b))
number_remove (b ∷ v) (suc s) (suc m) h g =
    let wide : 2 ^ suc s ≤ 2 ^ m = pow_mono {i = suc s} {j = m} (omega arith) in
    let l : (2 ^ suc m - 1 - 2 ^ suc s) / 2 ≡ 2 ^ m - 1 - 2 ^ s = omega (arith, pow-suc 2 m, pow-suc 2 s, pow_pos s) in
    let o : (2 ^ suc m - 1 - 2 ^ suc s) % 2 ≡ 1 = omega (arith, pow-suc 2 m, pow-suc 2 s, pow_pos s) in
    and_step (bit b + 2 * number_of_bits v) (2 ^ suc m - 1 - 2 ^ suc s)
    ∙ rw (half b (number_of_bits v), odd b (number_of_bits v), l, o, number_remove v s m (omega arith) (omega arith)) (omega (arith, bit_low b))

-- a 64-bit word with the bits of a mask, or without them
abbrev pub with_bits : ℕ → ℕ → Bool → ℕ
with_bits word mask there = cond there (bit_or word mask) (bit_and word (2 ^ 64 - 1 - mask))

number_put : (v : States) (s : ℕ) (there : Bool) → s < length v → length v ≤ 64 → with_bits (number_of_bits v) (2 ^ s) there ≡ number_of_bits (set v s there)
number_put v s true h g = number_add v s h
number_put v s false h g = number_remove v s 64 h g

-- no state has the number 0
pub number_none : (m : ℕ) → number_of_bits (replicate m false) ≡ 0
unfolding number_of_bits
number_none zero = refl
number_none (suc m) = omega (arith, number_none m)

-- m states, each of them, have the number of m ones
pub number_full : (m : ℕ) → number_of_bits (replicate m true) ≡ 2 ^ m - 1
unfolding number_of_bits
number_full zero = refl
number_full (suc m) = omega (arith, number_full m, pow-suc 2 m, pow_pos m)

-- ---- one word

-- 1 shifted by less than a word's width
pub shifted_one : (m : ℕ) → m < 64 → (1 * 2 ^ m) % 2 ^ 64 ≡ 2 ^ m
shifted_one m h = shl_exact {a = 1} 1 m 64 (lit< tt) (omega arith) ∙ one-mul (2 ^ m)

-- the states that word j holds
abbrev pub part : States → ℕ → States
part v j = take 64 (drop (64 * j) v)

-- a set in k words has k of them
pub words_length : (k : ℕ) (v : States) → length (words k v) ≡ k
unfolding words
words_length zero v = refl
words_length (suc k) v = ap suc (words_length k (drop 64 v))

-- word j of a set
pub word_at : (k : ℕ) (v : States) (j : ℕ) → j < k → get_or (words k v) j 0 ≡ number_of_bits (part v j)
unfolding words
word_at zero v j h = absurd (omega arith)
word_at (suc k) v zero h = refl
word_at (suc k) v (suc j) h =
    let e : 64 + 64 * j ≡ 64 * suc j = omega arith in
    word_at k (drop 64 v) j (omega arith) ∙ rw (drop-drop (64 * j) 64 v, e)

-- words that are, one by one, those of a set
pub words_by : (k : ℕ) (v : States) (ws : List ℕ) → length ws ≡ k → ((j : ℕ) → j < k → get_or ws j 0 ≡ number_of_bits (part v j)) → ws ≡ words k v
words_by k v ws l f =
    ext_get_or 0 ws (words k v) (l ∙ sym (words_length k v)) λ j h.
    let b : j < k = omega arith in
    f j b ∙ sym (word_at k v j b)

-- what holds of each of the four words
pub each_word : (P : ℕ → Type 0) → P 0 → P 1 → P 2 → P 3 → (j : ℕ) → j < word_count → P j
each_word P a b c d = below_more P 3 (below_more P 2 (below_more P 1 (below_more P 0 (below_none P) a) b) c) d

-- ---- from words back to the set

-- a bit that is tested for 1
pub bit_back : (b : Bool) → eqb (bit b) 1 ≡ b
bit_back true = refl
bit_back false = refl

-- The bit of state s says whether s is in the set. So bits of states that the set has not are zero.
pub marked_words : (k : ℕ) (v : States) (s : ℕ) → s < 64 * k → marked (words k v) s ≡ has v s
unfolding marked
marked_words k v s h =
    let e : 64 * (s / 64) + s % 64 ≡ s = omega arith in
    rw (word_at k v (s / 64) (omega arith), number_bit (part v (s / 64)) (s % 64), bit_back (has (part v (s / 64)) (s % 64)))
    (rw (get_or-take 64 (drop (64 * (s / 64)) v) (s % 64) false (omega arith), get_or-drop (64 * (s / 64)) v (s % 64) false, e))

-- Words that follow those of a set change none of its states.
pub marked_front : (k : ℕ) (v : States) (rest : List ℕ) (s : ℕ) → s < 64 * k → marked (words k v ++ rest) s ≡ has v s
unfolding marked
marked_front k v rest s h = rw (get_or-append (words k v) rest 0 (s / 64) (omega (arith, words_length k v))) (marked_words k v s h)

pub take_words : (k : ℕ) (v : States) (rest : List ℕ) → take k (words k v ++ rest) ≡ words k v
take_words k v rest = rw (words_length k v) at (take-append_seam (words k v) rest)

-- Words that start with those of a set show it.
pub shows : {n : ℕ} (v : States) (lent after : List ℕ) → after ≡ words word_count v ++ drop word_count lent → length v ≡ n → Marks n v lent after
shows v lent after are sized = record {
  sized = sized;
  shown = shown;
  beyond = λ s h b. shown s b ∙ get_or-eq_default v false {n = s} (omega (arith, sized));
  are = are;
}
  where
    shown : (s : ℕ) → s < state_limit → marked after s ≡ has v s
    shown s h = rw are (marked_front word_count v (drop word_count lent) s h)

-- equal words, equal sets
pub words_inj : (k : ℕ) (v w : States) → length v ≡ length w → length v ≤ 64 * k → words k v ≡ words k w → v ≡ w
words_inj k v w l h e =
    ext_get_or false v w l λ s b.
    sym (marked_words k v s (omega arith)) ∙ ap (λ (ws : List ℕ). marked ws s) e ∙ marked_words k w s (omega arith)

-- ---- the words of the empty and of the full set

-- all of one value, without the first states
drop_start : (n from : ℕ) (b : Bool) → drop from (start n b) ≡ start (n - from) b
drop_start n zero b = rw (sub-zero n)
drop_start zero (suc from) b = rw (zero-sub (suc from))
drop_start (suc n) (suc from) b = rw (suc-sub-suc n from) (drop_start n from b)

-- all of one value, the first states alone
take_start : (n k : ℕ) (b : Bool) → take k (start n b) ≡ start (min k n) b
take_start n zero b = rw (zero-min n)
take_start zero (suc k) b = rw (min-zero (suc k))
take_start (suc n) (suc k) b = rw (suc-min-suc k n) (ap (λ (v : States). b ∷ v) (take_start n k b))

-- the states from `from` on that a word holds, where each of n states has one value
pub part_start : (n from : ℕ) (b : Bool) → take 64 (drop from (start n b)) ≡ start (min 64 (n - from)) b
part_start n from b = rw (drop_start n from b) (take_start (n - from) 64 b)

-- the words of the empty set are zeros
pub words_none : (k n : ℕ) → replicate k 0 ≡ words k (start n false)
words_none k n =
    words_by k (start n false) (replicate k 0) (length-replicate k 0) λ j h.
    get_or-replicate k j 0 0 h ∙ sym (rw (part_start n (64 * j) false) (number_none (min 64 (n - 64 * j))))

-- The word of the 64 states from `from` on: all bits if each of them is below n, and else as many as are.
pub word_whole : (n from : ℕ) → 64 ≤ n - from → number_of_bits (take 64 (drop from (start n true))) ≡ 2 ^ 64 - 1
word_whole n from h = let e : min 64 (n - from) ≡ 64 = omega arith in rw (part_start n from true, e) (number_full 64)

pub word_partial : (n from left : ℕ) → n - from ≡ left → left < 64 → number_of_bits (take 64 (drop from (start n true))) ≡ (1 * 2 ^ left) % 2 ^ 64 - 1
word_partial n from left l h = let e : min 64 (n - from) ≡ left = omega arith in rw (part_start n from true, e, shifted_one left h) (number_full left)

-- ---- one state more

-- a state behind the first m
drop_set : (v : States) (m s : ℕ) (b : Bool) → m ≤ s → drop m (set v s b) ≡ set (drop m v) (s - m) b
drop_set v m s b h =
    let e : m + (s - m) ≡ s = omega arith in
    rw e at (drop-set-add m v (s - m) b)

-- a state of another word changes nothing in word j
part_other : (v : States) (s j : ℕ) (b : Bool) → j ≢ s / 64 → part (set v s b) j ≡ part v j
part_other v s j b n = go (dec_lt (s / 64) j)
  where
    go : Dec (s / 64 < j) → part (set v s b) j ≡ part v j
    go (yes l) = rw (drop-set-lt (64 * j) v s b (omega arith))
    go (no l) =
        rw (drop_set v (64 * j) s b (omega arith), take-set-le 64 (drop (64 * j) v) (s - 64 * j) b (omega arith))

-- a state of word s / 64
part_same : (v : States) (s : ℕ) (b : Bool) → part (set v s b) (s / 64) ≡ set (part v (s / 64)) (s % 64) b
part_same v s b =
    let e : s - 64 * (s / 64) ≡ s % 64 = omega arith in
    rw (drop_set v (64 * (s / 64)) s b (omega arith), e) (take-set-lt 64 (drop (64 * (s / 64)) v) (s % 64) b (omega arith))

-- a store of one word, where the other words stay
pub words_store : (k : ℕ) (v w : States) (q x : ℕ) → q < k → x ≡ number_of_bits (part w q) → ((j : ℕ) → j ≢ q → part w j ≡ part v j) → set (words k v) q x ≡ words k w
words_store k v w q x h e f =
    words_by k w (set (words k v) q x) (length-set (words k v) q x ∙ words_length k v) λ j l. go j l (ℕ_discrete j q)
  where
    go : (j : ℕ) → j < k → Dec (j ≡ q) → get_or (set (words k v) q x) j 0 ≡ number_of_bits (part w j)
    go j l (yes d) = rw (d, get_or-set_same (words k v) q x 0 (omega (arith, words_length k v))) e
    go j l (no n) = rw (get_or-set_other (words k v) q j x 0 n, f j n) (word_at k v j l)

-- a state is put in by one bit of one word, and taken out by all others of it
pub words_put : (k : ℕ) (v : States) (s : ℕ) (there : Bool) → s < length v → s < 64 * k
    → set (words k v) (s / 64) (with_bits (get_or (words k v) (s / 64) 0) ((1 * 2 ^ (s % 64)) % 2 ^ 64) there) ≡ words k (set v s there)
words_put k v s there h b =
    let inside : s % 64 < length (part v (s / 64)) = simp (length-take, length-drop) (omega arith) in
    words_store k v (set v s there) (s / 64) _ (omega arith)
    (rw (word_at k v (s / 64) (omega arith), shifted_one (s % 64) (omega arith), part_same v s there)
    (number_put (part v (s / 64)) (s % 64) there inside (simp length-take (omega arith))))
    (λ j n. part_other v s j there n)
