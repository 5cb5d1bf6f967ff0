-- The ones of a set's words are as many as the states that the words have room for: for any number of words and of states.
use mathlib.Core.Path.{◌≡◌, refl, sym, ap, ◌∙◌}
use mathlib.Core.Logic.{by_cases}
use mathlib.Core.Bool.{Bool, true, false, cond, ◌&&◌}
use mathlib.Core.List.{List, [], ◌∷◌, map}
use Prim.Native.Nat.{ℕ, zero, suc, ◌+◌, ◌*◌, ◌/◌, ◌%◌, ◌^◌, ◌<◌, ◌≤◌}
use native.Mathlib.Nat.{zero-div}
use native.Mathlib.Omega.{arith}
use native.Mathlib.Decide.{dec_lt}
use lib.ListN.{length, get_or, take, drop, length-take, get_or-eq_default, drop_of_length-le}
use lib.Seq.{drop-drop, get_or-take}
use lib.Count.{ones, ones_step}
use Rattle.std.proofs.lemmas.Nat.{ones-le}
use Rattle.sets.specs.Lists.{numbers_from, keep, sum}
use Rattle.sets.specs.States.{States, has, size}
use Rattle.sets.specs.Words.{words, number_of_bits, bit, marked, ones_of, both_words, marked_below, Marks, word_count, state_limit}
use Rattle.sets.proofs.Lists.{length_table, table_at}
use Rattle.std.specs.Prelude.{bit_and}
use Rattle.sets.proofs.Masks.{bitwise_and, words_combined}
use Rattle.sets.proofs.Words.{half, odd, words_length, marked_words, take_words}

-- ---- one word, then all

-- words of 64 bits have at most 64 ones each
pub ones_few : (ws : List ℕ) → ((i : ℕ) → get_or ws i 0 < 2 ^ 64) → ones_of ws ≤ 64 * length ws
unfolding sum
ones_few [] h = omega arith
ones_few (w ∷ ws) h = omega (arith, ones-le 64 w (h 0), ones_few ws (λ i. h (suc i)))

-- the ones of a set's number are its states
number_ones : (v : States) → ones (number_of_bits v) ≡ size v
unfolding number_of_bits size ones
number_ones [] = refl
number_ones (b ∷ v) = ones_step (bit b + 2 * number_of_bits v) ∙ rw (half b (number_of_bits v), odd b (number_of_bits v), number_ones v) refl

-- the first states and the others
size_parts : (m : ℕ) (v : States) → size (take m v) + size (drop m v) ≡ size v
unfolding size
size_parts zero v = omega arith
size_parts (suc m) [] = refl
size_parts (suc m) (b ∷ v) = omega (arith, size_parts m v)

-- the ones of k words, and the states that have no room in them
words_ones : (k : ℕ) (v : States) → ones_of (words k v) + size (drop (64 * k) v) ≡ size v
unfolding words sum
words_ones zero v = omega arith
words_ones (suc k) v =
    let e : 64 + 64 * k ≡ 64 * suc k = omega arith in
    let rest = rw (drop-drop (64 * k) 64 v, e) at (words_ones k (drop 64 v)) in
    omega (arith, number_ones (take 64 v), rest, size_parts 64 v)

-- The ones of a set's words are its states, where there is room for them all.
pub ones_size : (k : ℕ) (v : States) → length v ≤ 64 * k → ones_of (words k v) ≡ size v
unfolding size
ones_size k v h = omega (arith, words_ones k v, ap size (drop_of_length-le v h))

-- ---- the states below n whose bit is 1

-- as many elements are kept as there are truth values true
kept_size : (p : ℕ → Bool) (xs : List ℕ) → length (keep p xs) ≡ size (map p xs)
unfolding keep size
kept_size p [] = refl
kept_size p (x ∷ xs) = go (p x) (kept_size p xs)
  where
    go : (b : Bool) → length (keep p xs) ≡ size (map p xs) → length (cond b (x ∷ keep p xs) (keep p xs)) ≡ bit b + size (map p xs)
    go true e = omega arith
    go false e = omega arith

-- Two lists that have the same states have equally many, also if one is longer.
pub same_size : (v w : States) → ((s : ℕ) → has v s ≡ has w s) → size v ≡ size w
unfolding size
same_size [] [] e = refl
same_size [] (c ∷ w) e = rw (← e 0) (omega (arith, same_size [] w (λ s. e (suc s))))
same_size (b ∷ v) [] e = rw (e 0) (omega (arith, same_size v [] (λ s. e (suc s))))
same_size (b ∷ v) (c ∷ w) e = rw (e 0) (ap (λ (m : ℕ). bit c + m) (same_size v w (λ s. e (suc s))))

-- As many numbers below n have p as a set of at most n states has states, if p says which are in it.
pub below_size : (p : ℕ → Bool) (n : ℕ) (v : States) → length v ≤ n → ((s : ℕ) → s < n → p s ≡ has v s) → length (keep p (numbers_from 0 n)) ≡ size v
below_size p n v l is =
    kept_size p (numbers_from 0 n)
    ∙ same_size (map p (numbers_from 0 n)) v λ s.
    by_cases (dec_lt s n)
    (λ h. table_at p n s false h ∙ is s h)
    (λ h. get_or-eq_default (map p (numbers_from 0 n)) false {n = s} (omega (arith, length_table p n)) ∙ sym (get_or-eq_default v false {n = s} (omega arith)))

-- no word, no bit
marked_none : (ws : List ℕ) (s : ℕ) → 64 * length ws ≤ s → marked ws s ≡ false
unfolding marked
marked_none ws s h = rw (get_or-eq_default ws 0 {n = s / 64} (omega arith), zero-div (2 ^ (s % 64))) refl

-- The sum of the ones of the words of a set of n states is the number of states below n whose bit is 1: for any number of words, also if there is
-- no room in them for every state.
pub ones_marked : (k n : ℕ) (v : States) → length v ≡ n → ones_of (words k v) ≡ marked_below (words k v) n
ones_marked k n v l = sym (below_size (marked (words k v)) n (take (64 * k) v) (simp length-take (omega arith)) held ∙ whole)
  where
    held : (s : ℕ) → s < n → marked (words k v) s ≡ has (take (64 * k) v) s
    held s h = by_cases (dec_lt s (64 * k))
        (λ b. marked_words k v s b ∙ sym (get_or-take (64 * k) v s false b))
        (λ b. marked_none (words k v) s (omega (arith, words_length k v))
        ∙ sym (get_or-eq_default (take (64 * k) v) false {n = s} (simp length-take (omega arith))))

    whole : size (take (64 * k) v) ≡ ones_of (words k v)
    whole = omega (arith, words_ones k v, size_parts (64 * k) v)

-- Marks that show a set of n states: its size is the sum of the ones of the set's words, and the number of states below n whose bit is 1.
pub marks_size : {n : ℕ} {v : States} {lent after : List ℕ} → n ≤ state_limit → Marks n v lent after
    → (size v ≡ ones_of (take word_count after)) × (size v ≡ marked_below after n)
marks_size {n} {v} {lent} {after} few m = (
  rw (m.are, take_words word_count v (drop word_count lent)) (sym (ones_size word_count v (omega (arith, m.sized)))),
  sym (below_size (marked after) n v (omega (arith, m.sized)) (λ s h. m.shown s (omega arith))),
)

-- Of marks that show a set of n states, and of the words of another one: the ones of both are the states of both, and these are the states below n
-- whose bit is 1 and that the other set has.
pub both_size : {n : ℕ} {v : States} {lent after : List ℕ} → n ≤ state_limit → Marks n v lent after → (w : States) → length w ≡ n
    → (size (map (λ s. has v s && has w s) (numbers_from 0 n)) ≡ ones_of (both_words (take word_count after) (words word_count w)))
    × (size (map (λ s. has v s && has w s) (numbers_from 0 n)) ≡ length (keep (λ s. marked after s && has w s) (numbers_from 0 n)))
both_size {n} {v} {lent} {after} few m w sized =
    let both : States = map (λ s. has v s && has w s) (numbers_from 0 n) in
    let word = λ (j : ℕ). bit_and (get_or (words word_count v) j 0) (get_or (words word_count w) j 0) in
    let long : length both ≡ n = length_table (λ s. has v s && has w s) n in
    let are : map word (numbers_from 0 word_count) ≡ words word_count both =
    words_combined bitwise_and word_count n v w m.sized sized (map word (numbers_from 0 word_count)) (length_table word word_count) (λ j h. table_at word word_count j 0 h) in (
      rw (m.are, take_words word_count v (drop word_count lent), are) (sym (ones_size word_count both (omega (arith, long)))),
      sym (below_size (λ s. marked after s && has w s) n both (omega (arith, long))
          (λ s h. ap (λ (b : Bool). b && has w s) (m.shown s (omega arith)) ∙ sym (table_at (λ s. has v s && has w s) n s false h))),
    )
