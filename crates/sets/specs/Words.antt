-- The words that hold a set: state s is bit s mod 64 of word s / 64, and bits from n up are zero; and how many states words mark.
use Rattle.std.specs.Prelude.{◌≡◌, Bool, false, cond, List, [], ◌∷◌, ◌++◌, map, ℕ, zero, suc, ◌+◌, ◌*◌, ◌/◌, ◌%◌, ◌^◌, ◌<◌, ◌≤◌, length, get_or, take, drop, eqb, bit_and}
use Rattle.std.specs.Int.Count.{ones}
use Rattle.sets.specs.Lists.{numbers_from, keep, sum}
use Rattle.sets.specs.States.{States, has}

-- How many words hold a set, and how many states they have room for. The code's WORDS and STATES.
abbrev pub word_count : ℕ
word_count = 4

abbrev pub state_limit : ℕ
state_limit = 64 * word_count

-- whether the bit of state s is 1
unfoldable pub marked : List ℕ → ℕ → Bool
marked ws s = eqb (get_or ws (s / 64) 0 / 2 ^ (s % 64) % 2) 1

-- how many states below n have a bit that is 1
abbrev pub marked_below : List ℕ → ℕ → ℕ
marked_below ws n = length (keep (marked ws) (numbers_from 0 n))

-- how many bits of the words are 1: the sum of the ones of each word
abbrev pub ones_of : List ℕ → ℕ
ones_of ws = sum (map ones ws)

-- the words of which each has the bits that are 1 in the words of both lists
abbrev pub both_words : List ℕ → List ℕ → List ℕ
both_words ws us = map (λ j. bit_and (get_or ws j 0) (get_or us j 0)) (numbers_from 0 word_count)

-- a truth value as a bit
abbrev pub bit : Bool → ℕ
bit b = cond b 1 0

-- the number whose bit s is state s
unfoldable pub number_of_bits : States → ℕ
number_of_bits [] = 0
number_of_bits (b ∷ v) = bit b + 2 * number_of_bits v

-- a set in k words
unfoldable pub words : ℕ → States → List ℕ
words zero v = []
words (suc k) v = number_of_bits (take 64 v) ∷ words k (drop 64 v)

-- The words `after` show a set of n states: bit s says whether state s is in it, no bit from n up is 1, and the words behind are as lent.
pub record Marks (n : ℕ) (v : States) (lent after : List ℕ) : Type 0 where
  pub sized : length v ≡ n
  pub shown : (s : ℕ) → s < state_limit → marked after s ≡ has v s
  pub beyond : (s : ℕ) → n ≤ s → s < state_limit → marked after s ≡ false
  pub are : after ≡ words word_count v ++ drop word_count lent
