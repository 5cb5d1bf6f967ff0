-- Laws of labels: their names, and the masks of alike labels.
use mir.Val.{bool_byte}
use mathlib.Core.Path.{◌≡◌, refl, sym, ap, ap₂, ◌∙◌}
use mathlib.Core.Bool.{Bool, true, false, cond, not, ◌&&◌, ◌||◌}
use mathlib.Core.Logic.{by_cases}
use mathlib.Core.List.{List, [], ◌∷◌, map}
use Prim.Native.Nat.{ℕ, zero, suc, ◌+◌, ◌-◌, ◌*◌, ◌^◌, ◌<◌, ◌≤◌}
use native.Mathlib.Decide.{ℕ_discrete}
use native.Mathlib.Numerals.{one-add}
use native.Mathlib.Nat.{zero-add, pow-suc, pow-zero}
use native.Mathlib.Omega.{arith}
use borrow.Author.Tests.{eq-eqb, ne_eqb}
use lib.Dec.{eqb}
use lib.ListN.{length, get_or, drop}
use Rattle.std.specs.List.{list_all, prefix_len, filter}
use Rattle.sets.specs.Lists.{numbers_from, every, keep}
use Rattle.sets.specs.Words.{number_of_bits, bit}
use Rattle.sets.proofs.Lists.{length_table, table_at, all_true, all_of_both, all_of_kept, kept_equal, all_kept}
use Rattle.sets.proofs.Masks.{number_one}
use Rattle.cases.specs.File.{Header, Label, has_label_table, label_records, label_in}
use Rattle.cases.specs.Labels.{record_numbers, is_name, names_of, occurrences, same_names, label_names, alike, alike_labels}
use Rattle.cases.specs.Conditions.{padded, label_ok}
use Rattle.cases.specs.internal.Checks.{labels_in}
use Rattle.cases.specs.internal.Names.{equally_many, same_as}
use Rattle.cases.proofs.Checking.{every_is, all_map}

-- ---- condition 15

pub or-false : (b : Bool) → (b || false) ≡ b
or-false true = refl
or-false false = refl

-- Behind its first 0 a list has none but 0.
pub padded_is : (ks : List ℕ) → list_all (λ k. eqb k 0) (drop (prefix_len (λ k. not (eqb k 0)) ks) ks) ≡ padded ks
unfolding padded
padded_is [] = refl
padded_is (k ∷ ks) = go (eqb k 0) refl (padded_is ks)
  where
    go : (b : Bool) → eqb k 0 ≡ b → list_all (λ x. eqb x 0) (drop (prefix_len (λ x. not (eqb x 0)) ks) ks) ≡ padded ks
        → list_all (λ x. eqb x 0) (drop (prefix_len (λ x. not (eqb x 0)) (k ∷ ks)) (k ∷ ks)) ≡ cond b (every (λ x. eqb x 0) ks) (padded ks)
    go true e rest = rw e (rw e (every_is (λ x. eqb x 0) ks))
    go false e rest = rw (e, one-add (prefix_len (λ x. not (eqb x 0)) ks)) rest

-- each label of a part
pub labels_all : (part : List ℕ) (k : ℕ) → every label_ok (labels_in part k) ≡ every (λ j. label_ok (label_in part j)) (numbers_from 0 k)
unfolding labels_in
labels_all part k = all_map label_ok (label_in part) (numbers_from 0 k)

-- ---- names

-- A name stands among the names as many times as among the numbers.
name_occurrences : (k : ℕ) (xs : List ℕ) → ¬ (k ≡ 0) → occurrences k (keep is_name xs) ≡ occurrences k xs
unfolding occurrences keep
name_occurrences k [] d = refl
name_occurrences k (x ∷ xs) d = by_cases (ℕ_discrete x 0)
    (λ z. rw (eq-eqb x 0 z, ne_eqb x k (λ e. d (sym e ∙ z))) (omega (arith, name_occurrences k xs d)))
    (λ n. rw (ne_eqb x 0 n, name_occurrences k xs d) refl)

-- so whether there are equally many of a name
equally_named : (xs ys : List ℕ) (k : ℕ) → equally_many (keep is_name xs) (keep is_name ys) k ≡ equally_many xs ys k
equally_named xs ys k = by_cases (ℕ_discrete k 0)
    (λ z. rw (eq-eqb k 0 z) refl)
    (λ d. rw (ne_eqb k 0 d, name_occurrences k xs d, name_occurrences k ys d) refl)

-- how many numbers of a list are k
pub occurrences_are : (k : ℕ) (xs : List ℕ) → length (filter (λ x. eqb x k) xs) ≡ occurrences k xs
unfolding occurrences
occurrences_are k [] = refl
occurrences_are k (x ∷ xs) = go (eqb x k) (occurrences_are k xs)
  where
    go : (b : Bool) → length (filter (λ y. eqb y k) xs) ≡ occurrences k xs
        → length (cond b (x ∷ filter (λ y. eqb y k) xs) (filter (λ y. eqb y k) xs)) ≡ cond b 1 0 + occurrences k xs
    go true rest = ap suc rest ∙ sym (one-add _)
    go false rest = rest ∙ sym (zero-add _)

-- The names are the same multiset if there are equally many of each number that is a name.
pub names_by_numbers : (x y : Label)
    → (every (equally_many (record_numbers x) (record_numbers y)) (record_numbers x) && every (equally_many (record_numbers x) (record_numbers y)) (record_numbers y))
    ≡ same_names (names_of x) (names_of y)
unfolding same_names names_of
names_by_numbers x y =
    sym (all_of_both equal (names_of x) (names_of y) ∙ ap₂ ◌&&◌ (each (record_numbers x)) (each (record_numbers y)))
  where
    equal : ℕ → Bool
    equal k = eqb (occurrences k (names_of x)) (occurrences k (names_of y))

    each : (zs : List ℕ) → every equal (keep is_name zs) ≡ every (equally_many (record_numbers x) (record_numbers y)) zs
    each zs = all_of_kept equal is_name zs ∙ all_kept kept_equal (λ k. true) _ _ (λ k t. equally_named (record_numbers x) (record_numbers y) k) zs (all_true zs)

-- ---- masks

-- no label from i on
none_from : (f : ℕ → Bool) (i m : ℕ) → ((x : ℕ) → f (i + x) ≡ false) → number_of_bits (map f (numbers_from i m)) ≡ 0
unfolding number_of_bits numbers_from
none_from f i zero h = refl
none_from f i (suc m) h =
    let z : i + 0 ≡ i = omega arith in
    rw (rw z at (h 0)) (omega (arith, none_from f (suc i) m (λ x. let e : suc i + x ≡ i + suc x = omega arith in rw e (h (suc x)))))

number_from : (v : List Bool) (f : ℕ → Bool) (i m : ℕ) → ((x : ℕ) → f (i + x) ≡ get_or v x false) → length v ≤ m → number_of_bits (map f (numbers_from i m)) ≡ number_of_bits v
unfolding number_of_bits numbers_from
number_from [] f i m h l = none_from f i m h
number_from (b ∷ v) f i zero h l = absurd (omega arith)
number_from (b ∷ v) f i (suc m) h l =
    let z : i + 0 ≡ i = omega arith in
    let rest = number_from v f (suc i) m (λ x. let e : suc i + x ≡ i + suc x = omega arith in rw e (h (suc x))) (omega arith) in
    rw (rw z at (h 0), rest) refl

-- A set has the number of its members among the numbers below m, if it has no others.
pub number_has : (v : List Bool) (m : ℕ) → length v ≤ m → number_of_bits (map (λ x. get_or v x false) (numbers_from 0 m)) ≡ number_of_bits v
number_has v m l = number_from v (λ x. get_or v x false) 0 m (λ x. let e : 0 + x ≡ x = omega arith in rw e refl) l

-- one bit more, below the others
pub mask_more : (f : ℕ → Bool) (x l m k : ℕ) → x < l → m ≡ number_of_bits (map f (numbers_from (suc x) (l - suc x))) → k ≡ cond (f x) 1 0
    → 2 * m + k ≡ number_of_bits (map f (numbers_from x (l - x)))
unfolding number_of_bits numbers_from
mask_more f x l m k h e q =
    let z : l - x ≡ suc (l - suc x) = omega arith in
    rw (z, q, e) (ends (f x) (number_of_bits (map f (numbers_from (suc x) (l - suc x)))))
  where
    ends : (b : Bool) (n : ℕ) → 2 * n + cond b 1 0 ≡ bit b + 2 * n
    ends true n = omega arith
    ends false n = omega arith

-- ---- the labels with the same names as a label

-- label j of the part
names_read : (part : List ℕ) (l j : ℕ) → j < l → label_names (labels_in part l) j ≡ names_of (label_in part j)
unfolding labels_in
names_read part l j h = ap names_of (table_at (label_in part) l j (record { names = 0 ∷ 0 ∷ 0 ∷ 0 ∷ [] }) h)

-- so two labels, as they are read
pub same_read : (part : List ℕ) (l j x : ℕ) {u v : Label} → j < l → x < l → u ≡ label_in part j → v ≡ label_in part x
    → same_names (names_of u) (names_of v) ≡ same_as part l j x
same_read part l j x hj hx e f = rw (e, f, names_read part l j hj, names_read part l x hx) refl

-- what a truth value is as a number
pub byte_of : (b : Bool) → bool_byte b ≡ bit b
byte_of true = refl
byte_of false = refl

bit_few : (b : Bool) → bit b ≤ 1
bit_few true = omega arith
bit_few false = omega arith

-- The labels from x on have their bits.
pub record Masking (part : List ℕ) (l j x mask : ℕ) : Type 0 where
  pub within : x ≤ l
  pub small : mask < 2 ^ (l - x)
  pub bits : mask ≡ number_of_bits (map (same_as part l j) (numbers_from x (l - x)))

pub masking_none : (part : List ℕ) (l j : ℕ) → Masking part l j l 0
unfolding number_of_bits numbers_from
masking_none part l j =
    let z : l - l ≡ 0 = omega arith in
    record { within = omega arith; small = rw (z, pow-zero 2) (omega arith); bits = rw z refl }

pub masking_more : (part : List ℕ) (l j x mask k : ℕ) → x < l → Masking part l j (suc x) mask → k ≡ bit (same_as part l j x)
    → Masking part l j x (2 * mask + k)
masking_more part l j x mask k h m e =
    let z : l - x ≡ suc (l - suc x) = omega arith in
    let few : k ≤ 1 = rw e (bit_few (same_as part l j x)) in
    record {
      within = omega arith;
      small = rw (z, pow-suc 2 (l - suc x)) (omega (arith, m.small));
      bits = mask_more (same_as part l j) x l mask k h m.bits e;
    }

-- ---- alike labels

-- they are as many as there are labels
pub length_alike : (h : Header) (table : List Label) (j : ℕ) → length (alike_labels h table j) ≡ h.labels
unfolding alike_labels
length_alike h table j = length_table (alike h table j) h.labels

-- the number of the labels that are alike to label j, by whether there are label records
abbrev alike_by : Header → List ℕ → ℕ → Bool → ℕ
alike_by h part j r =
    let table : List Label = labels_in part (cond r h.labels 0) in
    number_of_bits (map (λ x. cond r (same_names (label_names table j) (label_names table x)) (eqb j x)) (numbers_from 0 h.labels))

-- with label records, those with the same names
pub alike_names : (h : Header) (part : List ℕ) (j : ℕ) → has_label_table h.version ≡ true
    → number_of_bits (map (same_as part h.labels j) (numbers_from 0 h.labels)) ≡ number_of_bits (alike_labels h (labels_in part (label_records h)) j)
unfolding alike_labels alike label_records
alike_names h part j e = ap (alike_by h part j) (sym e)

-- without, the label itself
pub alike_own : (h : Header) (part : List ℕ) (j : ℕ) → has_label_table h.version ≡ false → j < h.labels
    → 2 ^ j ≡ number_of_bits (alike_labels h (labels_in part (label_records h)) j)
unfolding alike_labels alike label_records
alike_own h part j e k = sym (number_one j h.labels k) ∙ ap (alike_by h part j) (sym e)
