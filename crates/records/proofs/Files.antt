-- A case file as its head, its table and what follows; and the file with another table.
use mathlib.Core.Path.{◌≡◌, refl, sym, ap, ◌∙◌}
use mathlib.Core.Logic.{by_cases}
use mathlib.Core.List.{List, [], ◌∷◌, ◌++◌, map, append_assoc}
use Prim.Native.Nat.{ℕ, zero, suc, ◌+◌, ◌-◌, ◌*◌, ◌/◌, ◌%◌, ◌≤◌, ◌<◌}
use native.Mathlib.Nat.{add_assoc}
use native.Mathlib.Decide.{ℕ_discrete}
use native.Mathlib.Omega.{arith}
use borrow.Author.Rules.{part_to_end}
use borrow.Rule.Slice.PartMut.{put_mid}
use Rattle.std.specs.List.{copy_within}
use lib.ListN.{length, take, drop, set, length-append, length-drop, length-set, take-append-drop}
use lib.Seq.{paste, length-take-le, take_at, drop_at, drop-drop, take-suc, take_all, get_or-take, get_or-drop, get_or-set_same, get_or-set_other, set-append_left, drop-append-add}
use Rattle.sets.specs.Lists.{numbers_from}
use Rattle.sets.proofs.Lists.{table_at}
use Rattle.cases.specs.declared.Header.{Header}
use Rattle.cases.specs.declared.Transition.{Transition}
use Rattle.cases.specs.File.{u16, header_of, transitions_start, actions_start, file_end, transition_in, transition_table, case_within}
use Rattle.cases.specs.Case.{transition_at, distinct}
use Rattle.cases.specs.internal.Checks.{common_header, transition_part, transitions_in, Laid}
use Rattle.cases.proofs.LayoutRules.{header_least}
use Rattle.cases.proofs.Tallies.{length_transitions, part_at}
use Rattle.records.specs.Replaced.{record_bytes, table_bytes, with_number, head_for, with_transitions, written_to}
use Rattle.records.specs.Places.{without_at}
use Rattle.records.specs.internal.Writing.{AllBytes, over, RecordsWritten}
use Rattle.records.proofs.Moves.{over_behind, over_inside, lent_back, gap_filled, gap_closed}
use Rattle.records.proofs.Tables.{length_table_bytes, table_append, table_set, table_again}

-- ---- heads

pub length_number : (b : List ℕ) (at x : ℕ) → length (with_number b at x) ≡ length b
unfolding with_number
length_number b at x = simp length-set

number_append : (p q : List ℕ) (at x : ℕ) → at + 2 ≤ length p → with_number (p ++ q) at x ≡ with_number p at x ++ q
unfolding with_number
number_append p q at x h =
    let low : ℕ = x % 256 in
    let high : ℕ = x / 256 % 256 in
    ap (λ (l : List ℕ). set l (at + 1) high) (set-append_left p q at low (omega arith)) ∙ set-append_left (set p at low) q (at + 1) high (simp length-set (omega arith))

pub length_head : (h : Header) (k : ℕ) (b : List ℕ) → length (head_for h k b) ≡ length b
unfolding head_for
length_head h k b = simp length_number

head_append : (h : Header) (k : ℕ) (p q : List ℕ) → common_header ≤ length p → head_for h k (p ++ q) ≡ head_for h k p ++ q
unfolding head_for
head_append h k p q c =
    let actions : ℕ = transitions_start h + 6 * k in
    let one = number_append p q 4 k (omega arith) in
    let two = number_append (with_number p 4 k) q 16 actions (omega (arith, length_number p 4 k)) in
    let three = number_append (with_number (with_number p 4 k) 16 actions) q 18 (actions + 4 * h.actions) (omega (arith, length_number (with_number p 4 k) 16 actions, length_number p 4 k)) in
    ap (λ (l : List ℕ). with_number (with_number l 16 actions) 18 (actions + 4 * h.actions)) one ∙ ap (λ (l : List ℕ). with_number l 18 (actions + 4 * h.actions)) two ∙ three

-- ---- bytes of parts

-- a list is its first elements and those behind them
front_behind : {A : Type 0} (k : ℕ) (s : List A) → s ≡ take k s ++ drop (length (take k s)) s
front_behind zero s = refl
front_behind (suc k) [] = refl
front_behind (suc k) (x ∷ s) = ap (λ (l : List _). x ∷ l) (front_behind k s)

all_take : (k : ℕ) (s : List ℕ) → AllBytes s → AllBytes (take k s)
all_take zero s a i = omega arith
all_take (suc k) [] a i = omega arith
all_take (suc k) (x ∷ s) a zero = a zero
all_take (suc k) (x ∷ s) a (suc i) = all_take k s (λ j. a (suc j)) i

-- bytes are the case that they start with, and those behind it
pub within_behind : (s : List ℕ) → s ≡ case_within s ++ drop (length (case_within s)) s
unfolding case_within
within_behind s = front_behind (file_end (header_of s)) s

pub within_few : (s : List ℕ) → length (case_within s) ≤ length s
within_few s = omega (arith, ap length (within_behind s), length-append (case_within s) (drop (length (case_within s)) s))

pub within_bytes : (s : List ℕ) → AllBytes s → AllBytes (case_within s)
unfolding case_within
within_bytes s a = all_take (file_end (header_of s)) s a

all_drop : (k : ℕ) (s : List ℕ) → AllBytes s → AllBytes (drop k s)
all_drop k s a i = rw (get_or-drop k s i 0) (a (k + i))

-- a number that stands in the first k bytes, and one behind the first k
pub number_take : (k : ℕ) (s : List ℕ) (at : ℕ) → at + 2 ≤ k → u16 (take k s) at ≡ u16 s at
unfolding u16
number_take k s at h = rw (get_or-take k s at 0 (omega arith), get_or-take k s (at + 1) 0 (omega arith))

pub number_drop : (k : ℕ) (s : List ℕ) (at : ℕ) → u16 (drop k s) at ≡ u16 s (k + at)
unfolding u16
number_drop k s at = rw (get_or-drop k s at 0, get_or-drop k s (at + 1) 0, ← add_assoc k at 1)

-- a record that stands in the first k bytes
module _ (k r : ℕ) (s : List ℕ) where
  number_part : (at : ℕ) → r + at + 2 ≤ k → u16 (drop r (take k s)) at ≡ u16 (drop r s) at
  number_part at g = number_drop r (take k s) at ∙ number_take k s (r + at) g ∙ sym (number_drop r s at)

  pub record_take : (j : ℕ) → r + 6 * j + 6 ≤ k → transition_in (drop r (take k s)) j ≡ transition_in (drop r s) j
  record_take j h =
      let source = number_part (6 * j) (omega arith) in
      let label = number_part (6 * j + 2) (omega arith) in
      let target = number_part (6 * j + 4) (omega arith) in
      cc

in_table : (part : List ℕ) (m j : ℕ) → j < m → transition_at (transitions_in part m) j ≡ transition_in part j
unfolding transitions_in
in_table part m j h = table_at (transition_in part) m j _ h

-- ---- the last record

-- where the last record is put into a place, it stands in the last place still
pub last_stays : (ts : List Transition) (i : ℕ) → 0 < length ts → transition_at (set ts i (transition_at ts (length ts - 1))) (length ts - 1) ≡ transition_at ts (length ts - 1)
last_stays ts i h = by_cases (ℕ_discrete (length ts - 1) i)
    (λ e. rw (← e) (get_or-set_same ts (length ts - 1) _ _ (omega arith)))
    (λ d. get_or-set_other ts i (length ts - 1) _ _ d)

-- a table is all records but the last, and the last
pub last_behind : (ts : List Transition) (k : ℕ) → length ts ≡ suc k → ts ≡ take k ts ++ (transition_at ts k ∷ [])
last_behind ts k e = sym (take_all (suc k) ts (omega arith)) ∙ take-suc ts k _ (omega arith)

-- how the parts of a case that bytes start with lie in them
pub within_lies : (s : List ℕ) {h : Header} → Laid (case_within s) h
    → (h.transitions_at + 6 * h.transitions ≡ h.actions_at) × (h.actions_at + (4 * h.actions + 4 * h.nodes) ≤ length s) × (common_header ≤ h.transitions_at)
within_lies s {h} l =
    (omega (arith, l.transitions, l.actions), omega (arith, l.ends, l.actions, within_few s), omega (arith, l.transitions, header_least h.version))

-- ---- a case as its parts

module _ {b : List ℕ} {h : Header} (l : Laid b h) where
  abbrev head : List ℕ
  head = take h.transitions_at b

  abbrev rest : List ℕ
  rest = drop h.actions_at b

  abbrev tail : ℕ
  tail = 4 * h.actions + 4 * h.nodes

  pub head_long : length head ≡ h.transitions_at
  head_long = length-take-le h.transitions_at b (omega (arith, l.transitions, l.ends))

  pub head_least : common_header ≤ h.transitions_at
  head_least = omega (arith, l.transitions, header_least h.version)

  pub rest_long : length rest ≡ tail
  rest_long = length-drop h.actions_at b ∙ omega (arith, l.actions, l.ends)

  pub length_behind : length (part_at b h.actions_at) ≡ tail
  length_behind = ap length (part_to_end b h.actions_at) ∙ rest_long

  -- Behind k of its m records there is room for what follows the table.
  pub rest_fits : (x y : List ℕ) (k : ℕ) → h.actions_at + tail ≤ length x → k ≤ h.transitions → length y ≡ length (part_at x h.transitions_at)
      → h.transitions_at + 6 * k + length (part_at b h.actions_at) ≤ length (put_mid h.transitions_at (length x - h.transitions_at) x y)
  rest_fits x y k room few same =
      let r : ℕ = h.transitions_at in
      let at : r + 6 * h.transitions ≡ h.actions_at = omega (arith, l.transitions, l.actions) in
      let part : length y ≡ length x - r = same ∙ ap length (part_to_end x r) ∙ length-drop r x in
      let long : length (put_mid r (length x - r) x y) ≡ length x = ap length (lent_back x y r) ∙ length-append (take r x) y ∙ omega (arith, length-take-le r x (omega arith), part) in
      omega (arith, long, length_behind)

  -- and what follows is written there behind the head
  pub least_stays : (x y w : List ℕ) (k n : ℕ) → h.actions_at + tail ≤ length x → k ≤ h.transitions → length y ≡ length (part_at x h.transitions_at)
      → common_header ≤ length (put_mid (h.transitions_at + 6 * k) n (put_mid h.transitions_at (length x - h.transitions_at) x y) w)
  least_stays x y w k n room few same =
      let at : ℕ = h.transitions_at + 6 * k in
      let u : List ℕ = put_mid h.transitions_at (length x - h.transitions_at) x y in
      omega (arith, head_least, rest_fits x y k room few same, length-append (take at u) (w ++ drop n (drop at u)), length-take-le at u (omega (arith, rest_fits x y k room few same)))

  pub table_is : transition_table b ≡ transitions_in (drop h.transitions_at b) h.transitions
  unfolding transition_table transitions_in
  table_is = ap (λ (x : Header). map (transition_in (drop x.transitions_at b)) (numbers_from 0 x.transitions)) (sym l.read)

  -- The distinct records of its table were written.
  module _ {part s u : List ℕ} {m k : ℕ} (is : part ≡ transition_part b) (all : m ≡ h.transitions) (w : RecordsWritten (distinct (transitions_in part m)) s u k) where
    pub wrote_table : RecordsWritten (distinct (transition_table b)) s u k
    wrote_table =
        let table : transitions_in part m ≡ transition_table b = rw (is, all) (ap (λ (x : Header). transitions_in (drop x.transitions_at b) h.transitions) (sym l.read) ∙ sym table_is) in
        rw table at w

  pub split : AllBytes b → b ≡ head ++ (table_bytes (transition_table b) ++ rest)
  split a =
      let part : List ℕ = drop h.transitions_at b in
      let inside : 6 * h.transitions ≤ length part = omega (arith, length-drop h.transitions_at b, l.transitions, l.ends) in
      let at : h.transitions_at + 6 * h.transitions ≡ h.actions_at = omega (arith, l.transitions, l.actions) in
      let behind : drop (6 * h.transitions) part ≡ rest = drop-drop (6 * h.transitions) h.transitions_at b ∙ ap (λ (k : ℕ). drop k b) at in
      sym (take-append-drop h.transitions_at b)
      ∙ ap (λ (s : List ℕ). head ++ s) (table_again part (all_drop h.transitions_at b a) h.transitions inside
      ∙ ap (λ (s : List ℕ). table_bytes (transitions_in part h.transitions) ++ s) behind ∙ ap (λ (ts : List Transition). table_bytes ts ++ rest) (sym table_is))

  pub with_is : (ts : List Transition) → with_transitions b ts ≡ head_for h (length ts) head ++ (table_bytes ts ++ rest)
  unfolding with_transitions
  with_is ts =
      ap (λ (x : Header). head_for x (length ts) (take (transitions_start x) b) ++ (table_bytes ts ++ drop (actions_start x) b)) (sym l.read)
      ∙ ap (λ (k : ℕ). head_for h (length ts) (take k b) ++ (table_bytes ts ++ drop (actions_start h) b)) (sym l.transitions)
      ∙ ap (λ (k : ℕ). head_for h (length ts) head ++ (table_bytes ts ++ drop k b)) (sym l.actions)

  pub with_long : (ts : List Transition) → length (with_transitions b ts) ≡ h.transitions_at + 6 * length ts + tail
  with_long ts = ap length (with_is ts)
      ∙ omega (arith, length-append (head_for h (length ts) head) (table_bytes ts ++ rest), length-append (table_bytes ts) rest, length_head h (length ts) head, head_long, length_table_bytes ts, rest_long)

  -- the parts with another table, and the numbers of the head put
  pub with_written : (ts : List Transition) (s behind : List ℕ) → behind ≡ drop (h.transitions_at + 6 * length ts + tail) s
      → head_for h (length ts) (head ++ (table_bytes ts ++ (rest ++ behind))) ≡ written_to s (with_transitions b ts)
  with_written ts s behind e =
      head_append h (length ts) head _ (omega (arith, head_long, head_least))
      ∙ ap (λ (x : List ℕ). head_for h (length ts) head ++ x) (sym (append_assoc (table_bytes ts) rest behind)) ∙ sym (append_assoc (head_for h (length ts) head) (table_bytes ts ++ rest) behind)
      ∙ ap (λ (x : List ℕ). x ++ behind) (sym (with_is ts))
      ∙ ap (λ (x : List ℕ). with_transitions b ts ++ x) (e ∙ ap (λ (k : ℕ). drop k s) (sym (with_long ts)))

  -- Bytes that the case stands before.
  module _ (s z : List ℕ) (is : s ≡ b ++ z) (bytes : AllBytes b) where
    parts : s ≡ head ++ (table_bytes (transition_table b) ++ (rest ++ z))
    parts = is ∙ ap (λ (x : List ℕ). x ++ z) (split bytes) ∙ rw (append_assoc, append_assoc)

    table_long : length (transition_table b) ≡ h.transitions
    table_long = length_transitions b ∙ ap (λ (x : Header). x.transitions) (sym l.read)

    -- the head and the records of a table that stands behind it
    front_long : (us : List Transition) → length (head ++ table_bytes us) ≡ h.transitions_at + 6 * length us
    front_long us = omega (arith, length-append head (table_bytes us), head_long, length_table_bytes us)

    -- A record was put behind the last one.
    pub inserted : (t : Transition) {x y : List ℕ} → 6 ≤ length z
        → x ≡ paste s (h.actions_at + 6) (drop h.actions_at s) (h.actions_at + 4 * h.actions + 4 * h.nodes - h.actions_at)
        → y ≡ over x h.actions_at (record_bytes t)
        → head_for h (h.transitions + 1) y ≡ written_to s (with_transitions b (transition_table b ++ (t ∷ [])))
    unfolding table_bytes
    inserted t {x} {y} room p q =
        let at : ℕ = h.actions_at in
        let ts : List Transition = transition_table b in
        let us : List Transition = ts ++ (t ∷ []) in
        let more : length us ≡ h.transitions + 1 = omega (arith, length-append ts (t ∷ []), table_long) in
        let long : length (head ++ table_bytes ts) ≡ at = omega (arith, front_long ts, table_long, l.transitions, l.actions) in
        let filled : y ≡ (head ++ table_bytes ts) ++ (record_bytes t ++ (rest ++ drop 6 z)) =
        q ∙ ap (λ (v : List ℕ). over v at (record_bytes t)) p
        ∙ gap_filled (head ++ table_bytes ts) (record_bytes t) rest z at 6 tail long refl rest_long s (parts ∙ sym (append_assoc head (table_bytes ts) (rest ++ z))) room (omega arith) in
        let is_table : y ≡ head ++ (table_bytes us ++ (rest ++ drop 6 z)) = filled ∙ append_assoc head (table_bytes ts) _
        ∙ ap (λ (v : List ℕ). head ++ v) (sym (append_assoc (table_bytes ts) (record_bytes t) (rest ++ drop 6 z)) ∙ ap (λ (v : List ℕ). v ++ (rest ++ drop 6 z)) (sym (table_append ts (t ∷ [])))) in
        let all : length b + 6 ≡ h.transitions_at + 6 * length us + tail = omega (arith, l.ends, l.transitions, more) in
        let behind : drop 6 z ≡ drop (h.transitions_at + 6 * length us + tail) s = sym (ap (drop (length b + 6)) is ∙ drop-append-add b z 6) ∙ ap (λ (k : ℕ). drop k s) all in
        ap (head_for h (h.transitions + 1)) is_table ∙ ap (λ (k : ℕ). head_for h k (head ++ (table_bytes us ++ (rest ++ drop 6 z)))) (sym more) ∙ with_written us s (drop 6 z) behind

    -- The record at place i was taken out: the last one was put there, and what follows was moved down.
    module _ (i k : ℕ) (inside : i ≤ k) (count : h.transitions ≡ suc k) where
      abbrev last : Transition
      last = transition_at (transition_table b) k

      abbrev without : List Transition
      without = without_at (transition_table b) i

      last_read : transition_in (part_at s h.transitions_at) k ≡ last
      last_read =
          let r : ℕ = h.transitions_at in
          let whole : take (length b) s ≡ b = ap (take (length b)) is ∙ take_at b z (length b) refl in
          ap (λ (v : List ℕ). transition_in v k) (part_to_end s r) ∙ sym (record_take (length b) r s k (omega (arith, l.ends, l.transitions))) ∙ ap (λ (v : List ℕ). transition_in (drop r v) k) whole
          ∙ sym (ap (λ (ts : List Transition). transition_at ts k) table_is ∙ in_table (drop r b) h.transitions k (omega arith))

      set_is : set (transition_table b) i last ≡ without ++ (last ∷ [])
      unfolding without_at
      set_is =
          let ts : List Transition = transition_table b in
          let one : length ts - 1 ≡ k = omega (arith, table_long) in
          let long : length (set ts i last) ≡ suc k = length-set ts i last ∙ table_long ∙ count in
          let stays : transition_at (set ts i last) k ≡ last = rw one at (last_stays ts i (omega (arith, table_long))) in
          rw one (last_behind (set ts i last) k long ∙ ap (λ (t : Transition). take k (set ts i last) ++ (t ∷ [])) stays)

      without_long : length without ≡ k
      without_long = omega (arith, length-append without (last ∷ []), ap length set_is, length-set (transition_table b) i last, table_long)

      abbrev at : ℕ
      at = h.actions_at - 6

      pub removed : {x ys : List ℕ} {n : ℕ} → x ≡ over s (h.transitions_at + 6 * i) (record_bytes (transition_in (part_at s h.transitions_at) k))
          → n ≡ 6 + tail → ys ≡ copy_within (take n (drop at x)) 6 (length (take n (drop at x))) 0
          → head_for h k (put_mid at n x ys) ≡ written_to s (with_transitions b without)
      unfolding table_bytes
      removed {x} {ys} {n} p wide q =
          let ts : List Transition = transition_table b in
          let rec : List ℕ = record_bytes last in
          let front : length (head ++ table_bytes without) ≡ at = omega (arith, front_long without, without_long, l.transitions, l.actions) in
          let old_front : length (head ++ table_bytes (take k ts)) ≡ at = omega (arith, front_long (take k ts), length-take-le k ts (omega (arith, table_long)), l.transitions, l.actions) in
          let place : h.transitions_at + 6 * i ≡ length head + 6 * i = omega (arith, head_long) in
          let put : over s (h.transitions_at + 6 * i) rec ≡ head ++ (table_bytes (set ts i last) ++ (rest ++ z)) =
          ap (λ (v : List ℕ). over v (h.transitions_at + 6 * i) rec) parts ∙ ap (λ (j : ℕ). over (head ++ (table_bytes ts ++ (rest ++ z))) j rec) place
          ∙ over_behind head (table_bytes ts ++ (rest ++ z)) (6 * i) rec
          ∙ ap (λ (v : List ℕ). head ++ v) (over_inside (table_bytes ts) (rest ++ z) (6 * i) rec (omega (arith, length_table_bytes ts, table_long))
          ∙ ap (λ (v : List ℕ). v ++ (rest ++ z)) (table_set ts i last (omega (arith, table_long)))) in
          let x_is : x ≡ (head ++ table_bytes without) ++ (rec ++ (rest ++ z)) =
          p ∙ ap (λ (t : Transition). over s (h.transitions_at + 6 * i) (record_bytes t)) last_read ∙ put
          ∙ ap (λ (us : List Transition). head ++ (table_bytes us ++ (rest ++ z))) set_is ∙ ap (λ (v : List ℕ). head ++ (v ++ (rest ++ z))) (table_append without (last ∷ []))
          ∙ ap (λ (v : List ℕ). head ++ v) (append_assoc (table_bytes without) rec (rest ++ z)) ∙ sym (append_assoc head (table_bytes without) _) in
          let s_is : s ≡ (head ++ table_bytes (take k ts)) ++ (rec ++ (rest ++ z)) =
          parts ∙ ap (λ (us : List Transition). head ++ (table_bytes us ++ (rest ++ z))) (last_behind ts k (table_long ∙ count))
          ∙ ap (λ (v : List ℕ). head ++ (v ++ (rest ++ z))) (table_append (take k ts) (last ∷ []))
          ∙ ap (λ (v : List ℕ). head ++ v) (append_assoc (table_bytes (take k ts)) rec (rest ++ z)) ∙ sym (append_assoc head (table_bytes (take k ts)) _) in
          let closed : put_mid at n x ys ≡ head ++ (table_bytes without ++ (rest ++ drop tail (rec ++ (rest ++ z)))) =
          gap_closed (head ++ table_bytes without) rec rest z at 6 tail front refl rest_long x x_is wide q ∙ append_assoc head (table_bytes without) _ in
          let all : at + tail ≡ h.transitions_at + 6 * length without + tail = omega (arith, without_long, l.transitions, l.actions, count) in
          let behind : drop tail (rec ++ (rest ++ z)) ≡ drop (h.transitions_at + 6 * length without + tail) s =
          sym (ap (drop tail) (ap (drop at) s_is ∙ drop_at (head ++ table_bytes (take k ts)) (rec ++ (rest ++ z)) at old_front)) ∙ drop-drop tail at s ∙ ap (λ (j : ℕ). drop j s) all in
          ap (head_for h k) closed ∙ ap (λ (j : ℕ). head_for h j (head ++ (table_bytes without ++ (rest ++ drop tail (rec ++ (rest ++ z)))))) (sym without_long)
          ∙ with_written without s (drop tail (rec ++ (rest ++ z))) behind

  -- The head was written to the start of a buffer, records behind it, and behind those what follows the table.
  pub opened : (out : List ℕ) (us : List Transition) {k at : ℕ} {x y w : List ℕ} → at ≡ h.transitions_at + 6 * k
      → x ≡ head ++ drop h.transitions_at out → RecordsWritten us (part_at x h.transitions_at) y k → w ≡ part_at b h.actions_at
      → head_for h k (put_mid at (at + length (part_at b h.actions_at) - at) (put_mid h.transitions_at (length x - h.transitions_at) x y) w)
      ≡ written_to out (with_transitions b us)
  opened out us {k} {at} {x} {y} {w} where_at p wrote q =
      let r : ℕ = h.transitions_at in
      let front : take r x ≡ head = ap (take r) p ∙ take_at head (drop r out) r head_long in
      let behind : drop r x ≡ drop r out = ap (drop r) p ∙ drop_at head (drop r out) r head_long in
      let u : List ℕ = put_mid r (length x - r) x y in
      let rests : List ℕ = drop (6 * length us) (drop r out) in
      let u_is : u ≡ (head ++ table_bytes us) ++ rests =
      lent_back x y r ∙ ap (λ (v : List ℕ). v ++ y) front ∙ ap (λ (v : List ℕ). head ++ v) (wrote.exact ∙ rw (part_to_end x r, behind)) ∙ sym (append_assoc head (table_bytes us) rests) in
      let long : length (head ++ table_bytes us) ≡ at = omega (arith, length-append head (table_bytes us), head_long, length_table_bytes us, wrote.count) in
      let u_front : take at u ≡ head ++ table_bytes us = ap (take at) u_is ∙ take_at (head ++ table_bytes us) rests at long in
      let u_behind : drop at u ≡ rests = ap (drop at) u_is ∙ drop_at (head ++ table_bytes us) rests at long in
      let own : at + length (part_at b h.actions_at) - at ≡ tail = omega (arith, length_behind) in
      let whole : put_mid at (at + length (part_at b h.actions_at) - at) u w ≡ head ++ (table_bytes us ++ (rest ++ drop tail rests)) =
      rw (own, u_front, u_behind, q, part_to_end b h.actions_at) (append_assoc head (table_bytes us) (rest ++ drop tail rests)) in
      let all : drop tail rests ≡ drop (r + 6 * length us + tail) out = ap (drop tail) (drop-drop (6 * length us) r out) ∙ drop-drop tail (r + 6 * length us) out in
      ap (head_for h k) whole ∙ ap (λ (j : ℕ). head_for h j (head ++ (table_bytes us ++ (rest ++ drop tail rests)))) wrote.count ∙ with_written us out (drop tail rests) all
