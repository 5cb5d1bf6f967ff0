-- Iteration to a fixed point: it stops by itself, at the least (mu) or greatest (nu) fixed point, whatever the number of states.
use mathlib.Core.Path.{◌≡◌, refl, sym, ap, ap₂, subst, ◌∙◌}
use mathlib.Core.Bool.{Bool, true, false, not, ◌&&◌, beq, not-not}
use mathlib.Core.List.{[], ◌∷◌, map}
use Prim.Native.Nat.{ℕ, zero, suc, ◌+◌, ◌*◌, ◌≤◌, ◌<◌}
use native.Mathlib.Omega.{arith}
use lib.ListN.{length, length-replicate}
use Rattle.sets.specs.States.{States, Subset, start, Before, Extremal}
use Rattle.sets.specs.Loop.{Step, Loop, stop, again}
use Rattle.sets.specs.computed.Iteration.{Worked, same, repeated}
use Rattle.sets.specs.internal.Functions.{step_of, dual}
use Rattle.sets.proofs.Order.{same_eq, same_ne, before_eq, before_trans, start_first, room, room_length, room_less}

-- the set and the rounds of a step
pub step_set : {p : Worked} {w : States} {r : ℕ} → p ≡ (w, r) → p.0 ≡ w
step_set e = ap (λ (x : Worked). x.0) e

pub step_rounds : {p : Worked} {w : States} {r : ℕ} → p ≡ (w, r) → p.1 ≡ r
step_rounds e = ap (λ (x : Worked). x.1) e

-- a turn of the loop with fuel that stops, and one that goes on
repeated_stop : (m : ℕ) (f : States → Worked) (v : States) → same (f v).0 v ≡ true → repeated (suc m) f v ≡ (v, (f v).1 + 1)
unfolding repeated
repeated_stop m f v e = rw (e, repeated)

repeated_again : (m : ℕ) (f : States → Worked) (v : States) → same (f v).0 v ≡ false
    → repeated (suc m) f v ≡ ((repeated m f (f v).0).0, (f v).1 + 1 + (repeated m f (f v).0).1)
unfolding repeated
repeated_again m f v e = rw (e, repeated)

-- What each turn keeps, the loop keeps.
pub repeated_keeps : (P : States → Type 0) (f : States → Worked) → ((v : States) → P v → P (f v).0) → (m : ℕ) (v : States) → P v → P (repeated m f v).0
unfolding repeated
repeated_keeps P f h zero v p = p
repeated_keeps P f h (suc m) v p = go (same (f v).0 v) refl (repeated_keeps P f h m (f v).0 (h v p))
  where
    go : (b : Bool) → same (f v).0 v ≡ b → P (repeated m f (f v).0).0 → P (repeated (suc m) f v).0
    go true e k = rw (repeated_stop m f v e) p
    go false e k = rw (repeated_again m f v e) k

-- Two loops keep a relation that their turns keep, though one may stop before the other.
pub repeated_related : (E : States → States → Type 0) (f g : States → Worked) → ((v w : States) → E v w → E (f v).0 (g w).0)
    → (m : ℕ) (v w : States) → E v w → E (repeated m f v).0 (repeated m g w).0
unfolding repeated
repeated_related E f g h zero v w e = e
repeated_related E f g h (suc m) v w e = go (same (f v).0 v) (same (g w).0 w) refl refl (repeated_related E f g h m (f v).0 (g w).0 (h v w e))
  where
    go : (x y : Bool) → same (f v).0 v ≡ x → same (g w).0 w ≡ y → E (repeated m f (f v).0).0 (repeated m g (g w).0).0
        → E (repeated (suc m) f v).0 (repeated (suc m) g w).0
    go true y p q k = rw (repeated_stop m f v p) (repeated_keeps (E v) g (λ u r. subst (λ (z : States). E z (g u).0) (same_eq (f v).0 v p) (h v u r)) (suc m) w e)
    go false true p q k =
        rw (repeated_stop m g w q) (repeated_keeps (λ u. E u w) f (λ u r. subst (E (f u).0) (same_eq (g w).0 w q) (h u w r)) (suc m) v e)
    go false false p q k = rw (repeated_again m f v p, repeated_again m g w q) k

-- The loop has one outcome, where each turn has.
pub loop_one : {A : Type 0} {F : Step A} → ((v : States) (a b : A) (x y : States) (r q : ℕ) → F v a x r → F v b y q → (a ≡ b) × (x ≡ y) × (r ≡ q))
    → {v : States} {a b : A} {p q : ℕ} → Loop F v a p → Loop F v b q → (a ≡ b) × (p ≡ q)
loop_one h {v} {a} {b} (stop {r = r} f) (stop {r = q} g) = let m = h v a b v v r q f g in (m.0, ap (λ (k : ℕ). k + 1) m.2)
loop_one h {v} {a} {b} (stop {r = r} f) (again {w = x} {a = c} {r = t} g d k) = absurd (d (sym (h v a c v x r t f g).1))
loop_one h {v} {a} {b} (again {w = x} {a = c} {r = t} f d k) (stop {r = r} g) = absurd (d (h v c b x v t r f g).1)
loop_one {F = F} h {v} {a} {b} (again {w = x} {a = c} {r = t} f d k) (again {w = y} {a = o} {r = s} {q = q} g e l) =
    let m = h v c o x y t s f g in
    let z = loop_one h k (subst (λ (u : States). Loop F u b q) (sym m.1) l) in
    (z.0, omega (arith, m.2, z.1))

-- A loop over F is one over G, where on sets of n states F keeps the number of states and implies G.
pub loop_map : (n : ℕ) {A : Type 0} {F G : Step A}
    → ((v : States) (a : A) (w : States) (r : ℕ) → length v ≡ n → F v a w r → length w ≡ n)
    → ((v : States) (a : A) (w : States) (r : ℕ) → length v ≡ n → F v a w r → G v a w r)
    → {v : States} {a : A} {p : ℕ} → length v ≡ n → Loop F v a p → Loop G v a p
loop_map n keeps h {v} {a} o (stop {r = r} f) = stop (h v a v r o f)
loop_map n keeps h {v} o (again {w = w} {a = c} {r = r} f d k) = again (h v c w r o f) d (loop_map n keeps h (keeps v c w r o f) k)

-- Each turn costs one round and those of its step.
pub cost : (f : States → Worked) (c : ℕ) → ((v : States) → (f v).1 ≤ c) → (m : ℕ) (v : States) → (repeated m f v).1 ≤ m * (c + 1)
unfolding repeated
cost f c h zero v = omega arith
cost f c h (suc m) v = go (same (f v).0 v) refl (cost f c h m (f v).0)
  where
    go : (b : Bool) → same (f v).0 v ≡ b → (repeated m f (f v).0).1 ≤ m * (c + 1) → (repeated (suc m) f v).1 ≤ suc m * (c + 1)
    go true e ih = rw (repeated_stop m f v e) (omega (arith, h v))
    go false e ih = rw (repeated_again m f v e) (omega (arith, h v))

-- Where a step costs no round further in, n + 1 turns take at most n + 1 rounds.
pub turns : (n : ℕ) (f : States → Worked) → ((v : States) → (f v).1 ≤ 0) → (v : States) → (repeated (suc n) f v).1 ≤ n + 1
turns n f free v = omega (arith, cost f 0 free (suc n) v)

module _ (n : ℕ) (sign : Bool) (f : States → Worked)
    (sized : (v : States) → length v ≡ n → length (f v).0 ≡ n)
    (mono : (v w : States) → length v ≡ n → length w ≡ n → Subset v w → Subset (f v).0 (f w).0) where
  -- f keeps the order of either sign
  forward : (s : Bool) (v w : States) → length v ≡ n → length w ≡ n → Before s v w → Before s (f v).0 (f w).0
  forward false v w o q h = mono v w o q h
  forward true v w o q h = mono w v q o h

  -- With more fuel than room, the loop with fuel is the one with no bound, whatever its turns hold.
  runs : {A : Type 0} (held : States → A) (m : ℕ) (v : States) → length v ≡ n → Before sign v (f v).0 → room sign v < m
      → Loop (step_of held f) v (held (repeated m f v).0) (repeated m f v).1
  runs held zero v o up h = absurd (omega arith)
  runs held (suc m) v o up h = go (same (f v).0 v) refl (λ e. runs held m (f v).0 (sized v o) (forward sign v (f v).0 o (sized v o) up)
      (omega (arith, room_less sign v (f v).0 (o ∙ sym (sized v o)) up (same_ne (f v).0 v e))))
    where
      go : (b : Bool) → same (f v).0 v ≡ b
          → (same (f v).0 v ≡ false → Loop (step_of held f) (f v).0 (held (repeated m f (f v).0).0) (repeated m f (f v).0).1)
          → Loop (step_of held f) v (held (repeated (suc m) f v).0) (repeated (suc m) f v).1
      go true e next = rw (repeated_stop m f v e) (stop (refl, ap (λ (x : States). (x, (f v).1)) (same_eq (f v).0 v e)))
      go false e next = rw (repeated_again m f v e) (again (refl, refl) (same_ne (f v).0 v e) (next e))

  -- From the start, n + 1 turns are enough.
  pub stops : {A : Type 0} (held : States → A)
      → Loop (step_of held f) (start n sign) (held (repeated (suc n) f (start n sign)).0) (repeated (suc n) f (start n sign)).1
  stops held =
      let o = length-replicate n sign in
      runs held (suc n) (start n sign) o (start_first sign n (f (start n sign)).0 (sized (start n sign) o)) (omega (arith, room_length sign (start n sign)))

  -- where a loop stops that holds the set itself
  abbrev Ends : States → States → ℕ → Type 0
  Ends = Loop (step_of (λ (v : States). v) f)

  -- It stops at a fixed point, of n states, which stands before each set that f does not move forward.
  ends_sized : {v u : States} {p : ℕ} → Ends v u p → length v ≡ n → length u ≡ n
  ends_sized (stop e) o = ap length e.0 ∙ o
  ends_sized {v} (again e d k) o = ends_sized k (ap length (sym (step_set e.1)) ∙ sized v o)

  ends_fixed : {v u : States} {p : ℕ} → Ends v u p → (f u).0 ≡ u
  ends_fixed (stop e) = rw e.0 (step_set e.1)
  ends_fixed (again e d k) = ends_fixed k

  ends_first : {v u : States} {p : ℕ} → Ends v u p → length v ≡ n
      → (x : States) → length x ≡ n → Before sign v x → Before sign (f x).0 x → Before sign u x
  ends_first (stop e) o x l b h = rw e.0 b
  ends_first {v} (again {w = w} e d k) o x l b h =
      let c : (f v).0 ≡ w = step_set e.1 in
      ends_first k (ap length (sym c) ∙ sized v o) x l
      (before_trans sign w (f x).0 x (subst (λ (z : States). Before sign z (f x).0) c (forward sign v x o l b)) h) h

  -- so from the start it does
  ended : Ends (start n sign) (repeated (suc n) f (start n sign)).0 (repeated (suc n) f (start n sign)).1
  ended = stops (λ v. v)

  -- The outcome stands before each set that f does not move forward: pre-fixed for mu, post-fixed for nu.
  pub beyond : (u : States) → length u ≡ n → Before sign (f u).0 u → Before sign (repeated (suc n) f (start n sign)).0 u
  beyond u o h = ends_first ended (length-replicate n sign) u o (start_first sign n u o) h

  -- It is the least or greatest fixed point.
  pub extremal : Extremal n sign (λ v. (f v).0 ≡ v) (repeated (suc n) f (start n sign)).0
  extremal = record {
    sized = ends_sized ended (length-replicate n sign);
    holds = ends_fixed ended;
    first = λ u o e. beyond u o (before_eq sign e);
  }

-- Of two functions, one below the other on sets of n states, the outcomes are so too.
module _ (n : ℕ) (f g : States → Worked)
    (f_sized : (v : States) → length v ≡ n → length (f v).0 ≡ n)
    (f_mono : (v w : States) → length v ≡ n → length w ≡ n → Subset v w → Subset (f v).0 (f w).0)
    (g_sized : (v : States) → length v ≡ n → length (g v).0 ≡ n)
    (g_mono : (v w : States) → length v ≡ n → length w ≡ n → Subset v w → Subset (g v).0 (g w).0)
    (below : (v : States) → length v ≡ n → Subset (f v).0 (g v).0) where
  pub fixed_mono : (sign : Bool) → Subset (repeated (suc n) f (start n sign)).0 (repeated (suc n) g (start n sign)).0
  fixed_mono false =
      let e = extremal n false g g_sized g_mono in
      let w = (repeated (suc n) g (start n false)).0 in
      beyond n false f f_sized f_mono w e.sized (subst (λ (x : States). Subset (f w).0 x) e.holds (below w e.sized))
  fixed_mono true =
      let e = extremal n true f f_sized f_mono in
      let v = (repeated (suc n) f (start n true)).0 in
      beyond n true g g_sized g_mono v e.sized (subst (λ (x : States). Subset x (g v).0) e.holds (below v e.sized))

-- The complement of a set is its map not.
pub not_twice : (v : States) → map not (map not v) ≡ v
not_twice [] = refl
not_twice (a ∷ v) = ap₂ ◌∷◌ (not-not a) (not_twice v)

beq_not : (a b : Bool) → beq (not a) (not b) ≡ beq a b
beq_not true true = refl
beq_not true false = refl
beq_not false true = refl
beq_not false false = refl

same_not : (x y : States) → same (map not x) (map not y) ≡ same x y
unfolding same
same_not [] [] = refl
same_not [] (b ∷ y) = refl
same_not (a ∷ x) [] = refl
same_not (a ∷ x) (b ∷ y) = ap₂ ◌&&◌ (beq_not a b) (same_not x y)

-- Iterating the dual from the complement gives the complement, after as many rounds.
pub complement : (f : States → Worked) (m : ℕ) (v : States) → repeated m (dual f) (map not v) ≡ (map not (repeated m f v).0, (repeated m f v).1)
unfolding repeated
complement f zero v = refl
complement f (suc m) v = go (same (f v).0 v) refl (complement f m (f v).0)
  where
    turn : dual f (map not v) ≡ (map not (f v).0, (f v).1)
    turn = ap (λ (x : States). (map not (f x).0, (f x).1)) (not_twice v)

    tested : same (dual f (map not v)).0 (map not v) ≡ same (f v).0 v
    tested = ap (λ (x : Worked). same x.0 (map not v)) turn ∙ same_not (f v).0 v

    go : (b : Bool) → same (f v).0 v ≡ b → repeated m (dual f) (map not (f v).0) ≡ (map not (repeated m f (f v).0).0, (repeated m f (f v).0).1)
        → repeated (suc m) (dual f) (map not v) ≡ (map not (repeated (suc m) f v).0, (repeated (suc m) f v).1)
    go true e ih = rw (repeated_stop m f v e) (repeated_stop m (dual f) (map not v) (tested ∙ e) ∙ ap (λ (x : Worked). (map not v, x.1 + 1)) turn)
    go false e ih = rw (repeated_again m f v e) (repeated_again m (dual f) (map not v) (tested ∙ e)
        ∙ ap (λ (x : Worked). ((repeated m (dual f) x.0).0, x.1 + 1 + (repeated m (dual f) x.0).1)) turn
        ∙ ap (λ (x : Worked). (x.0, (f v).1 + 1 + x.1)) ih)
