-- Laws of records that are written one after another.
use mathlib.Core.Path.{◌≡◌, refl, sym, ap, ◌∙◌}
use mathlib.Core.Bool.{Bool, true, false, cond}
use mathlib.Core.List.{List, [], ◌∷◌, ◌++◌, map, append_assoc, append-nil}
use Prim.Native.Nat.{ℕ, zero, suc, ◌+◌, ◌*◌}
use native.Mathlib.Nat.{add-zero, zero-add}
use native.Mathlib.Numerals.{add-one}
use native.Mathlib.Omega.{arith}
use lib.ListN.{length, take, drop, length-append}
use lib.Seq.{take_at, drop_at, drop-drop}
use Rattle.sets.specs.Lists.{numbers_from, keep}
use Rattle.cases.specs.declared.Transition.{Transition}
use Rattle.cases.specs.File.{transition_in}
use Rattle.cases.specs.Case.{distinct}
use Rattle.cases.specs.internal.Checks.{transitions_in}
use Rattle.cases.proofs.FirstAppearances.{is_first, firsts_distinct}
use Rattle.records.specs.Replaced.{record_bytes, table_bytes}
use Rattle.records.specs.internal.Writing.{over, RecordsWritten}
use Rattle.records.proofs.Tables.{length_table_bytes, table_append}

-- one record more, behind those that are written
pub wrote_one : {ts : List Transition} {s u v : List ℕ} {k : ℕ} (t : Transition) → RecordsWritten ts s u k → v ≡ over u (6 * k) (record_bytes t)
    → RecordsWritten (ts ++ (t ∷ [])) s v (k + 1)
unfolding table_bytes
wrote_one {ts} {s} {u} {v} {k} t p q =
    let long : length (table_bytes ts) ≡ 6 * k = omega (arith, length_table_bytes ts, p.count) in
    let rest : List ℕ = drop (6 * length ts) s in
    let front : take (6 * k) u ≡ table_bytes ts = ap (take (6 * k)) p.exact ∙ take_at (table_bytes ts) rest (6 * k) long in
    let behind : drop (6 * k) u ≡ rest = ap (drop (6 * k)) p.exact ∙ drop_at (table_bytes ts) rest (6 * k) long in
    let all : 6 * length ts + length (record_bytes t) ≡ 6 * length (ts ++ (t ∷ [])) = omega (arith, length-append ts (t ∷ [])) in
    record {
      exact = q ∙ rw (front, ← drop-drop (length (record_bytes t)) (6 * k) u, behind, drop-drop (length (record_bytes t)) (6 * length ts) s, all, table_append ts (t ∷ [])) (sym (append_assoc (table_bytes ts) (record_bytes t) _));
      count = omega (arith, p.count, length-append ts (t ∷ []));
    }

-- ---- those of the first records of a part that are the first of their kind

-- those that are kept of one number more
kept_next : (f : ℕ → Transition) (p : ℕ → Bool) (s k : ℕ) → map f (keep p (numbers_from s (suc k))) ≡ map f (keep p (numbers_from s k)) ++ cond (p (s + k)) (f (s + k) ∷ []) []
unfolding keep numbers_from
kept_next f p s zero = rw (add-zero s) (go (p s))
  where
    go : (b : Bool) → map f (cond b (s ∷ []) []) ≡ cond b (f s ∷ []) []
    go true = refl
    go false = refl
kept_next f p s (suc k) = let sum : s + suc k ≡ suc s + k = omega arith in rw sum (go (p s) (kept_next f p (suc s) k))
  where
    behind : List Transition
    behind = cond (p (suc s + k)) (f (suc s + k) ∷ []) []

    go : (b : Bool) → map f (keep p (numbers_from (suc s) (suc k))) ≡ map f (keep p (numbers_from (suc s) k)) ++ behind
        → map f (cond b (s ∷ keep p (numbers_from (suc s) (suc k))) (keep p (numbers_from (suc s) (suc k)))) ≡ map f (cond b (s ∷ keep p (numbers_from (suc s) k)) (keep p (numbers_from (suc s) k))) ++ behind
    go true e = ap (λ (l : List Transition). f s ∷ l) e
    go false e = e

abbrev pub firsts : List ℕ → ℕ → ℕ → List Transition
firsts part m i = map (transition_in part) (keep (is_first part m) (numbers_from 0 i))

module _ (part : List ℕ) (m i : ℕ) where
  next : firsts part m (i + 1) ≡ firsts part m i ++ cond (is_first part m i) (transition_in part i ∷ []) []
  next =
      let here : 0 + i ≡ i = zero-add i in
      rw (add-one i) (rw here at (kept_next (transition_in part) (is_first part m) 0 i))

  -- record i is one of them, or is none
  pub firsts_more : is_first part m i ≡ true → firsts part m (i + 1) ≡ firsts part m i ++ (transition_in part i ∷ [])
  firsts_more e = rw e at next

  pub firsts_same : is_first part m i ≡ false → firsts part m (i + 1) ≡ firsts part m i
  firsts_same e = rw e at next ∙ append-nil (firsts part m i)

pub firsts_none : (part s : List ℕ) (m : ℕ) → RecordsWritten (firsts part m 0) s s 0
unfolding table_bytes keep numbers_from
firsts_none part s m = record { exact = refl; count = refl }

pub firsts_all : (part : List ℕ) (m : ℕ) {s u : List ℕ} {k : ℕ} → RecordsWritten (firsts part m m) s u k → RecordsWritten (distinct (transitions_in part m)) s u k
firsts_all part m w = rw (← firsts_distinct part m) w
