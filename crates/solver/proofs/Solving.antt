-- Solving by rounds: it ends, at the standard solution, of which there is one, within a bound of rounds.
use mathlib.Core.Path.{◌≡◌, refl, sym, ap, subst, ◌∙◌}
use mathlib.Core.List.{List, [], ◌∷◌}
use Prim.Native.Nat.{ℕ, zero, suc, ◌+◌, ◌*◌, ◌^◌, ◌≤◌, ◌<◌}
use native.Mathlib.Nat.{pow-suc, pow-zero}
use native.Mathlib.Omega.{arith}
use lib.Dec.{leb, leb→le}
use lib.ListN.{length, length-replicate}
use Rattle.sets.specs.Lists.{every}
use Rattle.sets.specs.States.{States, Subset, start, Extremal, Valuation, update, Sized}
use Rattle.sets.specs.Loop.{Loop}
use Rattle.sets.specs.computed.Iteration.{Worked, repeated}
use Rattle.sets.proofs.Lists.{and_left, and_right}
use Rattle.sets.proofs.Order.{extremal_map, extremal_one}
use Rattle.sets.specs.internal.Functions.{step_of}
use Rattle.sets.proofs.FixedPoint.{step_set, step_rounds, loop_one, loop_map, cost, stops, extremal, fixed_mono}
use Rattle.solver.specs.Cells.{Cell, part}
use Rattle.solver.specs.computed.Solved.{evaluate, Reached, solved}
use Rattle.solver.specs.internal.Forms.{Ordered, Inside}
use Rattle.sets.proofs.Valuation.{Included, update_other, update_sized, update_mono}
use Rattle.solver.specs.File.{Block}
use Rattle.solver.specs.Solution.{RightSides, Solution, Solves, powers}
use Rattle.solver.proofs.Values.{evaluate_values, evaluate_mono, sides_part, part_sides, sides_one, length_part, part_mono}

-- The first block has its cells, and so have the later ones.
pub inside_first : (n c : ℕ) (b : Block) (bs : List Block) → Inside n c (b ∷ bs) → b.first + n ≤ c
unfolding Inside every
inside_first n c b bs i = leb→le (b.first + n) c (and_left (leb (b.first + n) c) _ i)

pub inside_rest : (n c : ℕ) (b : Block) (bs : List Block) → Inside n c (b ∷ bs) → Inside n c bs
unfolding Inside every
inside_rest n c b bs i = and_right (leb (b.first + n) c) _ i

-- m + m ^ 2 + .. + m ^ (d + 1) = m (1 + m + .. + m ^ d)
pub powers_suc : (m d : ℕ) → powers m (suc d) ≡ m * (powers m d + 1)
unfolding powers
powers_suc m zero = rw (pow-suc m 0, pow-zero) (omega arith)
powers_suc m (suc d) = ap (λ x. x + m ^ suc (suc d)) (powers_suc m d) ∙ rw (pow-suc m (suc d)) (omega arith)

module _ (n : ℕ) (cs : List Cell) where
  -- one turn of the loop of block k: the later blocks solved anew, and the right-hand sides worked out
  unfoldable pub turn : Block → List Block → ℕ → Valuation → States → Worked
  turn b bs k ρ v =
      let r : Reached = solved n cs bs (suc k) (update ρ k v) in
      (part n b.first (evaluate cs r.0), r.1)

  -- the loop of block k, and its outcome
  abbrev pub looped : Block → List Block → ℕ → Valuation → Worked
  looped b bs k ρ = repeated (suc n) (turn b bs k ρ) (start n b.sign)

  -- the first block takes the loop's set, and the later ones are solved with it
  pub solved_cons : (b : Block) (bs : List Block) (k : ℕ) (ρ : Valuation)
      → solved n cs (b ∷ bs) k ρ ≡ ((solved n cs bs (suc k) (update ρ k (looped b bs k ρ).0)).0, (looped b bs k ρ).1)
  unfolding solved turn
  solved_cons b bs k ρ = refl

-- Of blocks bs from k on: what is worked out has n states, grows with the valuation, is what solving with no limit reaches,
-- in sets and in rounds, and is the standard solution, of which there is no other.
pub record Exact (n : ℕ) (cs : List Cell) (bs : List Block) (k : ℕ) : Type 0 where
  pub sized : (ρ : Valuation) → Sized n ρ → Sized n (solved n cs bs k ρ).0
  pub mono : (ρ σ : Valuation) → Sized n ρ → Sized n σ → Included ρ σ → Included (solved n cs bs k ρ).0 (solved n cs bs k σ).0
  pub reached : (ρ : Valuation) → Sized n ρ → Solves n cs bs k ρ (solved n cs bs k ρ).0 (solved n cs bs k ρ).1
  pub standard : (ρ : Valuation) → Sized n ρ → Solution n cs bs k ρ (solved n cs bs k ρ).0
  pub one : (ρ : Valuation) → Sized n ρ → (σ : Valuation) → Solution n cs bs k ρ σ → σ ≡ (solved n cs bs k ρ).0

module _ (n : ℕ) (cs : List Cell) (ordered : Ordered cs) where
  -- One block, where the later blocks are known.
  module _ (b : Block) (bs : List Block) (k : ℕ) (fits : b.first + n ≤ length cs) (later : Exact n cs bs (suc k)) where
    -- its turn, and the set at which its loop stops
    abbrev go : Valuation → States → Worked
    go = turn n cs b bs k

    abbrev own : Valuation → States
    own ρ = (looped n cs b bs k ρ).0

    -- a turn gives n states, and grows with the valuation and the set
    turn_sized : (ρ : Valuation) (v : States) → length v ≡ n → length (go ρ v).0 ≡ n
    unfolding turn
    turn_sized ρ v o =
        let σ : Valuation = (solved n cs bs (suc k) (update ρ k v)).0 in
        length_part n b.first (evaluate cs σ) (omega (arith, (evaluate_values cs ordered σ).sized))

    turn_mono : (ρ σ : Valuation) → Sized n ρ → Sized n σ → Included ρ σ → (v w : States) → length v ≡ n → length w ≡ n → Subset v w → Subset (go ρ v).0 (go σ w).0
    unfolding turn
    turn_mono ρ σ r q h v w o l g =
        let x : Valuation = (solved n cs bs (suc k) (update ρ k v)).0 in
        let y : Valuation = (solved n cs bs (suc k) (update σ k w)).0 in
        part_mono n b.first (evaluate cs x) (evaluate cs y) (evaluate_mono cs ordered x y
        (later.mono (update ρ k v) (update σ k w) (update_sized ρ k v r o) (update_sized σ k w q l) (update_mono ρ σ k v w h g)))

    own_mono : (ρ : Valuation) → Sized n ρ → (v w : States) → length v ≡ n → length w ≡ n → Subset v w → Subset (go ρ v).0 (go ρ w).0
    own_mono ρ r = turn_mono ρ ρ r r (λ j s t. t)

    -- a larger valuation gives a larger set
    loop_mono : (ρ σ : Valuation) → Sized n ρ → Sized n σ → Included ρ σ → Subset (own ρ) (own σ)
    loop_mono ρ σ r q h =
        fixed_mono n (go ρ) (go σ) (turn_sized ρ) (own_mono ρ r) (turn_sized σ) (own_mono σ q)
        (λ v o. turn_mono ρ σ r q h v v o o (λ s t. t)) b.sign

    module _ (ρ : Valuation) (r : Sized n ρ) where
      -- the loop stops at the least or greatest set that a turn leaves as it is
      loop_extremal : Extremal n b.sign (λ v. (go ρ v).0 ≡ v) (own ρ)
      loop_extremal = extremal n b.sign (go ρ) (turn_sized ρ) (own_mono ρ r)

      bound_sized : Sized n (update ρ k (own ρ))
      bound_sized = update_sized ρ k (own ρ) r loop_extremal.sized

      -- the sets held in a turn
      abbrev held : States → Valuation
      held v = (solved n cs bs (suc k) (update ρ k v)).0

      -- a turn solves the later blocks and takes the right-hand sides
      turn_solves : (v : States) (τ : Valuation) (w : States) (p : ℕ) → length v ≡ n → step_of held (go ρ) v τ w p
          → Solves n cs bs (suc k) (update ρ k v) τ p × RightSides n cs b.first τ w
      unfolding turn
      turn_solves v τ w p o e = rw e.0 (
        subst (λ (q : ℕ). Solves n cs bs (suc k) (update ρ k v) (held v) q) (step_rounds e.1) (later.reached (update ρ k v) (update_sized ρ k v r o)),
        part_sides cs ordered (held v) (sym (step_set e.1)),
      )

      -- so the loop does so turn by turn
      loop_solves : Loop (λ u τ w q. Solves n cs bs (suc k) (update ρ k u) τ q × RightSides n cs b.first τ w)
          (start n b.sign) (held (own ρ)) (looped n cs b bs k ρ).1
      loop_solves =
          loop_map n (λ v τ w p o e. ap length (sym (step_set e.1)) ∙ turn_sized ρ v o) turn_solves (length-replicate n b.sign)
          (stops n b.sign (go ρ) (turn_sized ρ) (own_mono ρ r) held)

      -- The sets that a turn leaves as they are, are those equal to their right-hand sides under a solution of the later blocks.
      loop_standard : Extremal n b.sign (λ u. (τ : Valuation) × Solution n cs bs (suc k) (update ρ k u) τ × RightSides n cs b.first τ u) (own ρ)
      unfolding turn
      loop_standard = extremal_map
          (λ u o e. ((solved n cs bs (suc k) (update ρ k u)).0, later.standard (update ρ k u) (update_sized ρ k u r o), part_sides cs ordered _ (sym e)))
          (λ u o m. sym (sides_part cs ordered m.0 m.2
          ∙ ap (λ (τ : Valuation). part n b.first (evaluate cs τ)) (later.one (update ρ k u) (update_sized ρ k u r o) m.0 m.1)))
          loop_extremal

    -- with what is known of the later blocks, the same is known from this block on
    exact_cons : Exact n cs (b ∷ bs) k
    unfolding solved turn Solves Solution
    exact_cons = record {
      sized = λ ρ r. later.sized (update ρ k (own ρ)) (bound_sized ρ r);
      mono = λ ρ σ r q h. later.mono (update ρ k (own ρ)) (update σ k (own σ)) (bound_sized ρ r) (bound_sized σ q)
          (update_mono ρ σ k (own ρ) (own σ) h (loop_mono ρ σ r q h));
      reached = loop_solves;
      standard = λ ρ r. (own ρ, loop_standard ρ r, later.standard (update ρ k (own ρ)) (bound_sized ρ r));
      one = λ ρ r σ m. later.one (update ρ k m.0) (update_sized ρ k m.0 r m.1.sized) σ m.2
          ∙ ap (λ (v : States). (solved n cs bs (suc k) (update ρ k v)).0) (extremal_one m.1 (loop_standard ρ r));
    }

  -- so it is known of all blocks
  pub exact : (bs : List Block) → Inside n (length cs) bs → (k : ℕ) → Exact n cs bs k
  unfolding solved Solves Solution
  exact [] i k = record
      { sized = λ ρ r. r; mono = λ ρ σ r q h. h; reached = λ ρ r. (refl, refl); standard = λ ρ r. refl; one = λ ρ r σ m. m }
  exact (b ∷ bs) i k = exact_cons b bs k (inside_first n (length cs) b bs i) (exact bs (inside_rest n (length cs) b bs i) (suc k))

  -- Solving with no limit reaches what is worked out.
  pub solves : (bs : List Block) → Inside n (length cs) bs → (k : ℕ) (ρ : Valuation) → Sized n ρ
      → Solves n cs bs k ρ (solved n cs bs k ρ).0 (solved n cs bs k ρ).1
  solves bs i k = (exact bs i k).reached

  -- That is the standard solution, and there is no other.
  pub solution : (bs : List Block) → Inside n (length cs) bs → (k : ℕ) (ρ : Valuation) → Sized n ρ → Solution n cs bs k ρ (solved n cs bs k ρ).0
  solution bs i k = (exact bs i k).standard

  pub solution_one : (bs : List Block) → Inside n (length cs) bs → (k : ℕ) (ρ : Valuation) → Sized n ρ
      → (σ : Valuation) → Solution n cs bs k ρ σ → σ ≡ (solved n cs bs k ρ).0
  solution_one bs i k = (exact bs i k).one

  -- Its sets have n states, and grow with the valuation.
  pub solved_sized : (bs : List Block) → Inside n (length cs) bs → (k : ℕ) (ρ : Valuation) → Sized n ρ → Sized n (solved n cs bs k ρ).0
  solved_sized bs i k = (exact bs i k).sized

  -- Solving with no limit has one outcome.
  pub solves_one : (bs : List Block) (k : ℕ) (ρ σ τ : Valuation) (r q : ℕ) → Solves n cs bs k ρ σ r → Solves n cs bs k ρ τ q → (σ ≡ τ) × (r ≡ q)
  unfolding Solves
  solves_one [] k ρ σ τ r q d e = (d.0 ∙ sym e.0, d.1 ∙ sym e.1)
  solves_one (b ∷ bs) k ρ σ τ r q d e = loop_one (λ v x y u w t s f g.
      let m = solves_one bs (suc k) (update ρ k v) x y t s f.0 g.0 in
      (m.0, sides_one cs ordered f.1 g.1 m.0, m.1)) d e

-- Solving the blocks from k on keeps the sets of those below.
pub solved_below : (n : ℕ) (cs : List Cell) (bs : List Block) (k : ℕ) (ρ : Valuation) (j : ℕ) → j < k → (solved n cs bs k ρ).0 j ≡ ρ j
unfolding solved turn
solved_below n cs [] k ρ j h = refl
solved_below n cs (b ∷ bs) k ρ j h =
    let v : States = (looped n cs b bs k ρ).0 in
    solved_below n cs bs (suc k) (update ρ k v) j (omega arith) ∙ update_other ρ k v j (λ e. omega arith)

-- The rounds are at most m + m ^ 2 + .. + m ^ d, for d blocks and m = n + 1.
pub rounds_bound : (n : ℕ) (cs : List Cell) (bs : List Block) (k : ℕ) (ρ : Valuation) → (solved n cs bs k ρ).1 ≤ powers (suc n) (length bs)
unfolding solved turn
rounds_bound n cs [] k ρ = omega arith
rounds_bound n cs (b ∷ bs) k ρ =
    rw (powers_suc (suc n) (length bs))
    (cost (turn n cs b bs k ρ) (powers (suc n) (length bs)) (λ v. rounds_bound n cs bs (suc k) (update ρ k v)) (suc n) (start n b.sign))
