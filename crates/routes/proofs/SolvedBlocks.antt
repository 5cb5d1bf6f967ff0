-- Solving blocks: the set of the first block, and how the later ones are solved at last.
use mathlib.Core.Path.{◌≡◌, refl, sym, ap, ◌∙◌}
use mathlib.Core.List.{List, [], ◌∷◌, ◌++◌}
use Prim.Native.Nat.{ℕ, suc, ◌+◌, ◌<◌}
use native.Mathlib.Omega.{arith}
use lib.ListN.{length}
use Rattle.sets.specs.States.{States, Valuation, update, Sized}
use Rattle.solver.specs.Cells.{Cell}
use Rattle.solver.specs.internal.Forms.{Ordered, Inside}
use Rattle.solver.specs.File.{Block}
use Rattle.solver.specs.computed.Solved.{Reached, solved}
use Rattle.sets.proofs.Valuation.{update_same, update_other, update_sized}
use Rattle.solver.proofs.Solving.{inside_rest, looped, solved_cons, solved_sized, solved_below}

-- The first block's set is the one at which its loop stops.
pub first_set : (n : ℕ) (cs : List Cell) (b : Block) (bs : List Block) (k : ℕ) (ρ : Valuation)
    → (solved n cs (b ∷ bs) k ρ).0 k ≡ (looped n cs b bs k ρ).0
first_set n cs b bs k ρ =
    let v : States = (looped n cs b bs k ρ).0 in
    ap (λ (r : Reached). r.0 k) (solved_cons n cs b bs k ρ) ∙ solved_below n cs bs (suc k) (update ρ k v) k (omega arith) ∙ update_same ρ k v

-- τ is reached by solving the blocks bs from block m on, with sets that are those of ρ below block k.
pub record Later (n : ℕ) (cs : List Cell) (bs : List Block) (m k : ℕ) (ρ τ : Valuation) : Type 0 where
  pub sets : Valuation
  pub sized : Sized n sets
  pub kept : (j : ℕ) → j < k → sets j ≡ ρ j
  pub ends : τ ≡ (solved n cs bs m sets).0

-- Solving blocks ends with solving the later ones, where the sets of blocks before all of them are as they were.
pub later : (n : ℕ) (cs : List Cell) → Ordered cs → (ds bs : List Block) → Inside n (length cs) (ds ++ bs) → (k : ℕ) (ρ : Valuation) → Sized n ρ
    → Later n cs bs (k + length ds) k ρ (solved n cs (ds ++ bs) k ρ).0
later n cs ordered [] bs i k ρ r =
    let start : k ≡ k + 0 = omega arith in
    record { sets = ρ; sized = r; kept = λ j h. refl; ends = ap (λ (m : ℕ). (solved n cs bs m ρ).0) start }
later n cs ordered (b ∷ ds) bs i k ρ r =
    let v : States = (looped n cs b (ds ++ bs) k ρ).0 in
    let long : length v ≡ n = ap length (sym (first_set n cs b (ds ++ bs) k ρ)) ∙ solved_sized n cs ordered (b ∷ (ds ++ bs)) i k ρ r k in
    let rest = later n cs ordered ds bs (inside_rest n (length cs) b (ds ++ bs) i) (suc k) (update ρ k v) (update_sized ρ k v r long) in
    let start : suc k + length ds ≡ k + suc (length ds) = omega arith in
    record {
      sets = rest.sets;
      sized = rest.sized;
      kept = λ j h. rest.kept j (omega arith) ∙ update_other ρ k v j (λ e. omega arith);
      ends = ap (λ (r : Reached). r.0) (solved_cons n cs b (ds ++ bs) k ρ) ∙ rest.ends ∙ ap (λ (m : ℕ). (solved n cs bs m rest.sets).0) start;
    }
