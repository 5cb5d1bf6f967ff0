-- Laws of the price.
use mathlib.Core.Path.{◌≡◌, refl, ◌∙◌}
use mathlib.Core.Logic.{◌↔◌}
use Prim.Native.Nat.{ℕ, zero, suc, ◌*◌, ◌<◌, ◌≤◌}
use native.Mathlib.Nat.{le_trans, mul-le-mul_right, lt_of_mul-lt-mul_right, suc-mul}
use native.Mathlib.Omega.{arith}
use borrow.Author.Tests.{ne_eqb}
use Rattle.std.specs.Int.{div_ceil}
use Rattle.std.proofs.lemmas.Grind.{div_ceil_times}
use Rattle.sets.specs.Refusals.{Outcome, GivesMarks, Spent}
use Rattle.routes.specs.Price.{round_price, solved_price, price}

-- What is started: m times k is as much as x, or more, exactly if m is the quotient rounded up, or more.
pub started : (x k m : ℕ) → 0 < k → div_ceil x k ≤ m ↔ x ≤ m * k
started x k m p =
    let (enough, least) = div_ceil_times x k p in (
      (λ h. le_trans enough (mul-le-mul_right k h)),
      (λ h. omega (arith, lt_of_mul-lt-mul_right k {m = div_ceil x k} {n = suc m} (omega (arith, least, h, suc-mul m k)))),
    )

module _ (o : Outcome) (cells limit : ℕ) where
  -- by the outcome: solved, spent, or another refusal
  pub solved_costs : GivesMarks o → price o cells limit ≡ solved_price o.rounds cells
  unfolding price
  solved_costs g = rw g refl

  pub spent_costs : Spent o → price o cells limit ≡ round_price limit
  unfolding price
  spent_costs s = rw s refl

  pub unpaid : ¬ GivesMarks o → ¬ Spent o → price o cells limit ≡ 0
  unfolding price
  unpaid g s = go o.refusal refl
    where
      go : (k : ℕ) → o.refusal ≡ k → price o cells limit ≡ 0
      go zero e = absurd (g e)
      go (suc k) e = rw (e, ne_eqb (suc k) 14 (λ z. s (e ∙ z))) refl
