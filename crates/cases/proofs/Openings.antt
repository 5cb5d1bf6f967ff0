-- What opening a case answers, step by step.
use mathlib.Core.Path.{◌≡◌, sym, ap, subst, ◌∙◌}
use mathlib.Core.Logic.{◌↔◌}
use mathlib.Core.List.{List, Memᴰ}
use Prim.Native.Nat.{ℕ}
use native.Mathlib.Omega.{arith}
use Rattle.std.specs.Prelude.{Result, Ok, Err}
use Rattle.sets.specs.Lists.{every}
use Rattle.sets.specs.Refusals.{numbers_of, first_of, NoneHolds, FirstHolds}
use Rattle.sets.proofs.Refusals.{none_of_first, one_of_first, answered_member, answered_first, answered_none}
use Rattle.cases.specs.declared.Cause.{Cause}
use Rattle.cases.specs.declared.Cause.TheVariants.{Small, Version, Count, Offset, Length, Model, Labels, Actions, Formula, Variable, Depth}
use Rattle.cases.specs.Prefix.{Node}
use Rattle.cases.specs.File.{Header, header_of, formula_table}
use Rattle.cases.specs.Conditions.{layout_conditions, model_conditions, formula_conditions, case_conditions, case_refusal}
use Rattle.cases.specs.Opening.{case_number, opened_number, Opens}

-- 0 is the number of no cause
pub some_number : (cause : Cause) → ¬ (case_number cause ≡ 0)
some_number Small e = omega arith
some_number Version e = omega arith
some_number Count e = omega arith
some_number Offset e = omega arith
some_number Length e = omega arith
some_number Model e = omega arith
some_number Labels e = omega arith
some_number Actions e = omega arith
some_number Formula e = omega arith
some_number Variable e = omega arith
some_number Depth e = omega arith

module _ {A : Type 0} {k : ℕ} {right : A → Type 0} where
  -- a refusal
  pub refuses : {cause : Cause} → case_number cause ≡ k → Opens k right (Err cause)
  unfolding opened_number
  refuses e = record { number = e; value = λ x d. cc }

  -- what is right
  pub accepts : {x : A} → 0 ≡ k → right x → Opens k right (Ok x)
  unfolding opened_number
  accepts {x = x} e r = record { number = e; value = λ y d. subst right (cc) r }

  -- what is known of a value that is answered
  pub accepted : {answer : Result A Cause} {x : A} → Opens k right answer → answer ≡ Ok x → (k ≡ 0) × right x
  unfolding opened_number
  accepted o e = (sym (rw e at o.number), o.value _ e)

  -- and of a refusal
  pub refused : {answer : Result A Cause} {cause : Cause} → Opens k right answer → answer ≡ Err cause → (case_number cause ≡ k) × ¬ (k ≡ 0)
  unfolding opened_number
  refused {cause = cause} o e = (rw e at o.number, λ z. some_number cause (rw e at o.number ∙ z))

-- an answer that holds nothing else
pub number_err : (cause : Cause) {k : ℕ} → case_number cause ≡ k → opened_number {A = Unit {0}} (Err cause) ≡ k
unfolding opened_number
number_err cause e = e

pub number_ok : {k : ℕ} → 0 ≡ k → opened_number {A = Unit {0}} (Ok tt) ≡ k
unfolding opened_number
number_ok e = e

pub passes : {answer : Result (Unit {0}) Cause} {k : ℕ} → opened_number answer ≡ k → answer ≡ Ok tt → k ≡ 0
unfolding opened_number
passes {answer = answer} n e = sym n ∙ ap opened_number e

pub stops : {answer : Result (Unit {0}) Cause} {k : ℕ} {cause : Cause} → opened_number answer ≡ k → answer ≡ Err cause → (case_number cause ≡ k) × ¬ (k ≡ 0)
unfolding opened_number
stops {cause = cause} n e = let is = sym (ap opened_number e) ∙ n in (is, λ z. some_number cause (is ∙ z))

-- ---- one list of conditions after another

module _ (b : List ℕ) where
  -- the layout decides
  pub layout_decides : ¬ (first_of (layout_conditions b) ≡ 0) → first_of (layout_conditions b) ≡ case_refusal b
  unfolding case_refusal case_conditions
  layout_decides d = sym (one_of_first (layout_conditions b) _ d)

  module _ (none : first_of (layout_conditions b) ≡ 0) where
    -- the model does
    pub model_decides : ¬ (first_of (model_conditions b) ≡ 0) → first_of (model_conditions b) ≡ case_refusal b
    unfolding case_refusal case_conditions layout_conditions every
    model_decides d = sym (none_of_first (layout_conditions b) _ tt none ∙ one_of_first (model_conditions b) _ d)

    -- the formula does
    pub formula_decides :
        first_of (model_conditions b) ≡ 0 → {h : Header} {table : List Node} → h ≡ header_of b → table ≡ formula_table b
        → first_of (formula_conditions h.actions table) ≡ case_refusal b
    unfolding case_refusal case_conditions layout_conditions model_conditions every
    formula_decides none2 is read = rw (is, read) (sym (none_of_first (layout_conditions b) _ tt none ∙ none_of_first (model_conditions b) _ tt none2))

-- ---- promises of whatever keeps the contract of open

module _ (b : List ℕ) {A : Type 0} {right : A → Type 0} {answer : Result A Cause} (o : Opens (case_refusal b) right answer) where
  -- A refusal has the number of one of the case's conditions.
  pub one_number : ¬ (opened_number answer ≡ 0) → Memᴰ (opened_number answer) (numbers_of (case_conditions b))
  unfolding case_refusal
  one_number = answered_member (case_conditions b) o.number

  -- It is that of the first condition that holds; a header says that none does.
  pub first_condition : (k : ℕ) → ¬ (k ≡ 0) → opened_number answer ≡ k ↔ FirstHolds (case_conditions b) k
  unfolding case_refusal
  first_condition = answered_first (case_conditions b) o.number

  pub no_condition : opened_number answer ≡ 0 ↔ NoneHolds (case_conditions b)
  unfolding case_refusal case_conditions layout_conditions model_conditions formula_conditions every
  no_condition = answered_none (case_conditions b) o.number tt
