-- The promises of the translator, of whatever keeps its contract, Translated of specs/Translating.antt: b is the case file, any list of bytes,
-- number and long are the refusal number and the length answered, before and after the bytes of the buffer.
use mathlib.Core.Path.{◌≡◌, refl, sym, ap, ◌∙◌}
use mathlib.Core.Logic.{◌↔◌, ◌⊎◌, inl, inr, by_cases}
use mathlib.Core.Bool.{true}
use mathlib.Core.List.{List, [], ◌∷◌, ◌++◌, map-append, Memᴰ}
use Prim.Native.Nat.{ℕ, ◌+◌, ◌*◌, ◌≤◌, ◌<◌}
use native.Mathlib.Decide.{ℕ_discrete}
use lib.ListN.{length, get_or, drop}
use Rattle.sets.specs.Lists.{every, keep}
use Rattle.sets.specs.Refusals.{numbers_of, NoneHolds, FirstHolds}
use Rattle.sets.proofs.Refusals.{refusing, answered_member, answered_first, answered_none}
use Rattle.solver.specs.File.{Block, sizes_of, blocks, cells, operands, cell_limit, operand_limit, blocks_at}
use Rattle.solver.specs.Conditions.{WellFormed}
use Rattle.cases.specs.Action.{Action}
use Rattle.cases.specs.Formula.{Formula, Stands}
use Rattle.cases.specs.declared.Transition.{Transition}
use Rattle.cases.specs.Case.{case_of, copies, distinct, fresh}
use Rattle.cases.specs.Meaning.{from}
use Rattle.cases.specs.Conditions.{layout_conditions, model_conditions, formula_conditions, case_conditions, case_refusal, Accepted}
use Rattle.cases.proofs.TableTrees.{formula_table_lem}
use Rattle.translate.specs.declared.Cause.{Cause}
use Rattle.std.specs.Prelude.{Result, Ok, Err}
use Rattle.translate.specs.Whole.{binder_nodes, formula_of, block_of, steps_of}
use Rattle.translate.specs.Tables.{RHS, Equation}
use Rattle.translate.specs.Cells.{targets, cells_from}
use Rattle.translate.specs.Unfolding.{Plain, plain, Unfolding, equations_of, Agree}
use Rattle.translate.specs.Bytes.{system_of, all_operands}
use Rattle.translate.specs.Translating.{file, translate_conditions, translate_refusal, written_number, written_length, file_after, Translated}
use Rattle.translate.proofs.Unfold.{sides, cells_RHS, unfolding_one, cells_ordered, cells_inside, unfolded_RHS}
use Rattle.cases.proofs.Distinct.{copy_none, labels_apart}
use Rattle.translate.proofs.Equations.{blocks_E, of_own, increasing_whole}
use Rattle.translate.proofs.Equations as equations
use Rattle.translate.proofs.BinderNodes.{increasing_binders}
use Rattle.translate.proofs.ShapeLaws.{keep_append}
use Rattle.translate.proofs.CaseFile as of
use Rattle.cases.proofs.Accepting.{passed}
use Rattle.translate.proofs.Translations.{some_number, unrefused, lacks_room, own_number}
use Rattle.translate.proofs.AcceptedCases.{fit}

-- ---- the answer

-- An answer with no number is a file, of the length answered.
pub is_file : (w : Result ℕ Cause) → written_number w ≡ 0 → w ≡ Ok (written_length w)
unfolding written_number written_length
is_file (Ok k) z = refl
is_file (Err cause) z = absurd (some_number cause z)

-- Of what translate answers and leaves:
module _ {b before after : List ℕ} {number long : ℕ} (t : Translated b before number long after) where
  -- After a refusal nothing changed, and no length is answered.
  pub refused_unchanged : ¬ (number ≡ 0) → (after ≡ before) × (long ≡ 0)
  unfolding file_after
  refused_unchanged h =
      let some : ¬ (translate_refusal b (length before) ≡ 0) = λ z. h (t.answers ∙ z) in
      (t.bytes ∙ refusing _ _ before some, t.long_is ∙ refusing _ _ 0 some)

  -- Otherwise the file stands at the start, all beyond it is unchanged, and its length is answered.
  pub writes : number ≡ 0 → (after ≡ file b ++ drop (length (file b)) before) × (long ≡ length (file b))
  unfolding file_after
  writes z = let none : translate_refusal b (length before) ≡ 0 = sym t.answers ∙ z in (t.bytes ∙ rw none, t.long_is ∙ rw none)

  -- A file is written exactly if the case is accepted and there is room for its file.
  pub written_when : number ≡ 0 ↔ Accepted b × (length (file b) ≤ length before)
  written_when = rw t.answers (unrefused b (length before))

  -- The number is 13 exactly if the case is accepted and there is no room.
  pub too_short_when : number ≡ 13 ↔ Accepted b × (length before < length (file b))
  too_short_when = rw t.answers (lacks_room b (length before))

  -- A case that is not accepted is refused with its own number, whatever the room.
  pub refused_when : ¬ Accepted b → number ≡ case_refusal b
  refused_when d = t.answers ∙ own_number b (length before) d

  -- The number is that of a condition, or there is none.
  pub one_number : (number ≡ 0) ⊎ Memᴰ number (numbers_of (translate_conditions b (length before)))
  unfolding translate_refusal
  one_number = by_cases (ℕ_discrete number 0) inl (λ d. inr (answered_member _ t.answers d))

  -- That condition holds, and none before it.
  pub first_condition : (k : ℕ) → ¬ (k ≡ 0) → number ≡ k ↔ FirstHolds (translate_conditions b (length before)) k
  unfolding translate_refusal
  first_condition = answered_first _ t.answers

  -- Where a file is written none holds.
  pub no_condition : number ≡ 0 ↔ NoneHolds (translate_conditions b (length before))
  unfolding translate_refusal translate_conditions case_conditions layout_conditions model_conditions formula_conditions every
  no_condition = answered_none (translate_conditions b (length before)) t.answers tt

-- ---- transitions

-- A recorded copy adds no transition, so it adds no operand.
pub copy_adds_none : (us : List Transition) (t : Transition) (vs : List Transition) → 0 < copies t us → distinct (us ++ (t ∷ vs)) ≡ distinct (us ++ vs)
copy_adds_none = copy_none

-- Transitions that differ in label only are two operands of each box and diamond that accepts both labels.
pub two_operands : (n : ℕ) (block : ℕ → ℕ) (i s : ℕ) (α : Action) (us : List Transition) (t u : Transition) (vs : List Transition)
    → ¬ (t.label ≡ u.label) → copies t us ≡ 0 → copies u us ≡ 0 → from s α t ≡ true → from s α u ≡ true
    → targets n (distinct (us ++ (t ∷ u ∷ vs))) block i α s
    ≡ targets n (distinct us) block i α s ++ ((i * n + t.target) ∷ (i * n + u.target) ∷ targets n (fresh (us ++ (t ∷ []) ++ (u ∷ [])) vs) block i α s)
unfolding targets keep
two_operands n block i s α us t u vs h p q x y =
    rw (labels_apart us t u vs h p q, keep_append (from s α) (distinct us) (t ∷ u ∷ fresh (us ++ (t ∷ []) ++ (u ∷ [])) vs), x, y, map-append)

-- ---- the file

-- Of an accepted case:
module _ (b : List ℕ) (accepted : Accepted b) where
  -- The file passes conditions 11 and 12.
  pub well_formed : WellFormed (file b)
  well_formed = of.formed (case_of b) (fit b accepted)

  -- Read back it has the same states, initial state, blocks, cells and operands, and as many of them.
  pub read_back : ((sizes_of (file b)).states ≡ (case_of b).states) × ((sizes_of (file b)).initial ≡ (case_of b).initial)
      × ((sizes_of (file b)).blocks ≡ length (system_of (case_of b)).blocks) × ((sizes_of (file b)).cells ≡ length (system_of (case_of b)).cells)
      × ((sizes_of (file b)).operands ≡ length (all_operands (system_of (case_of b)).cells))
      × (blocks (file b) ≡ (system_of (case_of b)).blocks) × (cells (file b) ≡ (system_of (case_of b)).cells)
      × (operands (file b) ≡ all_operands (system_of (case_of b)).cells)
  read_back =
      let c = case_of b in
      let f = fit b accepted in (
        of.states_back c f,
        of.initial_back c f,
        of.block_count_back c f,
        of.cell_count_back c f,
        of.operand_count_back c f,
        of.blocks_back c f,
        of.cells_back c f,
        of.operands_back c f,
      )

  -- Its length is 36 + 8d + 12c + 4p, with c and p within the limits.
  pub file_length : length (file b)
      ≡ blocks_at + 8 * length (system_of (case_of b)).blocks + 12 * length (system_of (case_of b)).cells + 4 * length (all_operands (system_of (case_of b)).cells)
  file_length = of.length_file (case_of b) (fit b accepted)

  pub within_limits : (length (system_of (case_of b)).cells ≤ cell_limit) × (length (all_operands (system_of (case_of b)).cells) ≤ operand_limit)
  within_limits = (of.cells_high (case_of b) (fit b accepted), of.operands_high (case_of b) (fit b accepted))

  own : (es : ℕ → Plain) → Unfolding (cells (file b)) es
      → Unfolding (cells_from (case_of b).states (steps_of (case_of b)) (block_of (case_of b)) (formula_of (case_of b)) 0) es
  unfolding system_of
  own es u = rw (of.cells_back (case_of b) (fit b accepted)) at u

  -- The file's cells can be unfolded along their operands,
  pub cells_unfold : (es : ℕ → Plain) × Unfolding (cells (file b)) es
  unfolding system_of
  cells_unfold =
      let c = case_of b in
      let f = fit b accepted in (
        sides c.states (steps_of c) (block_of c) (formula_of c),
        rw (of.cells_back c f) (cells_RHS c.states f.states_low (steps_of c) (of.ends c f) (block_of c) (formula_of c)),
      )

  -- and in one way only.
  pub unfolds_once : (ds es : ℕ → Plain) → Unfolding (cells (file b)) ds → Unfolding (cells (file b)) es
      → (i : ℕ) → i < length (cells (file b)) → ds i ≡ es i
  unfolding system_of
  unfolds_once ds es u w i h =
      let c = case_of b in
      let f = fit b accepted in
      unfolding_one (cells_from c.states (steps_of c) (block_of c) (formula_of c) 0)
      (cells_ordered c.states f.states_low (steps_of c) (of.ends c f) (block_of c) (formula_of c))
      (cells_inside c.states f.states_low (steps_of c) (of.ends c f) (block_of c) (formula_of c))
      ds es (own ds u) (own es w) i (rw (of.cells_back c f) at h)

  module _ (es : ℕ → Plain) (u : Unfolding (cells (file b)) es) where
    -- However that is done, cell i * n + s is exactly the table's right-hand side of node i in state s.
    pub cell_RHS : {i : ℕ} {x : Formula} → Stands (formula_of (case_of b)) i x → (s : ℕ) → s < (case_of b).states
        → es (i * (case_of b).states + s) ≡ plain (RHS (steps_of (case_of b)) (block_of (case_of b)) x s)
    cell_RHS =
        let c = case_of b in
        let f = fit b accepted in
        unfolded_RHS c.states f.states_low (steps_of c) (of.ends c f) (block_of c) (formula_of c) es (own es u)

    -- Block k of the file is equation k of the table: its sign, its variable, and its right-hand side in each state.
    pub block_E : (b₀ : Block) (e₀ : Equation (steps_of (case_of b)) (block_of (case_of b))) (k : ℕ) → k < length (equations_of (case_of b))
        → Agree (case_of b).states (steps_of (case_of b)) (block_of (case_of b)) (formula_of (case_of b)) es
        (get_or (blocks (file b)) k b₀) (get_or (equations_of (case_of b)) k e₀) (get_or (binder_nodes (formula_of (case_of b))) k 0)
    unfolding system_of
    block_E b₀ e₀ k h =
        let c = case_of b in
        let f = fit b accepted in
        rw (of.blocks_back c f) (blocks_E c.states f.states_low (steps_of c) (of.ends c f) (block_of c) (formula_of c) es (own es u) b₀ e₀ k h)

  -- There are as many blocks as equations, and equation k is that of block k.
  pub as_many_blocks : length (blocks (file b)) ≡ length (equations_of (case_of b))
  unfolding system_of
  as_many_blocks =
      let c = case_of b in
      ap length (of.blocks_back c (fit b accepted)) ∙ equations.length_blocks c.states (steps_of c) (block_of c) (formula_of c)

  pub own_variable : (e₀ : Equation (steps_of (case_of b)) (block_of (case_of b))) (k : ℕ) → k < length (equations_of (case_of b))
      → (get_or (equations_of (case_of b)) k e₀).of ≡ k
  unfolding case_of
  own_variable =
      of_own (steps_of (case_of b)) (formula_of (case_of b))
      (increasing_whole (case_of b).formula (increasing_binders _ _ (formula_table_lem _ _ (passed b accepted).formula)))
