use mathlib.Core.Path.{◌≡◌, sym, ap, ◌∙◌}
use mathlib.Core.Bool.{Bool}
use mathlib.Core.List.{List}
use Prim.Native.Nat.{ℕ, ◌≤◌}
use native.Mathlib.Omega.{arith}
use lib.Dec.{eqb}
use lib.ListN.{length}
use Rattle.sets.specs.Lists.{for_some}
use Rattle.cases.specs.File.{header_size, version}
use Rattle.cases.specs.Conditions.{versions}
use Rattle.cases.proofs.LayoutRules.{header_least, small_refuses, version_refuses, count_refuses, offset_refuses, length_refuses, layout_passes, counts_hold}
use Rattle.cases.proofs.Openings.{refuses, accepts}
use Rattle.cases.proofs.conditions.check_layout.Goals as goal

-- the header is there
whole : (b : List ℕ) {v size : ℕ} → v ≡ version b → size ≡ header_size v → size ≤ length b → header_size (version b) ≤ length b
whole b e s h = omega (arith, ap header_size e, s, h)

-- the version was tested
tested : (b : List ℕ) {v : ℕ} {answer right : Bool} → v ≡ version b → answer ≡ for_some (eqb v) versions → answer ≡ right
    → for_some (eqb (version b)) versions ≡ right
tested b e a h = ap (λ v. for_some (eqb v) versions) (sym e) ∙ sym a ∙ h

pub returns-then-case-lt-HEADER : goal.returns-then-case-lt-HEADER
returns-then-case-lt-HEADER c = refuses (small_refuses _ (omega (arith, header_least (version c.args.case.now))))

pub returns-then-case-header_size : goal.returns-then-case-header_size
returns-then-case-header_size c = refuses (small_refuses _ (omega (arith, ap header_size c.version-v.ensures, c.header_size.ensures.0)))

pub returns-then-not-is_taken : goal.returns-then-not-is_taken
returns-then-not-is_taken c =
    let b = c.args.case.now in
    refuses (version_refuses _ (whole b c.version-v.ensures c.header_size.ensures.0 c.if-case-header_size.false)
    (tested b c.version-v.ensures c.is_taken.ensures c.if-not-is_taken.true))

pub returns-then-bad_count : goal.returns-then-bad_count
returns-then-bad_count c =
    let b = c.args.case.now in
    refuses (count_refuses _ (whole b c.version-v.ensures c.header_size.ensures.0 c.if-case-header_size.false)
    (tested b c.version-v.ensures c.is_taken.ensures c.if-not-is_taken.false) c.header-h.ensures
    (sym c.bad_count.ensures ∙ c.if-bad_count.true))

pub bad_offset-requires : goal.bad_offset-requires
bad_offset-requires c = counts_hold _ (sym c.bad_count.ensures ∙ c.if-bad_count.false)

pub returns-then-bad_offset : goal.returns-then-bad_offset
returns-then-bad_offset c =
    let b = c.args.case.now in
    refuses (offset_refuses _ (whole b c.version-v.ensures c.header_size.ensures.0 c.if-case-header_size.false)
    (tested b c.version-v.ensures c.is_taken.ensures c.if-not-is_taken.false) c.header-h.ensures
    (sym c.bad_count.ensures ∙ c.if-bad_count.false) (sym c.bad_offset.ensures ∙ c.if-bad_offset.true))

pub bad_length-requires-clause-counts_fit : goal.bad_length-requires-clause-counts_fit
bad_length-requires-clause-counts_fit c = counts_hold _ (sym c.bad_count.ensures ∙ c.if-bad_count.false)

pub returns-then-bad_length : goal.returns-then-bad_length
returns-then-bad_length c =
    let b = c.args.case.now in
    refuses (length_refuses _ (whole b c.version-v.ensures c.header_size.ensures.0 c.if-case-header_size.false)
    (tested b c.version-v.ensures c.is_taken.ensures c.if-not-is_taken.false) c.header-h.ensures
    (sym c.bad_count.ensures ∙ c.if-bad_count.false) (sym c.bad_offset.ensures ∙ c.if-bad_offset.false)
    (sym c.bad_length.ensures ∙ c.if-bad_length.true))

pub returns : goal.returns
returns c =
    let b = c.args.case.now in
    accepts (layout_passes _ (whole b c.version-v.ensures c.header_size.ensures.0 c.if-case-header_size.false)
    (tested b c.version-v.ensures c.is_taken.ensures c.if-not-is_taken.false) c.header-h.ensures
    (sym c.bad_count.ensures ∙ c.if-bad_count.false) (sym c.bad_offset.ensures ∙ c.if-bad_offset.false)
    (sym c.bad_length.ensures ∙ c.if-bad_length.false)) c.header-h.ensures
