use native.Mathlib.Omega.{arith}
use mathlib.Core.Path.{refl, sym, ◌∙◌}
use Rattle.std.proofs.lemmas.Result.{err_from_is_err_and}
use Rattle.cases.proofs.LayoutRules.{laid}
use Rattle.cases.proofs.ModelRules.{formula_read}
use Rattle.cases.proofs.Openings.{refuses, accepts, accepted, refused, passes, stops, layout_decides, model_decides, formula_decides}
use Rattle.cases.proofs.conditions.open.Goals as goal

pub returns-in_err-header : goal.returns-in_err-header
returns-in_err-header c =
    let r = refused c.check_layout.ensures c.in_err-header.was in
    let p = err_from_is_err_and c.from_residual.result c.from_residual.ensures.1 in
    rw (p.1, p.2) (refuses (r.0 ∙ layout_decides _ r.1))

pub invariant_of-laid : goal.invariant_of-laid
invariant_of-laid c = let a = accepted c.check_layout.ensures c.in_ok-header.was in record { laid = laid _ a.1 a.0 }

pub returns-in_err-check_model : goal.returns-in_err-check_model
returns-in_err-check_model c =
    let a = accepted c.check_layout.ensures c.in_ok-header.was in
    let r = stops c.check_model.ensures c.in_err-check_model.was in
    let s = c.from_residual-in_err-check_model in
    let p = err_from_is_err_and s.result s.ensures.1 in
    rw (p.1, p.2) (refuses (r.0 ∙ model_decides _ a.0 r.1))

pub check_formula-requires : goal.check_formula-requires
check_formula-requires c =
    let a = accepted c.check_layout.ensures c.in_ok-header.was in
    let l = laid _ a.1 a.0 in
    omega (arith, l.counts.some_node, c.formula.ensures.count)

pub returns-in_err-check_formula : goal.returns-in_err-check_formula
returns-in_err-check_formula c =
    let a = accepted c.check_layout.ensures c.in_ok-header.was in
    let read = formula_read (laid _ a.1 a.0) c.formula.ensures.part c.formula.ensures.count in
    let r = stops c.check_formula.ensures c.in_err-check_formula.was in
    let s = c.from_residual-in_err-check_formula in
    let p = err_from_is_err_and s.result s.ensures.1 in
    rw (p.1, p.2) (refuses (r.0 ∙ formula_decides _ a.0 (passes c.check_model.ensures c.in_ok-check_model.was) a.1 read))

pub invariant_of-result : goal.invariant_of-result
invariant_of-result c =
    let a = accepted c.check_layout.ensures c.in_ok-header.was in
    let read = formula_read (laid _ a.1 a.0) c.formula.ensures.part c.formula.ensures.count in
    let decides = formula_decides _ a.0 (passes c.check_model.ensures c.in_ok-check_model.was) a.1 read in
    record { accepted = sym decides ∙ passes c.check_formula.ensures c.in_ok-check_formula.was }

pub returns : goal.returns
returns c =
    let a = accepted c.check_layout.ensures c.in_ok-header.was in
    let read = formula_read (laid _ a.1 a.0) c.formula.ensures.part c.formula.ensures.count in
    let decides = formula_decides _ a.0 (passes c.check_model.ensures c.in_ok-check_model.was) a.1 read in
    accepts (sym (passes c.check_formula.ensures c.in_ok-check_formula.was) ∙ decides) (refl, a.1)
