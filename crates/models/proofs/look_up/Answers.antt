-- The layout first, then the transition, then where it stands.
use mathlib.Core.Path.{ap, ◌∙◌}
use native.Mathlib.Omega.{arith}
use lib.ListN.{length}
use Rattle.std.proofs.lemmas.Result.{err_from_is_err_and}
use Rattle.cases.specs.declared.Header.{Header}
use Rattle.cases.specs.File.{case_within}
use Rattle.cases.specs.internal.Checks.{transition_part}
use Rattle.cases.proofs.LayoutRules.{laid}
use Rattle.cases.proofs.Openings.{accepted}
use Rattle.records.proofs.Files.{within_few}
use Rattle.models.proofs.ModelLaws.{laid_out, not_laid_out, look_layout, look_range, right_is, count_is, placed}
use Rattle.models.proofs.look_up.Goals as goal

pub returns-in_err-header : goal.returns-in_err-header
returns-in_err-header c =
    let p = err_from_is_err_and c.from_residual.result c.from_residual.ensures.1 in
    rw (p.1, p.2) (look_layout c.args.model.now c.args.t (not_laid_out c.args.model.now c.case_end.result c.case_end.ensures.1 c.check_layout.ensures c.in_err-header.was))

pub returns-then-not-transition_holds : goal.returns-then-not-transition_holds
returns-then-not-transition_holds c =
    let a = laid_out c.args.model.now c.case_end.result c.case_end.ensures.1 c.check_layout.ensures c.in_ok-header.was in
    record {
      number = look_range c.args.model.now c.args.t a.0 (right_is c.args.model.now c.args.t a.1 c.transition_holds.ensures c.if-not-transition_holds.true);
      some = λ z. omega arith;
    }

pub invariant_of-case : goal.invariant_of-case
invariant_of-case c = let a = accepted c.check_layout.ensures c.in_ok-header.was in record { laid = laid _ a.1 a.0 }

pub returns : goal.returns
returns c =
    let m = c.args.model.now in
    let cut = c.case_end.ensures.1 in
    let a = laid_out m c.case_end.result cut c.check_layout.ensures c.in_ok-header.was in
    record {
      layout = a.0;
      right = right_is m c.args.t a.1 c.transition_holds.ensures c.if-not-transition_holds.false;
      laid = laid (case_within m) a.1 a.0;
      ends = ap length cut;
      inside = omega (arith, ap length cut, within_few m);
      count = count_is m a.1;
      place =
          placed m c.args.t (c.transitions.ensures.part ∙ ap transition_part cut) (c.transitions.ensures.count ∙ ap (λ (h : Header). h.transitions) a.1) c.find-place.result c.find-place.ensures;
    }
