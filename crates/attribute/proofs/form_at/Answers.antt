use mathlib.Core.Path.{sym, ap, ◌∙◌}
use native.Mathlib.Omega.{arith}
use Rattle.std.specs.Prelude.{◌≢◌}
use borrow.Author.Tests.{ne_eqb}
use Rattle.optable.specs.Table.{kind_number, choice_form}
use Rattle.attribute.specs.Attribute.{form_at}
use Rattle.attribute.proofs.ScanLaw.{form-past, form-number, form-choice, form-word}
use Rattle.attribute.proofs.form_at.Goals as goal

pub returns-in_err-choice_kind_at-in-5 : goal.returns-in_err-choice_kind_at-in-5
returns-in_err-choice_kind_at-in-5 c =
    ap kind_number c.from_residual.ensures ∙ sym form-past ∙ ap choice_form c.in_err-choice_kind_at-in-5.ensures.found
    ∙ form-choice _ _ _ c.token_after-t.ensures c.in-5.is

pub returns-in-2 : goal.returns-in-2
returns-in-2 c = form-number _ _ _ c.token_after-t.ensures c.in-2.is

pub returns-in_ok-choice_kind_at-in-5 : goal.returns-in_ok-choice_kind_at-in-5
returns-in_ok-choice_kind_at-in-5 c =
    c.choice_form.ensures ∙ ap choice_form c.in_ok-choice_kind_at-in-5.ensures.found ∙ form-choice _ _ _ c.token_after-t.ensures c.in-5.is

pub returns-in-1 : goal.returns-in-1
returns-in-1 c = c.word_form.ensures ∙ form-word _ _ _ c.token_after-t.ensures c.in-1.is

pub returns-in_default : goal.returns-in_default
unfolding form_at
returns-in_default c =
    let t = c.token_after-t in
    let m = c.in_default in
    let a : t.result.kind ≢ 2 = omega arith in
    let b : t.result.kind ≢ 5 = omega arith in
    let d : t.result.kind ≢ 1 = omega arith in
    simp (ne_eqb _ _ a, ne_eqb _ _ b, ne_eqb _ _ d, ← t.ensures)
