use mathlib.Core.Path.{◌≡◌, sym, ap, ◌∙◌}
use borrow.Author.Rules.{rules}
use Rattle.std.specs.Prelude.{Err}
use Rattle.judge.specs.Refusals.{Refusal}
use Rattle.judge.proofs.RefusedLaw.{refused-number}
use Rattle.evaluation.specs.Evaluated.{answer}
use Rattle.evaluation.proofs.FittedLaw.{refused, not-refused, as_values}
use Rattle.evaluate.proofs.run_text.Goals as goal

pub returns-in_err-check : goal.returns-in_err-check
returns-in_err-check c =
    let e = c.in_err-check.field-0.0 in
    let same : c.from_residual.result ≡ Err e = search rules in
    let r = c.in_err-check.ensures in
    rw same (ap (λ (x : Refusal). answer x c.args.store.now) r ∙ refused _ _ _ (λ z. refused-number e (ap (λ (x : Refusal). x.number) r ∙ z)))

pub run_fitted-requires : goal.run_fitted-requires
run_fitted-requires c =
    let p = c.program_of-p.ensures in
    (ap (λ (x : Refusal). x.number) (sym c.in_ok-check.ensures), p, as_values _ _ _ p c.values_in.ensures)

pub returns : goal.returns
returns c = c.run_fitted.ensures ∙ not-refused _ _ _ (ap (λ (x : Refusal). x.number) (sym c.in_ok-check.ensures))
