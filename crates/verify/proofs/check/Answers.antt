use mathlib.Core.Path.{sym, ap, ◌∙◌}
use Rattle.judge.specs.Refusals.{Refusal}
use Rattle.opwise.proofs.HandedLaw.{handed-on, refused-first, fine-first}
use Rattle.verify.specs.Verify.{verdict}
use Rattle.verify.proofs.check.Goals as goal

pub returns-in_err-read_refusal : goal.returns-in_err-read_refusal
unfolding verdict
returns-in_err-read_refusal c =
    let e = c.in_err-read_refusal.field-0.0 in
    rw (handed-on c.from_residual.result e c.from_residual.ensures.1) (c.in_err-read_refusal.ensures ∙ sym (refused-first e _ _ c.in_err-read_refusal.ensures))

pub checked-requires : goal.checked-requires
checked-requires c = ap (λ (x : Refusal). x.number) (sym c.in_ok-read_refusal.ensures)

pub returns : goal.returns
unfolding verdict
returns c = rw c.checked.ensures (sym (fine-first _ _ c.in_ok-read_refusal.ensures))
