use mathlib.Core.Path.{sym, ◌∙◌}
use Rattle.opwise.specs.Opwise.{by_name, op_refusal}
use Rattle.opwise.proofs.HandedLaw.{handed-on, refused-first, fine-first}
use Rattle.opwise.proofs.op_refusal.Goals as goal

pub returns-in_err-by_name : goal.returns-in_err-by_name
unfolding by_name op_refusal
returns-in_err-by_name c =
    let e = c.in_err-by_name.field-0.0 in
    rw (handed-on c.from_residual.result e c.from_residual.ensures.1, ← c.op_names.ensures) (c.in_err-by_name.ensures ∙ sym (refused-first e _ _ c.in_err-by_name.ensures))

pub returns : goal.returns
unfolding by_name op_refusal
returns c = rw (← c.op_names.ensures, c.by_op.ensures, c.typing_of.ensures) (sym (fine-first _ _ c.in_ok-by_name.ensures))
