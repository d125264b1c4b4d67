use mathlib.Core.Path.{◌≡◌}
use borrow.Author.Rules.{rules}
use Rattle.std.specs.Prelude.{Err}
use Rattle.scope.proofs.ScopeLaw.{said, said_bad}
use Rattle.scope.proofs.names_in.Goals as goal

pub returns-in_err-after_op : goal.returns-in_err-after_op
returns-in_err-after_op c =
    let e = c.in_err-after_op in
    let same : c.from_residual.result ≡ Err e.field-0.0 = search rules in
    rw same (said_bad _ e.ensures)

pub returns : goal.returns
returns c = said c.in_ok-after_op.ensures
